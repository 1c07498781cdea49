-- A row of cells as a ring: document 01, "The ring of cells". Assumes nothing.
use Rattle.std.specs.Prelude.{List, ℕ, ◌%◌, length, get_or}

-- "then the position goes up by one, and from L - 1 to 0": the cells of a row as they pass, round and round. A place is
-- counted from cell 0 on and goes on after the last cell, so cell k of L stands at the places k, k + L, k + 2 L, ..
unfoldable pub cells_of : List ℕ → ℕ → ℕ
cells_of row place = get_or row (place % length row) 0

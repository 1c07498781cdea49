-- Rows of cells. Assumes nothing.
use Rattle.std.specs.Prelude.{ℕ, ◌+◌, List, ◌++◌, length, take, drop}

-- a row whose cells from a place on become others, as many as these are
abbrev pub row_with : List ℕ → ℕ → List ℕ → List ℕ
row_with row place cells = take place row ++ cells ++ drop (place + length cells) row

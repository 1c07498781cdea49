-- A track as a ring, and what passes of it: document 01, "The ring of cells". Assumes nothing.
use Rattle.std.specs.Prelude.{cond, List, ℕ, zero, suc, ◌+◌, ◌%◌, eqb}
use Rattle.fields.specs.Rings.{cells_of}

-- "the position goes up by one, and from L - 1 to 0": the position n byte times after `from`, on a ring of so many cells
abbrev pub position_at : ℕ → ℕ → ℕ → ℕ
position_at size from n = (from + n) % size

-- "Each byte time the cell at the head position passes": the stream of cells that pass from a position on
unfoldable pub passing : List ℕ → ℕ → ℕ → ℕ
passing row from n = cells_of row (from + n)

-- "The byte time in which cell 0 passes is an index pulse": how many of the first n byte times from a position on are
unfoldable pub pulses_in : ℕ → ℕ → ℕ → ℕ
pulses_in size from zero = 0
pulses_in size from (suc n) = cond (eqb (position_at size from n) 0) (suc (pulses_in size from n)) (pulses_in size from n)

-- The row of cells that a track is: document 01, "The ring of cells", and request h. Assumes nothing.
use Rattle.std.specs.Prelude.{Bool, ◌&&◌, ℕ, leb}

-- "A track is a lent row of L numbers, L from 2,048 ..", and "The largest ring goes from 6,400 to 10,416 cells."
abbrev pub shortest_row : ℕ
shortest_row = 2048

abbrev pub longest_row : ℕ
longest_row = 10416

unfoldable pub length_within : ℕ → Bool
length_within length = leb shortest_row length && leb length longest_row

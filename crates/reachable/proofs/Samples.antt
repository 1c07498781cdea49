-- What examples take: lines with Ready and HLT on, and tracks of cells of 00. Assumes nothing.
use mathlib.Core.Path.{◌≡◌}
use mathlib.Core.Bool.{true, false}
use mathlib.Core.List.{List}
use Prim.Native.Nat.{ℕ, ◌≤◌, ◌<◌}
use native.Mathlib.Omega.{arith}
use lib.ListN.{length, get_or, replicate, length-replicate, get_or-replicate}
use Rattle.registers.specs.declared.Lines.{Lines}

-- Ready and HLT, no protect and no track 0
abbrev pub on : Lines
on = record { ready = true; protect = false; track0 = false; hlt = true }

-- the cells of a sample's track
abbrev pub sample_length : ℕ
sample_length = 2048

-- a track of so many cells, none of them in a mark
abbrev pub empty_track : ℕ → List ℕ
empty_track size = replicate size 0

abbrev pub empty : List ℕ
empty = empty_track sample_length

module _ (size : ℕ) where
  pub empty_length : length (empty_track size) ≡ size
  empty_length = length-replicate {A = ℕ} size 0

  pub empty_cell : (i : ℕ) → i < size → get_or (empty_track size) i 0 ≡ 0
  empty_cell i = get_or-replicate size i 0 0

  -- no cell is above 511
  pub low_empty : (i : ℕ) → i < length (empty_track size) → get_or (empty_track size) i 0 ≤ 511
  low_empty i l = omega (arith, empty_cell i (rw empty_length at l))

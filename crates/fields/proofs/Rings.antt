-- The cells of a row, round and round. Assumes nothing.
use mathlib.Core.Path.{◌≡◌, ap}
use mathlib.Core.List.{List}
use Prim.Native.Nat.{ℕ, ◌+◌, ◌<◌}
use native.Mathlib.Nat.{mod-eq_of_lt, add-mod_right}
use lib.ListN.{length, get_or}
use Rattle.fields.specs.Rings.{cells_of}

-- the first round is the row itself
pub first_round : (row : List ℕ) (place : ℕ) → place < length row → cells_of row place ≡ get_or row place 0
unfolding cells_of
first_round row place h = ap (λ (n : ℕ). get_or row n 0) (mod-eq_of_lt h)

-- and every round is like the one before
pub each_round : (row : List ℕ) (place : ℕ) → cells_of row (place + length row) ≡ cells_of row place
unfolding cells_of
each_round row place = ap (λ (n : ℕ). get_or row n 0) (add-mod_right place (length row))

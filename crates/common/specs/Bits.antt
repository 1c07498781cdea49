-- The bits of a byte. Assumes nothing.
use Rattle.std.specs.Prelude.{ℕ, ◌/◌, ◌%◌, ◌^◌, Bool, eqb}

-- The bit of a byte at a place, counted from the lowest, which is 0.
unfoldable pub bit_of : ℕ → ℕ → Bool
bit_of byte place = eqb (byte / 2 ^ place % 2) 1

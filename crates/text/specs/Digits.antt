-- A digit in a base, in ASCII. Assumes nothing.
use Rattle.std.specs.Prelude.{cond, ℕ, ◌+◌, ◌%◌, ltb}

-- 0 to 9 from 30 (hex) on, A to Z from 41 on
unfoldable pub digit_in : ℕ → ℕ → ℕ
digit_in base n = cond (ltb (n % base) 10) (n % base + 48) (n % base + 55)

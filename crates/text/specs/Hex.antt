-- Numbers as capital hexadecimal digits, in ASCII. Assumes nothing.
use Rattle.std.specs.Prelude.{List, [], ◌∷◌, ℕ, ◌/◌}
use Rattle.text.specs.Digits.{digit_in}

-- 0 to 9 from 30 (hex) on, A to F from 41 on
unfoldable pub digit_of : ℕ → ℕ
digit_of n = digit_in 16 n

unfoldable pub hex_of : ℕ → List ℕ
hex_of n = digit_of (n / 4096) ∷ digit_of (n / 256) ∷ digit_of (n / 16) ∷ digit_of n ∷ []

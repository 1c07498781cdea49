-- Numbers below 65,536 as decimal digits, in ASCII. Assumes nothing.
use Rattle.std.specs.Prelude.{cond, List, [], ◌∷◌, ℕ, ◌-◌, ◌/◌, ltb, drop}
use Rattle.text.specs.Digits.{digit_in}

-- 0 to 9 from 30 (hex) on
unfoldable pub figure_of : ℕ → ℕ
figure_of n = digit_in 10 n

-- five digits
unfoldable pub figures_of : ℕ → List ℕ
figures_of n =
    figure_of (n / 10000) ∷ figure_of (n / 1000) ∷ figure_of (n / 100) ∷ figure_of (n / 10) ∷ figure_of n ∷ []

-- how many of them a number needs, 0 one
unfoldable pub places_of : ℕ → ℕ
places_of n = cond (ltb n 10) 1 (cond (ltb n 100) 2 (cond (ltb n 1000) 3 (cond (ltb n 10000) 4 5)))

-- a number in decimal: the last ones, as many as it needs
unfoldable pub decimal_of : ℕ → List ℕ
decimal_of n = drop (5 - places_of n) (figures_of n)

-- Cells laid into a row. Assumes nothing.
use Rattle.std.specs.Prelude.{List, ℕ, zero, suc, set}

-- the row with the first n of the cells laid, cell i at place i; all else stays
unfoldable pub laid_row : List ℕ → (place content : ℕ → ℕ) → ℕ → List ℕ
laid_row row place content zero = row
laid_row row place content (suc n) = set (laid_row row place content n) (place n) (content n)

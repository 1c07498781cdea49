-- Cells laid into a row: what stands at their places and elsewhere, how long the row is, and one cell more. Assumes nothing.
use mathlib.Core.Path.{◌≡◌, refl, ◌∙◌}
use mathlib.Core.List.{List}
use Prim.Native.Nat.{ℕ, zero, suc, ◌≤◌, ◌<◌}
use native.Mathlib.Decide.{dec_lt}
use native.Mathlib.Omega.{arith}
use lib.ListN.{length, get_or, set, length-set}
use lib.Seq.{get_or-set_same, get_or-set_other}
use Rattle.common.specs.Laid.{laid_row}

-- the places are of the row, and no two of the first n are one
pub record Places (row : List ℕ) (place : ℕ → ℕ) (n : ℕ) : Type 0 where
  pub inside : (i : ℕ) → i < n → place i < length row
  pub apart : (i k : ℕ) → i < k → k < n → place i ≡ place k → ⊥

-- the first places of a row
pub first_places : (row : List ℕ) (n : ℕ) → n ≤ length row → Places row (λ i. i) n
first_places row n fits = record { inside = λ i l. omega arith; apart = λ i k l h e. omega arith }

module _ (row : List ℕ) (place content : ℕ → ℕ) where
  pub laid_length : (n : ℕ) → length (laid_row row place content n) ≡ length row
  unfolding laid_row
  laid_length zero = refl
  laid_length (suc n) = length-set (laid_row row place content n) (place n) (content n) ∙ laid_length n

  -- what stands at no place of them stays
  pub laid_out : (n p d : ℕ) → ((i : ℕ) → i < n → p ≡ place i → ⊥) → get_or (laid_row row place content n) p d ≡ get_or row p d
  unfolding laid_row
  laid_out zero p d other = refl
  laid_out (suc n) p d other =
      get_or-set_other (laid_row row place content n) (place n) p (content n) d (other n (omega arith))
      ∙ laid_out n p d (λ i h. other i (omega arith))

  -- each of them stands at its place
  pub laid_in : (n : ℕ) → Places row place n → (i d : ℕ) → i < n → get_or (laid_row row place content n) (place i) d ≡ content i
  unfolding laid_row
  laid_in zero p i d h = absurd (omega arith)
  laid_in (suc n) p i d h = by (λ l. laid_in n before i d l) (dec_lt i n)
    where
      before : Places row place n
      before = record { inside = λ k l. p.inside k (omega arith); apart = λ k m l e. p.apart k m l (omega arith) }

      by : (i < n → get_or (laid_row row place content n) (place i) d ≡ content i)
          → Dec (i < n)
          → get_or (set (laid_row row place content n) (place n) (content n)) (place i) d ≡ content i
      by ih (yes l) =
          get_or-set_other (laid_row row place content n) (place n) (place i) (content n) d (p.apart i n l (omega arith)) ∙ ih l
      by ih (no l) =
          let e : i ≡ n = omega arith in
          rw e
          (get_or-set_same (laid_row row place content n) (place n) (content n) d (rw laid_length (p.inside n (omega arith))))

  -- a loop that lays them: before the first, and after one more
  pub laid_none : (n : ℕ) → n ≡ 0 → row ≡ laid_row row place content n
  unfolding laid_row
  laid_none n none = rw none refl

  pub laid_more : (n more at x : ℕ) (now : List ℕ)
      → now ≡ laid_row row place content n
      → more ≡ suc n
      → at ≡ place n
      → x ≡ content n
      → set now at x ≡ laid_row row place content more
  unfolding laid_row
  laid_more n more at x now so next here is = rw (so, next, here, is) refl

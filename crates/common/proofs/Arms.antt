-- What a function gives at each value that an arm of a `match` names, it gives in that arm. That it gives one answer at all of
-- them is an equation of two lists, which antt computes. Assumes nothing.
use mathlib.Core.Path.{◌≡◌, ◌∙◌, ap}
use mathlib.Core.Bool.{Bool, false, cond}
use mathlib.Core.Logic.{⊎_elim}
use mathlib.Core.List.{List, [], ◌∷◌, map}
use Prim.Native.Nat.{ℕ, zero, suc, ◌+◌, ◌≤◌, ◌<◌}
use native.Mathlib.Nat.{eq-or-lt_of_le}
use native.Mathlib.Omega.{arith}

-- the n numbers from `first` on
abbrev pub count : ℕ → ℕ → List ℕ
count first zero = []
count first (suc n) = first ∷ count (suc first) n

-- f gives one answer at each of the numbers
abbrev pub Gives : {A : Type 0} → (ℕ → A) → A → List ℕ → Type 0
Gives f answer named = map f named ≡ map (λ (_ : ℕ). answer) named

module _ {A : Type 0} (f : ℕ → A) {answer : A} {x : ℕ} where
  -- an arm of a range
  pub range : (first n : ℕ) → Gives f answer (count first n) → first ≤ x → x < first + n → answer ≡ f x
  range first zero each low high = absurd (omega arith)
  range first (suc n) each low high =
      let here : answer ≡ f first = cc in
      let rest : Gives f answer (count (suc first) n) = cc in
      ⊎_elim (λ e. here ∙ ap f e) (λ above. range (suc first) n rest above (omega arith)) (eq-or-lt_of_le low)

-- an arm of a range, where a test has left some numbers of it
pub range_but : {A : Type 0} (f : ℕ → A) {answer : A} {x : ℕ} (left : ℕ → Bool) (first n : ℕ)
    → Gives (λ k. cond (left k) answer (f k)) answer (count first n) → first ≤ x → x < first + n → left x ≡ false → answer ≡ f x
range_but f {answer} left first n each low high e = rw e at (range (λ k. cond (left k) answer (f k)) first n each low high)

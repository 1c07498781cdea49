-- The first of the times at which a test passes. Assumes nothing.
use mathlib.Core.Path.{◌≡◌, refl, sym, ap, ◌∙◌}
use mathlib.Core.Bool.{Bool, true, false, true≢false}
use mathlib.Core.Logic.{◌⊎◌, inl, inr}
use Prim.Native.Nat.{ℕ, zero, suc, ◌<◌}
use native.Mathlib.Decide.{dec_lt}
use native.Mathlib.Omega.{arith}

pub record First (test : ℕ → Bool) (time : ℕ) : Type 0 where
  pub passes : test time ≡ true
  pub none : (k : ℕ) → k < time → test k ≡ false

-- among the first n times there is one, or none at all
abbrev pub FirstOrNone : (ℕ → Bool) → ℕ → Type 0
FirstOrNone test n = ((time : ℕ) × (time < n) × First test time) ⊎ ((k : ℕ) → k < n → test k ≡ false)

pub first : (test : ℕ → Bool) (n : ℕ) → FirstOrNone test n
first test zero = inr (λ k l. absurd (omega arith))
first test (suc n) = by (first test n) (test n) refl
  where
    by : FirstOrNone test n → (b : Bool) → test n ≡ b → FirstOrNone test (suc n)
    by (inl (time, l, found)) b e = inl (time, omega arith, found)
    by (inr none) true e = inl (n, omega arith, record { passes = e; none = none })
    by (inr none) false e = inr (λ k l. last k l (dec_lt k n))
      where
        last : (k : ℕ) → k < suc n → Dec (k < n) → test k ≡ false
        last k l (yes h) = none k h
        last k l (no h) = ap test (omega arith) ∙ e

-- where one that passes means one among the first n, there is such a first, or none ever
pub soonest :
    (test : ℕ → Bool) (n : ℕ)
    → ((k : ℕ) → test k ≡ true → (j : ℕ) × (j < n) × (test j ≡ true))
    → ((time : ℕ) × (time < n) × First test time) ⊎ ((k : ℕ) → test k ≡ false)
soonest test n soon = by (first test n)
  where
    by :
        ((time : ℕ) × (time < n) × First test time) ⊎ ((k : ℕ) → k < n → test k ≡ false)
        → ((time : ℕ) × (time < n) × First test time) ⊎ ((k : ℕ) → test k ≡ false)
    by (inl found) = inl found
    by (inr none) = inr (λ k. never k (test k) refl)
      where
        never : (k : ℕ) (b : Bool) → test k ≡ b → b ≡ false
        never k true e = let (j, l, f) = soon k e in absurd (true≢false (sym f ∙ none j l))
        never k false e = refl

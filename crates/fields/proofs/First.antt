-- The first of so many cells at which something ends. Assumes nothing.
use mathlib.Core.Path.{◌≡◌, subst}
use Prim.Native.Nat.{ℕ, suc, ◌+◌, ◌≤◌, ◌<◌}
use native.Mathlib.Omega.{arith}
use native.Mathlib.Decide.{ℕ_discrete, dec_lt}

module _ {A : Type 0} (Ends : ℕ → A → Type 0) where
  -- nothing ends in the k cells from cell n on
  abbrev pub NoneEnds : ℕ → ℕ → Type 0
  NoneEnds n k = (u : ℕ) → n ≤ u → u < n + k → (x : A) → Ends u x → ⊥

  -- x ends at cell m, the first of the k cells from cell n on at which anything does
  pub record First (n k m : ℕ) (x : A) : Type 0 where
    pub low : n ≤ m
    pub high : m < n + k
    pub ends : Ends m x
    pub before : (u : ℕ) → n ≤ u → u < m → (y : A) → Ends u y → ⊥

  pub none_of_none : (n : ℕ) → NoneEnds n 0
  none_of_none n u l h = absurd (omega arith)

  pub here : (n k : ℕ) (x : A) → Ends n x → First n (suc k) n x
  here n k x e = record { low = omega arith; high = omega arith; ends = e; before = λ u l h. absurd (omega arith) }

  -- a cell more before the others, at which nothing ends
  module _ (n k : ℕ) (nothing : (x : A) → Ends n x → ⊥) where
    from : (u : ℕ) → n ≤ u → ((suc n ≤ u) → (x : A) → Ends u x → ⊥) → (x : A) → Ends u x → ⊥
    from u l later = by (ℕ_discrete n u)
      where
        by : Dec (n ≡ u) → (x : A) → Ends u x → ⊥
        by (yes e) = subst (λ (z : ℕ). (x : A) → Ends z x → ⊥) e nothing
        by (no d) = later (omega arith)

    pub none_later : NoneEnds (suc n) k → NoneEnds n (suc k)
    none_later h u l r = from u l (λ m. h u m (omega arith))

    pub first_later : (m : ℕ) (x : A) → First (suc n) k m x → First n (suc k) m x
    first_later m x f =
        record {
          low = omega (arith, f.low);
          high = omega (arith, f.high);
          ends = f.ends;
          before = λ u l r. from u l (λ more. f.before u more r);
        }

  -- there is one first end, if at a cell no two things end
  module _ (single : (u : ℕ) (x y : A) → Ends u x → Ends u y → x ≡ y) (n k : ℕ) where
    pub once : (m w : ℕ) (x y : A) → First n k m x → First n k w y → (m ≡ w) × (x ≡ y)
    once m w x y f g = by (dec_lt m w) (dec_lt w m)
      where
        by : Dec (m < w) → Dec (w < m) → (m ≡ w) × (x ≡ y)
        by (yes l) d = absurd (g.before m f.low l x f.ends)
        by (no l) (yes r) = absurd (f.before w g.low r y g.ends)
        by (no l) (no r) =
            let e : m ≡ w = omega arith in
            (e, single w x y (subst (λ (z : ℕ). Ends z x) e f.ends) g.ends)

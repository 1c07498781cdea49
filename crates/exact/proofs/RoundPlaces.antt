-- Places round a ring, one after another. Assumes nothing.
use mathlib.Core.Path.{◌≡◌, sym, ap, ◌∙◌}
use Prim.Native.Nat.{ℕ, ◌+◌, ◌-◌, ◌%◌, ◌≤◌, ◌<◌}
use native.Mathlib.Nat.{mod-eq_of_lt, add-mod_right}
use native.Mathlib.Decide.{dec_lt}
use native.Mathlib.Omega.{arith}

-- past the ring's end the places begin anew
past_end : (size x : ℕ) → size ≤ x → x < size + size → x % size ≡ x - size
past_end size x l h =
    let e : x ≡ x - size + size = omega arith in
    ap (λ (y : ℕ). y % size) e ∙ add-mod_right (x - size) size ∙ mod-eq_of_lt (omega arith)

-- no two places within a round are one
pub round_apart :
    (size from i k : ℕ) → from < size → i < k → k < size → (from + i) % size ≡ (from + k) % size → ⊥
round_apart size from i k inside l h e = by (dec_lt (from + i) size) (dec_lt (from + k) size)
  where
    by : Dec (from + i < size) → Dec (from + k < size) → ⊥
    by (yes a) (yes b) = omega (arith, sym (mod-eq_of_lt a) ∙ e ∙ mod-eq_of_lt b)
    by (yes a) (no b) = omega (arith, sym (mod-eq_of_lt a) ∙ e ∙ past_end size (from + k) (omega arith) (omega arith))
    by (no a) (yes b) = omega arith
    by (no a) (no b) =
        omega (
          arith,
          sym (past_end size (from + i) (omega arith) (omega arith))
              ∙ e
              ∙ past_end size (from + k) (omega arith) (omega arith),
        )

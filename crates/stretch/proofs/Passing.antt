-- The stretch that `ahead` finds, byte time by byte time: what the crate above builds on. Assumes nothing.
use mathlib.Core.Path.{◌≡◌, refl}
use mathlib.Core.Bool.{Bool, true, false, cond, not, ◌||◌}
use mathlib.Core.List.{List}
use Prim.Native.Nat.{ℕ, zero, suc, ◌+◌, ◌-◌, ◌≤◌, ◌<◌}
use native.Mathlib.Omega.{arith}
use lib.Dec.{ltb, leb, eqb}
use lib.ListN.{length, get_or}
use borrow.Author.Tests.{ltb-true}
use Rattle.common.proofs.Cases.{by_cond}
use Rattle.command.specs.declared.Order.{Order}
use Rattle.activity.specs.Acts.{pass}
use Rattle.activity.specs.declared.Seen.{Seen}
use Rattle.activity.specs.declared.Activity.{Activity}
use Rattle.activity.specs.declared.Deed.TheVariants.{Nothing}
use Rattle.act.specs.Turns.{act_of}
use Rattle.registers.specs.declared.Ring.{Ring}
use Rattle.stretch.specs.Stretches.{least_of, reach_of, activity_after, clear_from, reach_in, stretch_ahead}
use Rattle.stretch.proofs.Opening.{opens}
use Rattle.stretch.proofs.Reaching.{least_both, reach_modest}
use Rattle.stretch.proofs.Stretching.{act_still}

-- ---- how far

module _ (row : List ℕ) (below : ℕ) where
  clear_most : (n from : ℕ) → clear_from row below n from ≤ from + n
  unfolding clear_from
  clear_most zero from = omega arith
  clear_most (suc n) from =
      by_cond (λ (x : ℕ). x ≤ from + suc n) (ltb (get_or row from 0) below)
      (λ e. omega (arith, clear_most n (suc from)))
      (λ e. omega arith)

  -- the cell at hand, or one after it
  or_behind : (P : ℕ → Type 0) (from i : ℕ) → P from → ((k : ℕ) → i ≡ suc k → P (suc from + k)) → P (from + i)
  or_behind P from zero here later = let z : from + 0 ≡ from = omega arith in rw z here
  or_behind P from (suc i) here later = let z : from + suc i ≡ suc from + i = omega arith in rw z (later i refl)

  clear_below : (n from i : ℕ) → from + i < clear_from row below n from → get_or row (from + i) 0 < below
  unfolding clear_from
  clear_below zero from i = λ h. absurd (omega arith)
  clear_below (suc n) from i =
      by_cond (λ (x : ℕ). from + i < x → get_or row (from + i) 0 < below) (ltb (get_or row from 0) below)
      (λ e h.
      or_behind (λ (x : ℕ). get_or row x 0 < below) from i (ltb-true (get_or row from 0) below e)
      (λ k z. clear_below n (suc from) k (omega (arith, h))))
      (λ e h. absurd (omega arith))

-- ---- the stretch

-- k byte times of a stretch come next
pub record Passes (r : Ring) (a : Activity) (limit : ℕ) (row : List ℕ) (k : ℕ) : Type 0 where
  pub some : 0 < r.position
  pub inside : r.position + k < r.length
  pub most : k ≤ limit
  pub taken : (i : ℕ) → i < k → get_or row (r.position + i) 0 < 512
  pub still : (o : Order) (s : Seen) (i : ℕ) → i < k → s.index ≡ false → s.cell ≡ get_or row (r.position + i) 0
      → act_of o s (activity_after i a) ≡ pass s (activity_after (suc i) a) Nothing

module _ (r : Ring) (a : Activity) (limit : ℕ) (row : List ℕ) where
  abbrev room : ℕ
  room = least_of (r.length - 1 - r.position) limit

  abbrev place : ℕ
  place = clear_from row (reach_of room a).below (reach_of room a).most r.position

  passes : (0 < r.position) → r.position < r.length → 0 < place - r.position → Passes r a limit row (place - r.position)
  passes some inside more =
      let far = clear_most row (reach_of room a).below (reach_of room a).most r.position in
      let modest = reach_modest room a in
      let within = least_both (r.length - 1 - r.position) limit in
      let low = clear_below row (reach_of room a).below (reach_of room a).most r.position in
      record {
        some = some;
        inside = omega (arith, far, modest.most, within);
        most = omega (arith, far, modest.most, within);
        taken = λ i h. omega (arith, low i (omega arith), modest.below);
        still = λ o s i h none cell.
            act_still o s none a room i (omega (arith, far)) (rw cell (low i (omega arith)));
      }

  pub ahead_passes : 0 < stretch_ahead r a limit row → Passes r a limit row (stretch_ahead r a limit row)
  unfolding stretch_ahead reach_in
  ahead_passes = by (eqb r.position 0 || leb r.length r.position || not (eqb (length row) r.length)) refl
    where
      by : (b : Bool) → (eqb r.position 0 || leb r.length r.position || not (eqb (length row) r.length)) ≡ b
          → 0 < cond b 0 (place - r.position)
          → Passes r a limit row (cond b 0 (place - r.position))
      by true e more = absurd (omega arith)
      by false e more =
          let o = opens r.position r.length (length row) e in
          passes o.some o.inside more

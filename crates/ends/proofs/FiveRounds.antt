-- A search ends within five rounds of the track, with what it does after what it has found. Assumes nothing.
use mathlib.Core.Path.{◌≡◌, ap}
use mathlib.Core.Bool.{true, false}
use mathlib.Core.List.{List}
use mathlib.Core.Logic.{◌⊎◌, inl, inr}
use Prim.Native.Nat.{ℕ, suc, ◌+◌, ◌-◌, ◌*◌, ◌≤◌, ◌<◌}
use native.Mathlib.Omega.{arith}
use lib.ListN.{length}
use Rattle.activity.specs.Limits.{busy_in}
use Rattle.hosts.specs.Hosts.{BusyAt}
use Rattle.hosts.proofs.Pulses.{pulse_time, pulse_most, pulse_least}
use Rattle.hosts.proofs.Firsts.{First, soonest}
use Rattle.hosts.proofs.Views.{View}
use Rattle.hosts.proofs.Courses.{Course}
use Rattle.hosts.proofs.Phases.{Stands}
use Rattle.hosts.proofs.Passing.{head_inside}
use Rattle.hosts.proofs.Seeking.{SearchFrom, fifth, Unmet, seek_hit, seek_lost, seek_lasts}
use Rattle.ends.proofs.Drains.{Over, over_now, earlier, later}

-- What a search of that view comes to that has counted no pulse before: after the cell that ends what it is after it takes
-- `rest` byte times at most, and where a cell does at all, one does within a round and a few cells.
pub record Short {Rows : List ℕ → Type 0} {c : Course Rows} {t : ℕ} {v : View} (s : SearchFrom c t v) : Type 0 where
  pub fresh : s.counted ≡ 0
  pub long : 2048 ≤ length v.row
  pub rest : ℕ
  pub found :
      (n : ℕ)
      → Stands c t v (suc n) v.missing (s.seeker.then n)
      → s.seeker.ends n ≡ true
      → Over c.host c.desk (t + suc n) (t + suc n + rest)
  pub width : ℕ
  pub soon : (k : ℕ) → s.seeker.ends k ≡ true → (j : ℕ) × (j < length v.row + width) × (s.seeker.ends j ≡ true)
  pub short : width + rest ≤ 2048

module _ {Rows : List ℕ → Type 0} {c : Course Rows} {t : ℕ} {v : View} (s : SearchFrom c t v) (x : Short s) where
  abbrev size : ℕ
  size = length v.row

  abbrev Ends : Type 0
  Ends = Over c.host c.desk t (t + 5 * size)

  busy_up : (n : ℕ) → n ≤ fifth s → Unmet s n → (k : ℕ) → t ≤ k → k ≤ t + n → BusyAt c.host c.desk k
  busy_up n l unmet k m below =
      let on : t + (k - t) ≡ k = omega arith in
      rw on at (seek_lasts s n l unmet (k - t) (omega arith)).busy

  four : fifth s ≡ pulse_time 4 size v.ring.position
  four = ap (λ (counted : ℕ). pulse_time (4 - counted) size v.ring.position) x.fresh

  met : (n : ℕ) → n < size + x.width → First s.seeker.ends n → Ends
  met n near hit =
      let least = pulse_least 4 size v.ring.position (head_inside v s.track) in
      let early : suc n ≤ fifth s = omega (arith, four, x.long, x.short) in
      earlier c.host c.desk t (t + suc n) (t + 5 * size) (omega arith)
      (λ k m below. busy_up n (omega arith) hit.none k m (omega arith))
      (later c.host c.desk (omega (arith, x.long, x.short))
      (x.found n (seek_hit s n early hit.none hit.passes) hit.passes))

  unmet : ((k : ℕ) → s.seeker.ends k ≡ false) → Ends
  unfolding busy_in
  unmet none =
      let most = pulse_most 4 size v.ring.position (head_inside v s.track) in
      earlier c.host c.desk t (t + suc (fifth s)) (t + 5 * size) (omega arith)
      (λ k m below. busy_up (fifth s) (omega arith) (λ i l. none i) k m (omega arith))
      (over_now c.host c.desk (t + suc (fifth s)) (omega (arith, four))
      (ap (λ (w : View). busy_in w.activity) (seek_lost s (λ i l. none i)).view))

  -- "within 5L"
  pub five_rounds_lem : Over c.host c.desk t (t + 5 * length v.row)
  five_rounds_lem = by (soonest s.seeker.ends (size + x.width) x.soon)
    where
      by :
          ((time : ℕ) × (time < size + x.width) × First s.seeker.ends time) ⊎ ((k : ℕ) → s.seeker.ends k ≡ false)
          → Ends
      by (inl (n, near, hit)) = met n near hit
      by (inr none) = unmet none

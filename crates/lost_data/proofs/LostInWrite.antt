-- In a write Lost Data is on exactly when some data cell took 00 for want of a byte, or the first byte never came. Assumes
-- nothing.
use mathlib.Core.Path.{◌≡◌, refl, sym, ap, ◌∙◌}
use mathlib.Core.Bool.{Bool, true, false, true≢false, or-true}
use mathlib.Core.Logic.{◌⊎◌, inl, inr, ◌↔◌}
use Prim.Native.Nat.{ℕ, zero, suc, ◌+◌, ◌-◌, ◌≤◌, ◌<◌}
use native.Mathlib.Nat.{add-zero, add-suc}
use native.Mathlib.Omega.{arith}
use lib.ListN.{get_or}
use Rattle.common.proofs.Cases.{never}
use Rattle.command.specs.Commands.{class_of}
use Rattle.command.specs.declared.Command.{Command}
use Rattle.command.specs.declared.Class.TheVariants.{Works}
use Rattle.activity.specs.Limits.{busy_in}
use Rattle.activity.specs.declared.Activity.{Activity}
use Rattle.activity.specs.declared.Deed.{Deed}
use Rattle.activity.specs.declared.Deed.TheVariants.{Nothing, Late}
use Rattle.registers.specs.declared.Flags.{Flags}
use Rattle.registers.specs.declared.Lines.{Lines}
use Rattle.effects.specs.Effects.{effect_of, record_over, cell_taken}
use Rattle.effects.proofs.Apart.{drq_after, flags_after}
use Rattle.hosts.specs.Hosts.{Host, Desk, at, BusyAt}
use Rattle.hosts.specs.Scenes.{Scene, loaded}
use Rattle.hosts.specs.Bytes.{deed_at, takes, hands}
use Rattle.hosts.proofs.Views.{flags_after_lem}
use Rattle.hosts.proofs.ByteTimes.{next_drq, next_flags}
use Rattle.hosts.proofs.Idling.{idle_deed, stays_over}
use Rattle.hosts.proofs.ReadDeeds.{or_true_of}
use Rattle.lost_data.specs.LostData.{none_on_dr, lost_data, asks_byte, WriteCommand, AcceptedAlone, NotServiced, ZeroWritten, Terminated}
use Rattle.lost_data.proofs.Begun.{first_valid}
use Rattle.lost_data.proofs.Exactly.{lost_at, lost_exactly}
use Rattle.lost_data.proofs.Since.{raises, drq_at, drq_found, Since, finds_on, drq_since}
use Rattle.lost_data.proofs.NeverSilently.{late_lost}
use Rattle.lost_data.proofs.WriteCourse.{LeavesDrq, WriteDeed}
use Rattle.lost_data.proofs.WriteTurns.{writes_works, WriteTurn, write_turn}

-- ---- its deeds

lost_left : {deed : Deed} (f : Flags) (drq : Bool) → LeavesDrq deed → (flags_after f drq deed).lost ≡ f.lost
unfolding flags_after effect_of record_over
lost_left f drq LeavesDrq.nothing = refl
lost_left f drq LeavesDrq.matches = refl
lost_left f drq LeavesDrq.fails = refl
lost_left f drq LeavesDrq.written = refl

drq_left : {deed : Deed} (drq : Bool) → LeavesDrq deed → drq_after drq deed ≡ drq
unfolding drq_after effect_of record_over
drq_left drq LeavesDrq.nothing = refl
drq_left drq LeavesDrq.matches = refl
drq_left drq LeavesDrq.fails = refl
drq_left drq LeavesDrq.written = refl

left_hands : {deed : Deed} → LeavesDrq deed → hands deed ≡ false
unfolding hands
left_hands LeavesDrq.nothing = refl
left_hands LeavesDrq.matches = refl
left_hands LeavesDrq.fails = refl
left_hands LeavesDrq.written = refl

hands_none : {drq : Bool} {cell : ℕ} {next : Activity} {deed : Deed} → WriteDeed drq cell next deed → hands deed ≡ false
unfolding hands
hands_none (WriteDeed.leaves q) = left_hands q
hands_none WriteDeed.asks = refl
hands_none WriteDeed.asks_no_more = refl
hands_none (WriteDeed.takes cell) = refl
hands_none (WriteDeed.terminates on) = refl

module _ {s : Scene} {command : Command} {n : ℕ} (write : WriteCommand command) (g : AcceptedAlone s command n) where
  abbrev h : Host
  h = s.host

  abbrev d : Desk
  d = loaded s

  abbrev flags_at : ℕ → Flags
  flags_at k = (at h d k).machine.flags

  works : class_of command ≡ Works
  works = writes_works write

  -- ---- where it is on, a byte was wanting

  flags_next : (k : ℕ) → k < n → (t : WriteTurn h d k) → flags_at (suc k) ≡ flags_after (flags_at k) (drq_found h d k) t.deed
  flags_next k l t =
      next_flags h d k (g.alone k l) ∙ ap (flags_after (flags_at k) (drq_found h d k)) t.deed_is

  not_serviced : (k : ℕ) → k < n → drq_found h d k ≡ true → NotServiced h d k
  not_serviced k l still = from (drq_since h d n g.alone (first_valid works g) k l still)
    where
      asked : (j : ℕ) → j < n → raises (deed_at h d j) ≡ true → asks_byte (deed_at h d j) ≡ true
      asked j m raised = by (or_true_of (hands (deed_at h d j)) (asks_byte (deed_at h d j)) raised)
        where
          by : (hands (deed_at h d j) ≡ true) ⊎ (asks_byte (deed_at h d j) ≡ true) → asks_byte (deed_at h d j) ≡ true
          by (inl hand) =
              let t = write_turn write g j m in
              absurd (true≢false (sym hand ∙ ap hands t.deed_is ∙ hands_none t.act))
          by (inr asks) = asks

      from : Since h d k → NotServiced h d k
      from x =
          record {
            since = x.since;
            before = x.before;
            on = x.on;
            asked = λ j e. asked j (omega (arith, e, x.before)) (x.raised j e);
            unserved = x.unserved;
          }

  -- a deed that ends a command is one of a command
  was_busy : (k : ℕ) → k < n → deed_at h d k ≡ Late → BusyAt h d k
  was_busy k l late = by (busy_in (at h d k).machine.activity) refl
    where
      by : (busy : Bool) → busy_in (at h d k).machine.activity ≡ busy → BusyAt h d k
      by true e = e
      by false e = let z : Late ≡ Nothing = sym late ∙ idle_deed h d k (g.alone k l) e in never (cc)

  -- what turns Lost Data on
  abbrev Wanting : ℕ → Type 0
  Wanting k = ZeroWritten h d k ⊎ Terminated h d k

  wanting :
      {cell : ℕ} {next : Activity} {deed : Deed} (k : ℕ)
      → k < n
      → WriteDeed (drq_found h d k) cell next deed
      → deed_at h d k ≡ deed
      → (at h d (suc k)).machine.activity ≡ next
      → get_or (at h d (suc k)).row (at h d k).machine.ring.position 0 ≡ cell
      → (flags_after (flags_at k) (drq_found h d k) deed).lost ≡ true
      → (lost_at s k ≡ true) ⊎ Wanting k
  unfolding takes flags_after effect_of cell_taken busy_in
  wanting k l (WriteDeed.leaves q) is next_is cell_is e = inl (sym (lost_left (flags_at k) (drq_found h d k) q) ∙ e)
  wanting k l WriteDeed.asks is next_is cell_is e = inl e
  wanting k l WriteDeed.asks_no_more is next_is cell_is e = inl e
  wanting k l (WriteDeed.takes zeroes) is next_is cell_is e = by (or_true_of (lost_at s k) (drq_found h d k) e)
    where
      by : (lost_at s k ≡ true) ⊎ (drq_found h d k ≡ true) → (lost_at s k ≡ true) ⊎ Wanting k
      by (inl was) = inl was
      by (inr still) =
          inr
          (inl
          (record { takes_byte = ap takes is; not_serviced = not_serviced k l still; cell = cell_is ∙ zeroes still }))
  wanting k l (WriteDeed.terminates still) is next_is cell_is e =
      inr
      (inr
      (record {
        late = is;
        not_serviced = not_serviced k l still;
        busy = was_busy k l is;
        over = ap busy_in next_is;
      }))

  only : (k : ℕ) → k < n → lost_at s (suc k) ≡ true → (lost_at s k ≡ true) ⊎ Wanting k
  only k l on =
      let t = write_turn write g k l in
      wanting k l t.act t.deed_is t.next_is t.cell_is (ap (λ (f : Flags). f.lost) (sym (flags_next k l t)) ∙ on)

  -- ---- where a byte was wanting, it is on

  -- A DRQ that is not served stays on, until a cell takes 00 or the command is over.
  data Still (i : ℕ) : Type 0 where
    on : drq_at h d i ≡ true → Still i
    lost : lost_at s i ≡ true → Still i
    over : busy_in (at h d i).machine.activity ≡ false → Still i

  still_acted :
      {cell : ℕ} {next : Activity} {deed : Deed} (k : ℕ)
      → WriteDeed (drq_found h d k) cell next deed
      → drq_found h d k ≡ true
      → drq_at h d (suc k) ≡ drq_after (drq_found h d k) deed
      → flags_at (suc k) ≡ flags_after (flags_at k) (drq_found h d k) deed
      → (at h d (suc k)).machine.activity ≡ next
      → Still (suc k)
  unfolding drq_after flags_after effect_of cell_taken busy_in
  still_acted k (WriteDeed.leaves q) found drq flags next = Still.on (drq ∙ drq_left (drq_found h d k) q ∙ found)
  still_acted k WriteDeed.asks found drq flags next = Still.on drq
  still_acted k WriteDeed.asks_no_more found drq flags next = Still.over (ap busy_in next)
  still_acted k (WriteDeed.takes zeroes) found drq flags next =
      Still.lost (ap (λ (f : Flags). f.lost) flags ∙ rw found (or-true (lost_at s k)))
  still_acted k (WriteDeed.terminates still) found drq flags next = Still.lost (ap (λ (f : Flags). f.lost) flags)

  still_next : (k : ℕ) → k < n → none_on_dr (h.calls k) ≡ true → Still k → Still (suc k)
  still_next k l quiet (Still.on e) =
      let t = write_turn write g k l in
      still_acted k t.act (finds_on h d n g.alone (first_valid works g) k l e quiet)
      (next_drq h d k ∙ ap (drq_after (drq_found h d k)) t.deed_is) (flags_next k l t) t.next_is
  still_next k l quiet (Still.lost e) =
      Still.lost (ap (λ (f : Flags). f.lost) (next_flags h d k (g.alone k l)) ∙ (flags_after_lem _ _ _).lost e)
  still_next k l quiet (Still.over e) =
      let one : k + 1 ≡ suc k = omega arith in
      Still.over (rw one at (stays_over h d k 1 (λ i m. g.alone i (omega arith)) e))

  module _ (k : ℕ) (l : k < n) where
    still_later : (x : NotServiced h d k) (m : ℕ) → x.since + m ≤ k → Still (x.since + m)
    still_later x zero most = rw (add-zero x.since) (Still.on x.on)
    still_later x (suc m) most =
        rw (add-suc x.since m)
        (still_next (x.since + m) (omega arith) (x.unserved (x.since + m) (omega arith) (omega arith))
        (still_later x m (omega arith)))

    -- a cell that takes 00
    lost_taken : takes (deed_at h d k) ≡ true → NotServiced h d k → lost_at s (suc k) ≡ true
    unfolding takes
    lost_taken moves x =
        let e : x.since + (k - x.since) ≡ k = omega (arith, x.before) in
        by (rw e at (still_later x (k - x.since) (omega (arith, x.before))))
      where
        step : flags_at (suc k) ≡ flags_after (flags_at k) (drq_found h d k) (deed_at h d k)
        step = next_flags h d k (g.alone k l)

        by : Still k → lost_at s (suc k) ≡ true
        by (Still.on e) =
            ap (λ (f : Flags). f.lost) step
            ∙ late_lost (flags_at k) (drq_found h d k) (deed_at h d k)
            (finds_on h d n g.alone (first_valid works g) k l e (x.unserved k x.before (omega arith)))
            (rw moves (or-true (hands (deed_at h d k))))
        by (Still.lost e) = ap (λ (f : Flags). f.lost) step ∙ (flags_after_lem _ _ _).lost e
        by (Still.over e) =
            absurd (true≢false (sym moves ∙ ap takes (idle_deed h d k (g.alone k l) e)))

    lost_then : Wanting k → lost_at s (suc k) ≡ true
    unfolding flags_after effect_of
    lost_then (inl x) = lost_taken x.takes_byte x.not_serviced
    lost_then (inr x) =
        ap (λ (f : Flags). f.lost) (next_flags h d k (g.alone k l) ∙ ap (flags_after _ _) x.late)

  -- "or 00 with Lost Data if DRQ is on": as n byte times have passed, at the end of the write or at any other time
  pub lost_in_a_write : (l : Lines) → (lost_data (at h d n).machine l ≡ true) ↔ ((k : ℕ) × (k < n) × Wanting k)
  lost_in_a_write = lost_exactly works g Wanting only lost_then

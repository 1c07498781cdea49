-- A byte time of a stretch does nothing: the activity is one byte time later, the cell stays, and there is no deed. This ties
-- stretches to what a byte time is. Assumes nothing.
use mathlib.Core.Path.{◌≡◌, refl, ap}
use mathlib.Core.Bool.{Bool, true, false, cond, ◌&&◌}
use Prim.Native.Nat.{ℕ, suc, ◌-◌, ◌<◌}
use native.Mathlib.Omega.{arith}
use lib.Dec.{ltb, leb}
use borrow.Author.Tests.{ltb-true, ltb-false, eqb-true, lt-leb, ne_eqb}
use Rattle.common.proofs.Cases.{by_cond, both, never}
use Rattle.scan.specs.Ids.{run_in, id_cell_step, id_mark_step, id_step}
use Rattle.scan.specs.declared.Scan.{Scan}
use Rattle.scan.specs.declared.Scan.TheVariants.{Gap, Field}
use Rattle.scan.specs.declared.Heard.TheVariants as heard
use Rattle.scan.proofs.IdComplete.{plain_gap}
use Rattle.command.specs.declared.Order.{Order}
use Rattle.activity.specs.Acts.{pass}
use Rattle.activity.specs.Limits.{busy_in}
use Rattle.activity.specs.declared.Act.{Act}
use Rattle.activity.specs.declared.Seen.{Seen}
use Rattle.activity.specs.declared.Activity.{Activity}
use Rattle.activity.specs.declared.Activity.TheVariants.{Idle, Seek, Pulse, Stop, Settle, Search, Window, Data, Hunt, Address, Await, Preamble, Put, Format, FormatCrc}
use Rattle.activity.specs.declared.Deed.TheVariants.{Nothing}
use Rattle.stepping.specs.Stepping.{stop_act, seek_decision, seek_turn, stop_turn}
use Rattle.search.specs.Search.{pulses_seen, search_step, search_cell}
use Rattle.reading.specs.Reading.{hunt_step, hunt_cell}
use Rattle.act.specs.Turns.{format_begun, begun_activity, settle_turn, await_turn, activity_act, act_of}
use Rattle.stretch.specs.declared.Reach.{Reach}
use Rattle.stretch.specs.Stretches.{least_of, wait_reach, empty_gap, search_reach, reach_of, activity_after}

least_left : (a b : ℕ) (k : ℕ) → k < least_of a b → k < a
unfolding least_of
least_left a b k =
    by_cond (λ (n : ℕ). k < n → k < a) (ltb a b) (λ e h. h) (λ e h. let g = ltb-false a b e in omega arith)

empty : (scan : Scan) → empty_gap scan ≡ true → scan ≡ Gap 0
unfolding empty_gap
empty (Gap run) e = ap Gap (eqb-true run 0 e)
empty (Field part) e = never (cc)

-- an unflagged cell in a gap
heard_gap : (mfm : Bool) (cell : ℕ) → cell < 256 → id_step mfm cell (Gap 0) ≡ heard.On (Gap 0)
unfolding id_step run_in id_mark_step id_cell_step
heard_gap mfm cell h = rw (plain_gap mfm cell h)

module _ (o : Order) (s : Seen) (none : s.index ≡ false) where
  -- what holds of an unflagged cell that a scanner meets with nothing in hand, before the fifth pulse, holds in a stretch
  in_gap : (P : Type 0) (limit k pulses : ℕ) (scan : Scan)
      → (pulses < 5 → scan ≡ Gap 0 → s.cell < 256 → P)
      → k < (search_reach limit pulses scan).most
      → s.cell < (search_reach limit pulses scan).below
      → P
  unfolding search_reach
  in_gap P limit k pulses scan f =
      by_cond (λ (r : Reach). k < r.most → s.cell < r.below → P) (ltb pulses 5 && empty_gap scan)
      (λ e h plain.
      let b = both (ltb pulses 5) (empty_gap scan) e in f (ltb-true pulses 5 b.0) (empty scan b.1) plain)
      (λ e h plain. absurd (omega arith))

  search_still : (pulses : ℕ) (scan : Scan) → pulses < 5 → scan ≡ Gap 0 → s.cell < 256
      → search_cell o s pulses scan ≡ pass s (Search pulses scan) Nothing
  unfolding search_cell pulses_seen search_step
  search_still pulses scan few gap plain =
      rw (gap, none, lt-leb 5 pulses few) (rw (heard_gap s.mfm s.cell plain))

  hunt_still : (pulses run : ℕ) → pulses < 5 → Gap run ≡ Gap 0 → s.cell < 256
      → hunt_cell s pulses run ≡ pass s (Hunt pulses run) Nothing
  unfolding hunt_cell hunt_step pulses_seen
  hunt_still pulses run few gap plain =
      let zero : run ≡ 0 = cc in
      rw (zero, none, lt-leb 5 pulses few) (rw (plain_gap s.mfm s.cell plain) refl)

  wait_left : (limit left k : ℕ) → k < (wait_reach limit left).most → k < left
  unfolding wait_reach
  wait_left limit left k h = least_left left limit k h

  -- a wait for a byte time that decides
  decides_later : (wait : ℕ → Activity) (decided : Act) (left k : ℕ) → k < left - 1
      → cond (leb (left - k) 1) decided (pass s (wait (left - k - 1)) Nothing) ≡ pass s (wait (left - suc k)) Nothing
  decides_later wait decided left k h =
      let less : left - k - 1 ≡ left - suc k = omega arith in rw (lt-leb (left - k) 1 (omega arith), less) refl

  await_still : act_of o s Await ≡ pass s Await Nothing
  unfolding act_of begun_activity format_begun activity_act await_turn
  await_still = rw none refl

  settle_still : (left k : ℕ) → k < left → act_of o s (Settle (left - k)) ≡ pass s (Settle (left - suc k)) Nothing
  unfolding act_of begun_activity activity_act settle_turn
  settle_still left k h =
      let some : (left - k ≡ 0) → ⊥ = λ z. absurd (omega arith) in
      let less : left - k - 1 ≡ left - suc k = omega arith in
      rw (ne_eqb (left - k) 0 some) (rw (ne_eqb (left - k) 0 some, less))

  pub act_still : (a : Activity) (limit k : ℕ) → k < (reach_of limit a).most → s.cell < (reach_of limit a).below
      → act_of o s (activity_after k a) ≡ pass s (activity_after (suc k) a) Nothing
  unfolding act_of begun_activity activity_act seek_turn stop_turn reach_of activity_after
  act_still Idle limit k h below = refl
  act_still (Seek left) limit k h below =
      decides_later Seek (seek_decision o s) left k (wait_left limit (left - 1) k h)
  act_still (Stop left) limit k h below =
      decides_later Stop (stop_act o s false) left k (wait_left limit (left - 1) k h)
  act_still (Settle left) limit k h below = settle_still left k (wait_left limit left k h)
  act_still Await limit k h below = await_still
  act_still (Search pulses scan) limit k h below = in_gap _ limit k pulses scan (search_still pulses scan) h below
  act_still (Hunt pulses run) limit k h below = in_gap _ limit k pulses (Gap run) (hunt_still pulses run) h below
  act_still Pulse limit k h below = absurd (omega arith)
  act_still (Window left passed run) limit k h below = absurd (omega arith)
  act_still (Data left crc deleted) limit k h below = absurd (omega arith)
  act_still (Address passed crc track) limit k h below = absurd (omega arith)
  act_still (Preamble left passed) limit k h below = absurd (omega arith)
  act_still (Put left crc) limit k h below = absurd (omega arith)
  act_still (Format crc) limit k h below = absurd (omega arith)
  act_still (FormatCrc crc) limit k h below = absurd (omega arith)

-- a stretch ends no command
pub busy_later : (k : ℕ) (a : Activity) → busy_in (activity_after k a) ≡ busy_in a
unfolding busy_in activity_after
busy_later k Idle = refl
busy_later k (Seek left) = refl
busy_later k Pulse = refl
busy_later k (Stop left) = refl
busy_later k (Settle left) = refl
busy_later k (Search pulses scan) = refl
busy_later k (Window left passed run) = refl
busy_later k (Data left crc deleted) = refl
busy_later k (Hunt pulses run) = refl
busy_later k (Address passed crc track) = refl
busy_later k Await = refl
busy_later k (Preamble left passed) = refl
busy_later k (Put left crc) = refl
busy_later k (Format crc) = refl
busy_later k (FormatCrc crc) = refl

-- a stretch of none
pub later_none : (a : Activity) → activity_after 0 a ≡ a
unfolding activity_after
later_none Idle = refl
later_none (Seek left) = ap Seek (omega arith)
later_none Pulse = refl
later_none (Stop left) = ap Stop (omega arith)
later_none (Settle left) = ap Settle (omega arith)
later_none (Search pulses scan) = refl
later_none (Window left passed run) = refl
later_none (Data left crc deleted) = refl
later_none (Hunt pulses run) = refl
later_none (Address passed crc track) = refl
later_none Await = refl
later_none (Preamble left passed) = refl
later_none (Put left crc) = refl
later_none (Format crc) = refl
later_none (FormatCrc crc) = refl

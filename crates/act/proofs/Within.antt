-- A byte time keeps every count within the largest that its activity holds, whatever the order and whatever is seen.
-- Assumes nothing.
use mathlib.Core.Path.{◌≡◌, refl}
use mathlib.Core.Bool.{Bool, true, false, not, ◌&&◌}
use Prim.Native.Nat.{ℕ, ◌+◌, ◌-◌, ◌≤◌, ◌<◌}
use native.Mathlib.Omega.{arith}
use lib.Dec.{ltb, leb, eqb}
use borrow.Author.Tests.{ltb-true, leb-true, leb-false, le-leb}
use Rattle.common.proofs.Cases.{by_cond, both, all}
use Rattle.scan.specs.declared.Passed.{Passed}
use Rattle.scan.specs.declared.Scan.{Scan}
use Rattle.scan.specs.declared.Heard.{Heard}
use Rattle.scan.specs.Marks.{unflagged, sync, syncs, lead_of, carries_mark, sync_run, mark_step}
use Rattle.scan.specs.DataMarks.{longest_window}
use Rattle.scan.specs.Ids.{last_id_cell, id_begun, pushed_of, id_byte_step, run_in, id_cell_step, id_mark_step, id_step}
use Rattle.scan.specs.Streams.{run_past, scan_past}
use Rattle.scan.proofs.DataMarks.{window_most, data_run}
use Rattle.command.specs.Bits.{is_multiple}
use Rattle.command.specs.Commands.{job_of}
use Rattle.command.specs.Times.{settle_time_of}
use Rattle.command.specs.Sizes.{field_size}
use Rattle.command.specs.declared.Job.{Job}
use Rattle.command.specs.declared.Order.{Order}
use Rattle.command.proofs.Tables.{step_time_most, field_size_most}
use Rattle.activity.specs.Limits.{most_pulses, most_read, most_written, last_preamble, scan_within, counts_within}
use Rattle.activity.specs.declared.Seen.{Seen}
use Rattle.activity.specs.declared.Act.{Act}
use Rattle.activity.specs.declared.Activity.{Activity}
use Rattle.activity.specs.declared.Deed.{Deed}
use Rattle.search.specs.Search.{after_match, after_record}
use Rattle.writing.specs.Writing.{last_kept, last_zero, mark_place}
use Rattle.act.specs.Turns.{format_begun, job_begun, act_of}
use Rattle.act.proofs.Acts.{Passes, Writes, Acts, Enters, enters, turns}

-- numbers by tests, and tests by numbers
ruleset tests = (arith, ltb-true, leb-true, leb-false, le-leb)

abbrev IsWithin : Activity → Type 0
IsWithin a = counts_within a ≡ true

-- ---- what a scanner goes on with, whatever it held and whatever the cell is

abbrev Row : ℕ → Type 0
Row run = leb run syncs ≡ true

abbrev GoesOn : Heard → Type 0
GoesOn heard = scan_within (scan_past heard) ≡ true

row : (mfm : Bool) (cell run : ℕ) → Row (run_past (mark_step mfm cell run))
unfolding mark_step sync_run run_past
row mfm cell run =
    by_cond (λ p. Row (run_past p)) (leb (lead_of mfm) run && carries_mark mfm cell)
    (λ e. refl)
    (λ e. by_cond Row (eqb cell sync) (λ f. by_cond Row (ltb run syncs) (λ g. omega tests) (λ g. refl)) (λ f. refl))

looked : (mfm : Bool) (cell : ℕ) (scan : Scan) (p : Passed) → Row (run_past p) → GoesOn (id_mark_step mfm cell scan p)
unfolding id_mark_step id_cell_step id_byte_step pushed_of id_begun run_past scan_past scan_within
looked mfm cell (Scan.Gap run) (Passed.Gap next) h = h
looked mfm cell (Scan.Field part) (Passed.Gap run) h =
    by_cond GoesOn (unflagged cell)
    (λ e. by_cond GoesOn (ltb part.passed last_id_cell) (λ f. omega tests) (λ f. refl))
    (λ e. h)
looked mfm cell scan (Passed.Mark b) h = by_cond (λ x. scan_within x ≡ true) (eqb b 0xFE) (λ e. refl) (λ e. refl)

-- ---- numbers

below_five : {n : ℕ} → n < 5 → leb n most_pulses ≡ true
below_five {n} h = le-leb n most_pulses (omega arith)

mark_most : (mfm : Bool) → mark_place mfm ≤ last_preamble + 1
unfolding mark_place last_zero last_kept lead_of
mark_most true = omega arith
mark_most false = omega arith

-- the cells of the field that a window is for
field : (left n run : ℕ) → IsWithin (Activity.Window left n run) → leb left most_read ≡ true
unfolding counts_within
field left n run h = (both _ (leb n (longest_window - 1)) (both _ (leb run syncs) h).0).0

pub settle_within : (mfm : Bool) → counts_within (Activity.Settle (settle_time_of mfm)) ≡ true
unfolding counts_within settle_time_of
settle_within true = refl
settle_within false = refl

-- ---- what a match serves, and what begins

served_within : (ibm : Bool) (length : ℕ) (j : Job) → IsWithin (after_match ibm length j)
unfolding after_match counts_within
served_within ibm length Job.Nothing = refl
served_within ibm length Job.Verify = refl
served_within ibm length Job.ReadSector = all (all (le-leb (field_size ibm length + 2) most_read (omega (arith, field_size_most ibm length))) refl) refl
served_within ibm length Job.WriteSector = all (le-leb (field_size ibm length + 3) most_written (omega (arith, field_size_most ibm length))) refl
served_within ibm length Job.ReadAddress = refl
served_within ibm length Job.WriteTrack = refl

begun_within : (s : Seen) (j : Job) → IsWithin (job_begun s j)
unfolding format_begun job_begun counts_within scan_within
begun_within s Job.Nothing = refl
begun_within s Job.Verify = refl
begun_within s Job.ReadSector = refl
begun_within s Job.WriteSector = refl
begun_within s Job.ReadAddress = refl
begun_within s Job.WriteTrack = by_cond IsWithin (s.index && not s.drq) (λ e. refl) (λ e. refl)

module _ (o : Order) (s : Seen) where
  passed : {a next : Activity} {deed : Deed} → Passes o s a next deed → IsWithin a → IsWithin next
  unfolding counts_within scan_within id_step
  passed Passes.idles h = refl
  passed (Passes.seek_waits e) h = omega tests
  passed (Passes.seek_steps e) h = omega (tests, step_time_most s.mfm o.byte)
  passed Passes.pulse_steps h = omega (tests, step_time_most s.mfm o.byte)
  passed (Passes.stop_waits e) h = omega tests
  passed (Passes.stop_fails st) h = refl
  passed (Passes.stop_verifies st e) h = settle_within s.mfm
  passed (Passes.stop_halts st) h = refl
  passed Passes.settles h = omega tests
  passed Passes.search_fails h = refl
  passed (Passes.search_goes_on {scan} few e) h =
      all (below_five few) (rw e (looked s.mfm s.cell scan _ (row s.mfm s.cell (run_in scan))))
  passed (Passes.bad_match few) h = all (below_five few) refl
  passed (Passes.good_match id) h = served_within o.ibm id.length (job_of o.command)
  passed (Passes.mark_met {left} {n} {run}) h = field left n run h
  passed (Passes.window_goes_on {left} {n} {run} less e) h =
      let more = le-leb (n + 1) (longest_window - 1) (omega (arith, window_most s.mfm)) in
      simp (field left n run h, more, e, data_run s.mfm s.cell run, row s.mfm s.cell run)
  passed Passes.window_fails h = refl
  passed (Passes.data_byte e) h = omega tests
  passed (Passes.data_crc e) h = refl
  passed Passes.record_over h = refl
  passed (Passes.record_follows_lem on) h = refl
  passed Passes.hunt_fails h = refl
  passed (Passes.hunt_goes_on {run} few e) h = all (below_five few) (rw e (row s.mfm s.cell run))
  passed Passes.id_met h = refl
  passed (Passes.address_byte e) h = omega tests
  passed Passes.address_over h = refl
  passed (Passes.await_goes_on e) h = refl
  passed (Passes.await_fails e) h = refl
  passed Passes.preamble_fails h = refl

  written : {a next : Activity} {deed : Deed} {cell : ℕ} → Writes o s a cell next deed → IsWithin a → IsWithin next
  unfolding counts_within scan_within after_record
  written (Writes.preamble_goes_on {left} {n} less) h =
      simp ((both (leb left most_written) (leb n last_preamble) h).0, le-leb (n + 1) last_preamble (omega (arith, mark_most s.mfm)))
  written (Writes.mark_put {n}) h = (both _ (leb n last_preamble) h).0
  written (Writes.byte_put e) h = omega tests
  written (Writes.high_put e) h = refl
  written (Writes.low_put e) h = refl
  written Writes.record_put h = by_cond IsWithin (is_multiple o.byte) (λ e. refl) (λ e. refl)
  written Writes.high_laid h = by_cond IsWithin s.last (λ e. refl) (λ e. refl)
  written Writes.byte_laid h = by_cond IsWithin s.last (λ e. refl) (λ e. refl)
  written Writes.low_laid h = by_cond IsWithin s.last (λ e. refl) (λ e. refl)

  acted : {a : Activity} {act : Act} → Acts o s a act → IsWithin a → IsWithin act.next
  acted (Acts.passes p) = passed p
  acted (Acts.writes e w) = written w

  entered : {a acting : Activity} → Enters o s a acting → IsWithin a → IsWithin acting
  unfolding counts_within
  entered (Enters.goes_on a f) h = h
  entered Enters.settled h = begun_within s (job_of o.command)
  entered Enters.opened h = refl

  pub within_kept : (a : Activity) → counts_within a ≡ true → counts_within (act_of o s a).next ≡ true
  within_kept a h = acted (turns o s a) (entered (enters o s a) h)

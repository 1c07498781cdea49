-- The acts that a byte time can have: what acts, what it leaves to do and what happens, one by one. Assumes nothing.
use mathlib.Core.Path.{◌≡◌, refl, sym, ap}
use mathlib.Core.Bool.{Bool, true, false, cond, not, ◌&&◌}
use Prim.Native.Nat.{ℕ, ◌+◌, ◌-◌, ◌/◌, ◌%◌, ◌≤◌, ◌<◌}
use native.Mathlib.Omega.{arith}
use lib.Dec.{ltb, leb, eqb}
use borrow.Author.Tests.{ltb-true, leb-true, leb-false, eqb-true, eqb-false, eq-eqb}
use Rattle.common.proofs.Cases.{by_cond, never}
use Rattle.crc.specs.Crc.{preset, crc_byte}
use Rattle.scan.specs.Marks.{byte_of, mark_crc, mark_step}
use Rattle.scan.specs.DataMarks.{window_of, mark_byte, data_mark_step}
use Rattle.scan.specs.Ids.{id_step}
use Rattle.scan.specs.Streams.{run_past, sought_past, scan_past}
use Rattle.scan.specs.declared.Passed.{Passed}
use Rattle.scan.specs.declared.Sought.{Sought}
use Rattle.scan.specs.declared.Id.{Id}
use Rattle.scan.specs.declared.Scan.{Scan}
use Rattle.scan.specs.declared.Heard.{Heard}
use Rattle.command.specs.Bits.{updates_track, verifies_track, is_multiple, mark_written}
use Rattle.command.specs.Commands.{job_of, is_restore}
use Rattle.command.specs.Times.{step_time_of, settle_time_of}
use Rattle.command.specs.declared.Order.{Order}
use Rattle.activity.specs.Acts.{pass, write, taken_of}
use Rattle.activity.specs.declared.Seen.{Seen}
use Rattle.activity.specs.declared.Act.{Act}
use Rattle.activity.specs.declared.Activity.{Activity}
use Rattle.activity.specs.declared.Activity.TheVariants.{Idle, Seek, Pulse, Stop, Settle, Search, Window, Data, Hunt, Address, Await, Preamble, Put, Format, FormatCrc}
use Rattle.activity.specs.declared.Deed.{Deed}
use Rattle.activity.specs.declared.Deed.TheVariants.{Nothing, Deliver, Named, Matched, NotFound, Record, Written, Ask, Late, Take, Step, Halt}
use Rattle.stepping.specs.Stepping.{stop_act, track_after, step_act, seek_decision, seek_turn, pulse_turn, stop_turn}
use Rattle.search.specs.Search.{pulses_seen, matches_for, after_match, afresh, after_record, id_found, search_step, search_cell}
use Rattle.reading.specs.Reading.{window_missed, window_step, window_cell, record_follows, record_end, data_cell, address_begun, hunt_step, hunt_cell, address_track, address_cell}
use Rattle.writing.specs.Writing.{mark_place, preamble_cell, preamble_next, preamble_deed, preamble_turn, put_cell}
use Rattle.formatting.specs.Formatting.{until_last, laid_cell, laid_crc, format_cell, format_crc_cell}
use Rattle.act.specs.Turns.{format_begun, job_begun, begun_activity, settle_turn, await_turn, activity_act, act_of}

-- the activity writes cells: Write Sector after its ID, and Write Track
unfoldable pub writes_in : Activity → Bool
writes_in Idle = false
writes_in (Seek left) = false
writes_in Pulse = false
writes_in (Stop left) = false
writes_in (Settle left) = false
writes_in (Search pulses scan) = false
writes_in (Window left passed run) = false
writes_in (Data left crc deleted) = false
writes_in (Hunt pulses run) = false
writes_in (Address passed crc track) = false
writes_in Await = false
writes_in (Preamble left passed) = true
writes_in (Put left crc) = true
writes_in (Format crc) = true
writes_in (FormatCrc crc) = true

-- Type I stops in one of these
pub data StopsIn : Activity → Type 0 where
  seek : {left : ℕ} → StopsIn (Seek left)
  pulse : StopsIn Pulse
  stop : {left : ℕ} → StopsIn (Stop left)

-- a count down to 0
one_less : (n : ℕ) → cond (eqb n 0) 0 (n - 1) ≡ n - 1
one_less n = by_cond (λ k. k ≡ n - 1) (eqb n 0) (λ e. omega (arith, eqb-true n 0 e)) (λ e. refl)

module _ (o : Order) (s : Seen) where
  abbrev step_time : ℕ
  step_time = step_time_of s.mfm o.byte

  -- a seek steps in
  abbrev inward : Bool
  inward = ltb s.tr s.dr

  -- the pulses of a search, with this byte time's
  abbrev pulses : ℕ → ℕ
  pulses n = pulses_seen n s.index

  abbrev byte : ℕ
  byte = byte_of s.cell

  abbrev multiple : Bool
  multiple = is_multiple o.byte

  abbrev mark : ℕ
  mark = mark_byte (mark_written o.byte)

  -- cell L - 1 of a Write Track ends it
  abbrev unless_last : Activity → Activity
  unless_last next = cond s.last Idle next

  -- the cell stays as it is
  pub data Passes : Activity → Activity → Deed → Type 0 where
    idles : Passes Idle Idle Nothing
    -- Type I
    seek_waits : {n : ℕ} → 1 < n → Passes (Seek n) (Seek (n - 1)) Nothing
    seek_steps :
        {n : ℕ} → (s.tr ≡ s.dr → ⊥) → Passes (Seek n) (Seek step_time) (Step inward (track_after true inward s.tr))
    pulse_steps :
        Passes Pulse (Stop step_time) (Step o.inward (track_after (updates_track o.byte) o.inward s.tr))
    stop_waits : {n : ℕ} → 1 < n → Passes (Stop n) (Stop (n - 1)) Nothing
    stop_fails : {a : Activity} → StopsIn a → Passes a Idle NotFound
    stop_verifies :
        {a : Activity} {rule : Bool} → StopsIn a → verifies_track o.byte ≡ true
        → Passes a (Settle (settle_time_of s.mfm)) (Halt rule true)
    stop_halts : {a : Activity} {rule : Bool} → StopsIn a → Passes a Idle (Halt rule false)
    settles : {n : ℕ} → Passes (Settle n) (Settle (n - 1)) Nothing
    -- the search for an ID
    search_fails : {n : ℕ} {scan : Scan} → Passes (Search n scan) Idle NotFound
    search_goes_on :
        {n : ℕ} {scan next : Scan} → pulses n < 5 → next ≡ scan_past (id_step s.mfm s.cell scan)
        → Passes (Search n scan) (Search (pulses n) next) Nothing
    bad_match : {n : ℕ} {scan : Scan} → pulses n < 5 → Passes (Search n scan) (afresh (pulses n)) (Matched true)
    good_match :
        {n : ℕ} {scan : Scan} (id : Id) → Passes (Search n scan) (after_match o.ibm id.length (job_of o.command)) (Matched false)
    -- Read Sector
    mark_met : {left n run crc : ℕ} {deleted : Bool} → Passes (Window left n run) (Data left crc deleted) Nothing
    window_goes_on :
        {left n run next : ℕ} → n + 1 < window_of s.mfm → next ≡ sought_past (data_mark_step s.mfm s.cell run)
        → Passes (Window left n run) (Window left (n + 1) next) Nothing
    window_fails : {left n run : ℕ} → Passes (Window left n run) Idle NotFound
    data_byte :
        {left crc : ℕ} {deleted : Bool} → 3 ≤ left
        → Passes (Data left crc deleted) (Data (left - 1) (crc_byte crc byte) deleted) (Deliver byte)
    data_crc :
        {left crc : ℕ} {deleted : Bool} → left ≡ 2 → Passes (Data left crc deleted) (Data 1 (crc_byte crc byte) deleted) Nothing
    record_over : {left crc : ℕ} {deleted bad : Bool} → Passes (Data left crc deleted) Idle (Record deleted bad false)
    record_follows_lem :
        {left crc : ℕ} {deleted : Bool} → multiple ≡ true → Passes (Data left crc deleted) (afresh 0) (Record deleted false true)
    -- Read Address
    hunt_fails : {n run : ℕ} → Passes (Hunt n run) Idle NotFound
    hunt_goes_on :
        {n run next : ℕ} → pulses n < 5 → next ≡ run_past (mark_step s.mfm s.cell run)
        → Passes (Hunt n run) (Hunt (pulses n) next) Nothing
    id_met : {n run : ℕ} → Passes (Hunt n run) (Address 0 (mark_crc s.mfm 0xFE) 0) Nothing
    address_byte :
        {n crc track : ℕ} → n < 5
        → Passes (Address n crc track) (Address (n + 1) (crc_byte crc byte) (address_track n byte track)) (Deliver byte)
    address_over : {n crc track : ℕ} {bad : Bool} → Passes (Address n crc track) Idle (Named byte track bad)
    -- Write Track
    await_goes_on : s.index ≡ false → Passes Await Await Nothing
    await_fails : s.index ≡ true → Passes Await Idle Late
    -- Write Sector
    preamble_fails : {left n : ℕ} → Passes (Preamble left n) Idle Late

  -- the cell is written
  pub data Writes : Activity → ℕ → Activity → Deed → Type 0 where
    preamble_goes_on :
        {left n : ℕ} → n + 1 < mark_place s.mfm
        → Writes (Preamble left n) (preamble_cell s.mfm (n + 1) mark s.cell) (Preamble left (n + 1)) (preamble_deed (n + 1))
    mark_put :
        {left n : ℕ}
        → Writes (Preamble left n) (preamble_cell s.mfm (n + 1) mark s.cell) (Put left (mark_crc s.mfm mark))
        (preamble_deed (n + 1))
    byte_put :
        {left crc : ℕ} → 4 ≤ left
        → Writes (Put left crc) (taken_of s) (Put (left - 1) (crc_byte crc (taken_of s))) (Take (leb 5 left))
    high_put : {left crc : ℕ} → left ≡ 3 → Writes (Put left crc) (crc / 256) (Put 2 crc) Nothing
    low_put : {left crc : ℕ} → left ≡ 2 → Writes (Put left crc) (crc % 256) (Put 1 crc) Nothing
    record_put : {left crc : ℕ} → Writes (Put left crc) 0xFF (after_record multiple) (Written multiple)
    -- Write Track
    high_laid : {crc : ℕ} → Writes (Format crc) (crc / 256) (unless_last (FormatCrc crc)) (Take false)
    byte_laid :
        {crc : ℕ}
        → Writes (Format crc) (laid_cell s.mfm (taken_of s)) (unless_last (Format (laid_crc s.mfm crc (taken_of s))))
        (Take (not s.last))
    low_laid : {crc : ℕ} → Writes (FormatCrc crc) (crc % 256) (unless_last (Format 0)) (Ask (not s.last))

  pub data Acts : Activity → Act → Type 0 where
    passes : {a next : Activity} {deed : Deed} → Passes a next deed → Acts a (pass s next deed)
    writes :
        {a next : Activity} {deed : Deed} {cell : ℕ} → writes_in a ≡ true → Writes a cell next deed → Acts a (write cell next deed)

  -- ---- there are no others

  -- both sides of a choice
  either : {a : Activity} {b : Bool} {x y : Act} → (b ≡ true → Acts a x) → (b ≡ false → Acts a y) → Acts a (cond b x y)
  either {a} {b} = by_cond (Acts a) b

  stop_acts : {a : Activity} (rule : Bool) → StopsIn a → Acts a (stop_act o s rule)
  unfolding stop_act
  stop_acts rule st =
      either
      (λ e. either {b = is_restore o.command && not s.track0} (λ f. passes (stop_fails st)) (λ f. passes (stop_verifies st e)))
      (λ e. passes (stop_halts st))

  heard_acts : {n : ℕ} {scan : Scan} (heard : Heard) → id_step s.mfm s.cell scan ≡ heard → pulses n < 5
      → Acts (Search n scan) (search_step o s (pulses n) heard)
  unfolding search_step id_found scan_past
  heard_acts (Heard.On next) e few = passes (search_goes_on few (sym (ap scan_past e)))
  heard_acts (Heard.Whole id) e few =
      either {b = matches_for o s id (job_of o.command)}
      (λ f. either {b = id.good} (λ g. passes (good_match id)) (λ g. passes (bad_match few)))
      (λ f. passes (search_goes_on few (sym (ap scan_past e))))

  met_acts : {left n run : ℕ} (sought : Sought) → data_mark_step s.mfm s.cell run ≡ sought
      → Acts (Window left n run) (window_step s left n sought)
  unfolding window_step window_missed sought_past
  met_acts (Sought.On next) e = either (λ f. passes (window_goes_on (ltb-true _ _ f) (sym (ap sought_past e)))) (λ f. passes window_fails)
  met_acts (Sought.Met found) e = passes mark_met

  hunted_acts : {n run : ℕ} (p : Passed) → mark_step s.mfm s.cell run ≡ p → pulses n < 5
      → Acts (Hunt n run) (hunt_step s (pulses n) p)
  unfolding hunt_step address_begun run_past
  hunted_acts (Passed.Gap next) e few = passes (hunt_goes_on few (sym (ap run_past e)))
  hunted_acts {n} {run} (Passed.Mark b) e few =
      by_cond (λ (a : Activity). Acts (Hunt n run) (pass s a Nothing)) (eqb b 0xFE)
      (λ f. passes id_met) (λ f. passes (hunt_goes_on few (sym (ap run_past e))))

  record_acts : {left crc : ℕ} {deleted : Bool} (sum : ℕ) → Acts (Data left crc deleted) (record_end s multiple sum deleted)
  unfolding record_end record_follows after_record
  record_acts {left} {crc} {deleted} sum = by (eqb sum 0) multiple refl
    where
      by : (good m : Bool)
          → multiple ≡ m
          → Acts (Data left crc deleted)
          (pass s (cond (cond good m false) (afresh 0) Idle) (Record deleted (not good) (cond good m false)))
      by true true e = passes (record_follows_lem e)
      by true false e = passes record_over
      by false m e = passes record_over

  pub acts : (a : Activity) → Acts a (activity_act o s a)
  unfolding activity_act seek_turn seek_decision step_act pulse_turn stop_turn settle_turn search_cell window_cell data_cell hunt_cell address_cell await_turn preamble_turn preamble_next put_cell format_cell format_crc_cell until_last writes_in
  acts Idle = passes idles
  acts (Seek n) =
      either
      (λ e.
      either (λ f. stop_acts false seek)
      (λ f. either {b = not inward && s.track0} (λ g. stop_acts true seek) (λ g. passes (seek_steps (eqb-false _ _ f)))))
      (λ e. passes (seek_waits (leb-false n 1 e)))
  acts Pulse = either {b = not o.inward && s.track0} (λ e. stop_acts true pulse) (λ e. passes pulse_steps)
  acts (Stop n) = either (λ e. stop_acts false stop) (λ e. passes (stop_waits (leb-false n 1 e)))
  acts (Settle n) = rw (one_less n) (passes settles)
  acts (Search n scan) = either (λ e. passes search_fails) (λ e. heard_acts (id_step s.mfm s.cell scan) refl (leb-false 5 _ e))
  acts (Window left n run) = met_acts (data_mark_step s.mfm s.cell run) refl
  acts (Data left crc deleted) =
      either (λ e. passes (data_byte (leb-true 3 left e)))
      (λ e. either (λ f. passes (data_crc (eqb-true left 2 f))) (λ f. record_acts (crc_byte crc byte)))
  acts (Hunt n run) = either (λ e. passes hunt_fails) (λ e. hunted_acts (mark_step s.mfm s.cell run) refl (leb-false 5 _ e))
  acts (Address n crc track) = either (λ e. passes address_over) (λ e. passes (address_byte (leb-false 5 n e)))
  acts Await = either (λ e. passes (await_fails e)) (λ e. passes (await_goes_on e))
  acts (Preamble left n) =
      either {b = eqb (n + 1) 10 && s.drq} (λ e. passes preamble_fails)
      (λ e.
      by_cond (λ a. Acts (Preamble left n) (write (preamble_cell s.mfm (n + 1) mark s.cell) a (preamble_deed (n + 1))))
      (ltb (n + 1) (mark_place s.mfm)) (λ f. writes refl (preamble_goes_on (ltb-true _ _ f))) (λ f. writes refl mark_put))
  acts (Put left crc) =
      either (λ e. writes refl (byte_put (leb-true 4 left e)))
      (λ e.
      either (λ f. writes refl (high_put (eqb-true left 3 f)))
      (λ f. either (λ g. writes refl (low_put (eqb-true left 2 g))) (λ g. writes refl record_put)))
  acts (Format crc) = either {b = eqb (taken_of s) 0xF7} (λ e. writes refl high_laid) (λ e. writes refl byte_laid)
  acts (FormatCrc crc) = writes refl low_laid

  -- ---- a byte time

  -- What acts in it: what begins has begun, and a head that has settled and goes on to settle has HLT off.
  pub data Enters : Activity → Activity → Type 0 where
    goes_on : (a : Activity) → (a ≡ Settle 0 → s.hlt ≡ false) → Enters a a
    settled : {n : ℕ} → Enters (Settle n) (job_begun s (job_of o.command))
    opened : Enters Await (Format preset)

  pub enters : (a : Activity) → Enters a (begun_activity o s a)
  unfolding begun_activity format_begun
  enters Idle = goes_on Idle (λ e. never (cc))
  enters (Seek n) = goes_on (Seek n) (λ e. never (cc))
  enters Pulse = goes_on Pulse (λ e. never (cc))
  enters (Stop n) = goes_on (Stop n) (λ e. never (cc))
  enters (Settle n) =
      by_cond (Enters (Settle n)) (eqb n 0 && s.hlt)
      (λ e. settled) (λ e. goes_on (Settle n) (λ f. rw (eq-eqb n 0 (cc)) at e))
  enters (Search n scan) = goes_on (Search n scan) (λ e. never (cc))
  enters (Window left n run) = goes_on (Window left n run) (λ e. never (cc))
  enters (Data left crc deleted) = goes_on (Data left crc deleted) (λ e. never (cc))
  enters (Hunt n run) = goes_on (Hunt n run) (λ e. never (cc))
  enters (Address n crc track) = goes_on (Address n crc track) (λ e. never (cc))
  enters Await = by_cond (Enters Await) (s.index && not s.drq) (λ e. opened) (λ e. goes_on Await (λ f. never (cc)))
  enters (Preamble left n) = goes_on (Preamble left n) (λ e. never (cc))
  enters (Put left crc) = goes_on (Put left crc) (λ e. never (cc))
  enters (Format crc) = goes_on (Format crc) (λ e. never (cc))
  enters (FormatCrc crc) = goes_on (FormatCrc crc) (λ e. never (cc))

  pub turns : (a : Activity) → Acts (begun_activity o s a) (act_of o s a)
  unfolding act_of
  turns a = acts (begun_activity o s a)

  -- ---- no cell changes under an activity that does not write

  kept : {a : Activity} {act : Act} → Acts a act → writes_in a ≡ false → act.cell ≡ s.cell
  kept (passes p) e = refl
  kept (writes f w) e = never (cc)

  pub cell_kept : (a : Activity) → writes_in (begun_activity o s a) ≡ false → (act_of o s a).cell ≡ s.cell
  cell_kept a = kept (turns a)

-- What a Read Sector does with a cell after its ID: in the window, and in the data field. Assumes nothing.
use mathlib.Core.Path.{◌≡◌, refl}
use mathlib.Core.Bool.{Bool, true, false, not}
use Prim.Native.Nat.{ℕ, suc, ◌+◌, ◌-◌, ◌≤◌, ◌<◌}
use native.Mathlib.Omega.{arith}
use lib.Dec.{eqb}
use borrow.Author.Tests.{lt-ltb, le-ltb, le-leb, lt-leb, eq-eqb, ne_eqb}
use Rattle.common.proofs.Cases.{by_cond}
use Rattle.crc.specs.Crc.{crc_byte}
use Rattle.command.specs.Bits.{is_multiple}
use Rattle.scan.specs.Marks.{byte_of, mark_crc}
use Rattle.scan.specs.DataMarks.{mark_byte, is_deleted, data_mark_step, window_of}
use Rattle.scan.specs.declared.DataMark.{DataMark}
use Rattle.scan.specs.declared.Sought.{Sought}
use Rattle.scan.specs.declared.Sought.TheVariants.{On, Met}
use Rattle.activity.specs.Acts.{pass}
use Rattle.activity.specs.declared.Activity.{Activity}
use Rattle.activity.specs.declared.Activity.TheVariants.{Idle, Window, Data}
use Rattle.activity.specs.declared.Deed.{Deed}
use Rattle.activity.specs.declared.Deed.TheVariants.{Nothing, Deliver, NotFound, Record}
use Rattle.search.specs.Search.{after_record}
use Rattle.reading.specs.Reading.{window_missed, window_step, window_cell, record_follows, record_end, data_cell}
use Rattle.act.specs.Turns.{begun_activity, activity_act, act_of}
use Rattle.hosts.proofs.Views.{View, Outside, cell_under, seen_in, act_in}

-- ---- after a record

-- a single read is over
pub single_over : (multiple : Bool) (crc : ℕ) → multiple ≡ false → record_follows multiple crc ≡ false
unfolding record_follows
single_over multiple crc single = rw single (by_cond (λ b. b ≡ false) (eqb crc 0) (λ e. refl) (λ e. refl))

-- "If there is a CRC error at the end of the data field .. the command is terminated (even if it is a multiple record command)."
pub bad_over : (multiple : Bool) (crc : ℕ) → (crc ≡ 0 → ⊥) → record_follows multiple crc ≡ false
unfolding record_follows
bad_over multiple crc bad = rw (ne_eqb crc 0 bad) refl

-- "With m .. the search starts afresh instead"
pub good_follows : (multiple : Bool) (crc : ℕ) → multiple ≡ true → crc ≡ 0 → record_follows multiple crc ≡ true
unfolding record_follows
good_follows multiple crc on good = rw (eq-eqb crc 0 good) on

-- ---- a cell

module _ (w : View) (o : Outside) where
  -- it leaves the cell, goes on with this, and does that
  abbrev pub Does : Activity → Deed → Type 0
  Does next deed = act_in w o ≡ pass (seen_in w o) next deed

  -- ---- the window: so many of its cells have passed

  module _ (left passed run : ℕ) (is : w.activity ≡ Window left passed run) where
    abbrev sought : Sought
    sought = data_mark_step w.mfm (cell_under w) run

    pub window_on : (next : ℕ)
        → sought ≡ On next
        → suc passed < window_of w.mfm
        → Does (Window left (suc passed) next) Nothing
    unfolding act_of begun_activity activity_act window_cell window_step window_missed
    window_on next e within =
        let one : passed + 1 ≡ suc passed = omega arith in
        simp (is, e, one, lt-ltb (suc passed) (window_of w.mfm) within)

    -- "No data mark by the window's last cell: bit 4, end there."
    pub window_lost : (next : ℕ) → sought ≡ On next → suc passed ≡ window_of w.mfm → Does Idle NotFound
    unfolding act_of begun_activity activity_act window_cell window_step window_missed
    window_lost next e last =
        let one : passed + 1 ≡ suc passed = omega arith in
        simp (is, e, one, le-ltb (suc passed) (window_of w.mfm) (omega arith))

    pub window_met : (mark : DataMark)
        → sought ≡ Met mark
        → Does (Data left (mark_crc w.mfm (mark_byte mark)) (is_deleted mark)) Nothing
    unfolding act_of begun_activity activity_act window_cell window_step
    window_met mark e = simp (is, e)

  -- ---- the data field: so many of its cells are left, the two of the CRC among them

  module _ (left crc : ℕ) (deleted : Bool) (is : w.activity ≡ Data left crc deleted) where
    abbrev byte : ℕ
    byte = byte_of (cell_under w)

    -- "Each data byte, flags ignored, goes to DR"
    pub data_on : (rest : ℕ) → left ≡ suc rest → 2 ≤ rest → Does (Data rest (crc_byte crc byte) deleted) (Deliver byte)
    unfolding act_of begun_activity activity_act data_cell
    data_on rest e more =
        let one : left - 1 ≡ rest = omega arith in
        simp (is, le-leb 3 left (omega arith), one)

    -- the first CRC cell
    pub crc_on : left ≡ 2 → Does (Data 1 (crc_byte crc byte) deleted) Nothing
    unfolding act_of begun_activity activity_act data_cell
    crc_on e = simp (is, lt-leb 3 left (omega arith), eq-eqb left 2 e)

    -- "At the second CRC cell: bit 3 if bad, bit 5 .., Busy off, INTRQ. With m .. the search starts afresh"
    pub crc_end :
        left ≡ 1
        → Does (after_record (record_follows (is_multiple w.order.byte) (crc_byte crc byte)))
        (Record deleted (not (eqb (crc_byte crc byte) 0)) (record_follows (is_multiple w.order.byte) (crc_byte crc byte)))
    unfolding act_of begun_activity activity_act record_end data_cell
    crc_end e = simp (is, lt-leb 3 left (omega arith), ne_eqb left 2 (omega arith))

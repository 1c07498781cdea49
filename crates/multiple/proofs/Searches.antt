-- A Read Sector from a search on: it comes to a record and ends, or searches afresh where the record is good and m is on; or it comes
-- to none and ends. Assumes nothing.
use mathlib.Core.Path.{◌≡◌, refl, sym, ap, ◌∙◌, subst}
use mathlib.Core.Bool.{Bool, true, false, true≢false, not}
use mathlib.Core.List.{List}
use mathlib.Core.Logic.{inl, inr}
use Prim.Native.Nat.{ℕ, zero, suc, ◌+◌, ◌-◌, ◌%◌, ◌≤◌, ◌<◌}
use native.Mathlib.Nat.{mod-add-mod}
use native.Mathlib.Decide.{ℕ_discrete}
use native.Mathlib.Omega.{arith}
use lib.Dec.{eqb}
use lib.ListN.{length}
use borrow.Author.Tests.{ne_eqb}
use Rattle.scan.specs.Marks.{byte_of, lead_of, mark_crc}
use Rattle.scan.specs.DataMarks.{mark_byte, is_deleted, window_of}
use Rattle.scan.specs.Streams.{id_from, scan_after, crc_from, sought_at}
use Rattle.scan.specs.declared.DataMark.{DataMark}
use Rattle.scan.specs.declared.Scan.{Scan}
use Rattle.command.specs.Bits.{is_multiple, ibm_lengths}
use Rattle.command.specs.Commands.{job_of}
use Rattle.command.specs.Orders.{order_of}
use Rattle.command.specs.Sizes.{field_size}
use Rattle.command.specs.declared.Command.TheVariants.{ReadSector}
use Rattle.activity.specs.declared.Activity.{Activity}
use Rattle.activity.specs.declared.Activity.TheVariants.{Idle, Search}
use Rattle.search.specs.Search.{afresh, after_match}
use Rattle.registers.specs.declared.Ring.{Ring}
use Rattle.registers.specs.declared.Flags.{Flags}
use Rattle.effects.specs.Effects.{raised_sr, effect_of, delivered, address_named, record_over, record_read, cell_taken, stepped, halted}
use Rattle.effects.proofs.Apart.{flags_after, drq_after}
use Rattle.hosts.specs.Bytes.{deed_at}
use Rattle.hosts.specs.Hosts.{served_at, at}
use Rattle.hosts.specs.Scenes.{Scene, loaded, field_bytes}
use Rattle.hosts.specs.Tracks.{position_at}
use Rattle.hosts.proofs.ByteTimes.{next_drq}
use Rattle.hosts.proofs.DataFields.{sum_same}
use Rattle.hosts.proofs.Courses.{Lasts}
use Rattle.hosts.proofs.Firsts.{First, FirstOrNone, first}
use Rattle.hosts.proofs.FirstMarks.{field_register}
use Rattle.hosts.proofs.Lengths.{length_bytes}
use Rattle.hosts.proofs.Passing.{stream_from, head_inside}
use Rattle.hosts.proofs.Phases.{Stands}
use Rattle.hosts.proofs.Pulses.{pulse_time, pulses_before, pulse_there}
use Rattle.hosts.proofs.ReadActs.{single_over, bad_over, good_follows}
use Rattle.hosts.proofs.Records.{Marked, byte_after, register_after, raised_in, closing, follows as follows_on, record_lasts, last_deed, record_ends, record_again, record_flags, record_crc}
use Rattle.hosts.proofs.RingLaws.{turns_add}
use Rattle.hosts.proofs.Searching.{reads_two, hit_at, id_seeker, id_seeks}
use Rattle.hosts.proofs.Seeking as seeking
use Rattle.hosts.proofs.Seeking.{Entry, SeeksIn, SearchFrom}
use Rattle.hosts.proofs.Views.{View, view_with, Outside}
use Rattle.hosts.proofs.Windows.{is_met, which_mark, FirstMarkIn, cells_after, Opened, opened_lasts, unmarked, unmarked_bit, marked, window_bit}
use Rattle.hosts.proofs.Silent.{Silent, silent_deleted, Early}
use Rattle.hosts.proofs.Working.{Working, course_of, long, ground_track, early_at}
use Rattle.multiple.specs.Multiple.{end_of, cells_by, window_from, RecordFrom, field_cells, GoodCrc, passed_by, NoRecord, no_match, no_mark}
use Rattle.multiple.proofs.Cells.{view_at, tracked, head_at, HeardId, heard, window_is, record_of, unmarked_window, unmatched}

-- bit 3 of a bad record
pub bad_bit : {s : Scene} {sector t : ℕ} (r : RecordFrom s sector t) → (GoodCrc r → ⊥) → not (eqb (crc_from (cells_by s) r.mark_at (field_cells r)) 0) ≡ true
bad_bit r bad = ap not (ne_eqb _ 0 bad)

module _ {Rows : List ℕ → Type 0} {s : Scene} (w : Working Rows s ReadSector) where
  -- the search that begins in byte time t with this SR: what it begins with, which is a head that has settled or a search
  pub record Begins (sector t : ℕ) : Type 0 where
    pub first : Activity
    pub entry :
        Entry (view_at s sector t first) (s.host.lines t).hlt
        (Search 0 (scan_after s.machine.mfm (stream_from (view_at s sector t first)) 0)) first
    pub stands : Stands (course_of w) t (view_at s sector t first) 0 false first

  -- Busy from one byte time on, up to another
  abbrev pub LastsUntil : ℕ → ℕ → Type 0
  LastsUntil from to = (k : ℕ) → from ≤ k → k < to → Lasts (course_of w) s.row k

  -- the last of n byte times leaves DRQ as it finds it
  abbrev pub KeepsDrq : ℕ → Type 0
  KeepsDrq n =
      (k : ℕ) → n ≡ suc k → (end_of s n).wires.drq ≡ (served_at s.host k (at s.host (loaded s) k)).machine.wires.drq

  -- what it comes to
  pub data Comes (sector t : ℕ) : Type 0 where
    -- a good record, and with m the next search
    goes_on : (r : RecordFrom s sector t)
        → is_multiple s.byte ≡ true
        → GoodCrc r
        → LastsUntil t (passed_by r)
        → (end_of s (passed_by r)).flags.deleted ≡ is_deleted r.mark
        → Begins ((sector + 1) % 256) (passed_by r)
        → Comes sector t
    -- a record, and the end: with m it is a bad one
    stops : (r : RecordFrom s sector t)
        → (is_multiple s.byte ≡ true → GoodCrc r → ⊥)
        → LastsUntil t (passed_by r)
        → {a : Activity} (k : ℕ)
        → t + k ≡ passed_by r
        → Stands (course_of w) t (view_at s sector t a) k false Idle
        → (end_of s (t + k)).flags.crc ≡ not (eqb (crc_from (cells_by s) r.mark_at (field_cells r)) 0)
        → (end_of s (t + k)).flags.deleted ≡ is_deleted r.mark
        → KeepsDrq (t + k)
        → Comes sector t
    -- none, and the end: bit 5 is as it was
    lost : {a : Activity} (k : ℕ)
        → NoRecord s sector t (t + k)
        → Stands (course_of w) t (view_at s sector t a) k true Idle
        → (end_of s (t + k)).flags.deleted ≡ (end_of s t).flags.deleted
        → Comes sector t

  module _ (sector t : ℕ) (b : Begins sector t) where
    abbrev mfm : Bool
    mfm = s.machine.mfm

    abbrev view : View
    view = view_at s sector t b.first

    looks : (missing : Bool) (o : Outside) (pulses n : ℕ) → SeeksIn view (id_seeker view) missing o pulses n
    unfolding order_of
    looks = id_seeks view (tracked s (ground_track w) (long w) sector t b.first) reads_two

    abbrev search : SearchFrom (course_of w) t view
    search =
        record {
          track = tracked s (ground_track w) (long w) sector t b.first;
          rows = w.rows;
          seeker = id_seeker view;
          seeks = looks;
          counted = 0;
          few = omega arith;
          first = b.first;
          entry = b.entry;
          begins = b.stands;
        }

    abbrev fifth : ℕ
    fifth = pulse_time 4 (length s.row) view.ring.position

    -- it settles or searches all along, and so leaves bit 5
    early : (n : ℕ) → Early (seeking.seek_at search n)
    unfolding seeking.seek_at
    early zero = by b.entry
      where
        by : {v : View} {hlt : Bool} {pulses : ℕ} {scan : Scan} {a : Activity} → Entry v hlt (Search pulses scan) a → Early a
        by (Entry.settled on begins enters) = Early.settles
        by Entry.begun = Early.searches
    early (suc n) = Early.searches

    seek_deleted :
        (n : ℕ)
        → n ≤ fifth
        → ((k : ℕ) → k < n → hit_at view k ≡ false)
        → (end_of s (t + suc n)).flags.deleted ≡ (end_of s t).flags.deleted
    unfolding order_of
    seek_deleted n l none =
        seeking.seek_bit search (λ f. f.deleted) n l none
        (λ k m.
        silent_deleted _
        (early_at (course_of w) t view (seeking.seeking search k (omega arith) (λ i h. none i (omega arith)))
        (seeking.seek_busy search k) w.rows reads_two (early k)))

    -- ---- the first ID that matches, heard with cell q

    module _ (q : ℕ) (soon : q < fifth) (f : First (hit_at view) q) where
      abbrev its : HeardId s (ground_track w) (long w) sector t q f
      its = heard s (ground_track w) (long w) sector t q f

      -- the length that it gives, and the bytes of its data field
      abbrev code : ℕ
      code = (id_from mfm (cells_by s) its.id.cell).length

      abbrev size : ℕ
      size = field_size (ibm_lengths s.machine.chip s.byte) code

      size_is : size ≡ field_bytes s.machine.chip s.byte code
      size_is = length_bytes s.machine.chip s.byte code

      opened : Opened (course_of w) t view (suc q) size
      unfolding order_of after_match job_of
      opened =
          record {
            track = tracked s (ground_track w) (long w) sector t b.first;
            rows = w.rows;
            begins =
                subst
                (λ (code : ℕ). Stands (course_of w) t view (suc q) false
                (after_match (ibm_lengths s.machine.chip s.byte) code (job_of ReadSector)))
                its.length_is
                (seeking.seek_hit search q soon f.none f.passes);
          }

      -- ---- its record

      module _ (u : ℕ) (mark : DataMark) (met : FirstMarkIn mfm (cells_after view (suc q)) mark u) where
        abbrev it : RecordFrom s sector t
        it = record_of s (ground_track w) (long w) sector t q f u mark met

        -- the data field begins so many byte times after the search
        abbrev m : ℕ
        m = suc q + suc u

        abbrev crc : ℕ
        crc = mark_crc mfm (mark_byte mark)

        field : Marked (course_of w) t view m size crc (is_deleted mark)
        field =
            record {
              track = tracked s (ground_track w) (long w) sector t b.first;
              rows = w.rows;
              begins = marked opened u mark met;
            }

        -- the register that it closes with is the one over the record's cells
        closes : closing field ≡ crc_from (cells_by s) it.mark_at (field_cells it)
        closes =
            let two : suc (suc size) ≡ size + 2 = omega arith in
            let width : suc (lead_of mfm) + (size + 2) ≡ field_cells it = omega (arith, size_is) in
            ap (register_after view m crc) two
            ∙ sum_same crc (byte_after view m) (λ i. byte_of (cells_after view (suc q) (suc u + i))) (size + 2)
            (λ i l. ap (λ (k : ℕ). byte_of (stream_from view k)) (omega arith))
            ∙ field_register mfm (cells_by s) (cells_after view (suc q)) (window_from its.id)
            (window_is s (ground_track w) (long w) sector t q f) mark it.mark_at (suc u) it.marked.within (size + 2)
            ∙ ap (crc_from (cells_by s) it.mark_at) width

        -- and so it is with its last cell
        last_cell : t + (m + (size + 2)) ≡ passed_by it
        last_cell = omega (arith, it.marked.within.byte, its.ends, size_is)

        lasting : LastsUntil t (passed_by it)
        lasting k l h =
            let e : t + (k - t) ≡ k = omega arith in
            rw e at
            (record_lasts field
            (λ i g.
            opened_lasts opened (λ i g. seeking.seek_lasts search q (omega (arith, soon)) f.none i (omega arith)) u met.near
            met.none i (omega arith))
            (k - t) (omega (arith, last_cell)))

        -- a good one: "With m, SR goes up by one (255 to 0) and the search starts afresh"
        next_view : raised_in view (m + (size + 2)) ≡ view_at s ((sector + 1) % 256) (t + (m + (size + 2))) (afresh 0)
        unfolding raised_sr
        next_view =
            ap (λ (ring : Ring). view_with view s.row ring view.tr ((sector + 1) % 256) false (afresh 0))
            (turns_add t (m + (size + 2)) s.machine.ring)

        follows : is_multiple s.byte ≡ true → closing field ≡ 0 → Begins ((sector + 1) % 256) (passed_by it)
        unfolding order_of scan_after
        follows multiple good =
            record {
              first = afresh 0;
              entry = Entry.begun;
              stands =
                  subst (λ (u : ℕ). Stands (course_of w) u (view_at s ((sector + 1) % 256) u (afresh 0)) 0 false (afresh 0)) last_cell
                  (subst (λ (x : View). Stands (course_of w) (t + (m + (size + 2))) x 0 false (afresh 0)) next_view
                  (record_again field (good_follows _ (closing field) multiple good)));
            }

        -- any other ends it: DRQ stays, ..
        drq : KeepsDrq (t + (m + (size + 2)))
        unfolding drq_after effect_of delivered address_named record_over record_read cell_taken stepped halted
        drq k e =
            let here : t + (m + suc size) ≡ k = omega arith in
            ap (λ (n : ℕ). (end_of s n).wires.drq) e
            ∙ next_drq s.host (loaded s) k
            ∙ ap (drq_after (served_at s.host k (at s.host (loaded s) k)).machine.wires.drq)
            (ap (deed_at s.host (loaded s)) (sym here) ∙ last_deed field)

        -- .. and bit 3 is on exactly where the register is not 0: the match has cleared it
        told_crc : (end_of s (t + (m + (size + 2)))).flags.crc ≡ not (eqb (crc_from (cells_by s) it.mark_at (field_cells it)) 0)
        unfolding flags_after effect_of delivered address_named record_over record_read cell_taken stepped halted
        told_crc =
            record_crc field
            (window_bit opened u mark met (λ f. f.crc) (λ f drq. refl)
            ∙ ap (λ (f : Flags). f.crc) (seeking.hit_flags search q soon f.none f.passes))
            ∙ ap (λ (sum : ℕ). not (eqb sum 0)) closes

        told_deleted : (end_of s (t + (m + (size + 2)))).flags.deleted ≡ is_deleted mark
        unfolding flags_after effect_of delivered address_named record_over record_read cell_taken stepped halted
        told_deleted = ap (λ (f : Flags). f.deleted) (record_flags field)

        ended : follows_on field ≡ false → (is_multiple s.byte ≡ true → closing field ≡ 0 → ⊥) → Comes sector t
        unfolding flags_after effect_of delivered address_named record_over record_read cell_taken stepped halted
        ended last bad =
            stops it (λ multiple good. bad multiple (closes ∙ good)) lasting (m + (size + 2)) last_cell (record_ends field last) told_crc
            told_deleted
            drq

        comes : Comes sector t
        unfolding order_of
        comes = by (is_multiple s.byte) (ℕ_discrete (closing field) 0) refl
          where
            by : (m : Bool) → Dec (closing field ≡ 0) → is_multiple s.byte ≡ m → Comes sector t
            by true (yes good) multiple =
                goes_on it multiple (sym closes ∙ good) lasting (rw last_cell at told_deleted) (follows multiple good)
            by true (no bad) multiple = ended (bad_over _ (closing field) bad) (λ m. bad)
            by false whichever single =
                ended (single_over _ (closing field) single) (λ m good. true≢false (sym m ∙ single))

      -- ---- or no data mark in its window

      served : Comes sector t
      served = by (first (λ u. is_met (sought_at mfm (cells_after view (suc q)) u)) (window_of mfm))
        where
          by : FirstOrNone (λ u. is_met (sought_at mfm (cells_after view (suc q)) u)) (window_of mfm) → Comes sector t
          by (inl (u, near, met)) =
              let (mark, is) = which_mark _ met.passes in
              comes u mark (record { near = near; none = met.none; met = is })
          by (inr none) =
              lost (suc q + window_of mfm)
              (no_mark its.id (unmarked_window s (ground_track w) (long w) sector t q f none) (omega (arith, its.ends)))
              (unmarked opened none)
              (unmarked_bit opened none (λ f. f.deleted) (silent_deleted _ Silent.nothing) (silent_deleted _ Silent.lost)
              ∙ seek_deleted q (omega (arith, soon)) f.none)

    -- ---- or no such ID before the fifth pulse

    heard_or_not : FirstOrNone (hit_at view) fifth → Comes sector t
    heard_or_not (inl (q, soon, f)) = served q soon f
    heard_or_not (inr none) =
        lost (suc fifth)
        (no_match (unmatched s (ground_track w) (long w) sector t none) fifth
        (record {
          four = rw (sym head) (pulses_before 4 (length s.row) view.ring.position inside);
          pulse = there;
        })
        refl)
        (seeking.seek_lost search none)
        (seek_deleted fifth (omega arith) none)
      where
        head : view.ring.position ≡ position_at (length s.row) s.machine.ring.position t
        head = head_at s (ground_track w) (long w) sector t

        inside : view.ring.position < length s.row
        inside = head_inside view (tracked s (ground_track w) (long w) sector t b.first)

        there : position_at (length s.row) s.machine.ring.position (t + fifth) ≡ 0
        there =
            ap (λ (k : ℕ). k % length s.row) (omega arith)
            ∙ sym (mod-add-mod (s.machine.ring.position + t) (length s.row) fifth)
            ∙ ap (λ (p : ℕ). position_at (length s.row) p fifth) (sym head)
            ∙ pulse_there 4 (length s.row) view.ring.position inside

    pub searched : Comes sector t
    searched = heard_or_not (seeking.sought search)

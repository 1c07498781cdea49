-- Request f over tracks with one record, from `demand_2` and `demand_3` alone. Assumes nothing.
use mathlib.Core.Path.{◌≡◌, refl, sym, ap, ◌∙◌, subst}
use mathlib.Core.Bool.{Bool, true, false, not, not-eq-not}
use mathlib.Core.List.{List}
use mathlib.Core.Logic.{inr, ◌↔◌}
use Prim.Native.Nat.{ℕ, ◌+◌}
use native.Mathlib.Omega.{arith}
use lib.Dec.{ltb, eqb}
use borrow.Author.Tests.{ltb-true, eqb-true, eqb-false}
use Rattle.common.specs.Bits.{bit_of}
use Rattle.common.proofs.Arms.{Gives, count, range}
use Rattle.common.proofs.Cases.{never}
use Rattle.crc.specs.Crc.{crc_bit, crc_bits, crc_byte}
use Rattle.scan.specs.Marks.{sync, lead_of}
use Rattle.scan.specs.DataMarks.{mark_byte, is_deleted}
use Rattle.scan.specs.Rows.{length_within}
use Rattle.scan.specs.Streams.{MarkAt, behind, IdAt, id_from, crc_from}
use Rattle.scan.specs.declared.DataMark.{DataMark}
use Rattle.scan.specs.declared.DataMark.TheVariants.{F9, Fa}
use Rattle.scan.proofs.Marks.{mark_last_byte}
use Rattle.scan.proofs.DataMarks.{mark_byte_lem, fm_has}
use Rattle.command.specs.Bits.{is_multiple}
use Rattle.command.specs.declared.Chip.TheVariants.{Wd1793}
use Rattle.fields.specs.Rings.{cells_of}
use Rattle.wd.specs.Machines.{fresh_machine, power_on}
use Rattle.reachable.specs.ByteTimes.{turns_on}
use Rattle.hosts.specs.Hosts.{Host}
use Rattle.hosts.specs.Scenes.{Scene, by_code, field_bytes, counts_deleted, crc_error, deleted_mark}
use Rattle.hosts.specs.Tracks.{passing}
use Rattle.hosts.proofs.DataFields.{deleted_byte}
use Rattle.hosts.proofs.LowRows.{all_low}
use Rattle.registers.specs.declared.Lines.{Lines}
use Rattle.in_time.specs.Demand3.{stream_of, OnRing, FirstWhole, window_cells, IsDataMark, fb, f8, f9, fa, MarkInWindow}
use Rattle.in_time.proofs.Hits.{named_byte}
use Rattle.in_time.proofs.Scenes.{fresh}
use Rattle.multiple.specs.Multiple.{end_of, cells_by, RecordFrom, field_cells, GoodCrc, passed_by}
use Rattle.multiple.proofs.OneRecord.{same_marks, one_end, good_both}
use Rattle.data_marks.specs.ShownMarks.{MarkShown, ShowsRecord}
use Rattle.witnesses.proofs.Multiples.{mark_at_once}
use Rattle.witnesses.proofs.Scenes.{id_at}
use Rattle.uses.specs.Uses.{throughout, head_loaded}
use Rattle.uses.specs.Courses.{deleted_bit, not_found_bit, crc_error_bit, Shows, Accepted, Course, took, silent, course_then, course_scene, SingleRead}
use Rattle.uses.specs.ShownMarks.{ReadShowsMark}
use Rattle.uses.proofs.Heads.{HeadOn}
use Rattle.demands.proofs.Demand2.{demand_2}
use Rattle.applied.specs.Window.{ReadOver}
use Rattle.applied.specs.OldMarks.{one_record, old_in_mfm, RecordShown, OldMarks}
use Rattle.applied.proofs.Commands.{read_80}
use Rattle.applied.proofs.OneId.{Unserved, served, scene, suits, whole_at}
use Rattle.applied.proofs.ReadSectors.{lit_by, begins_at_once, same_search, shows_there, showed_by}
use Rattle.applied.proofs.Window.{shown_on, shown_off}

-- ---- FM

module _ (mark : DataMark) (high low : ℕ) where
  abbrev track : List ℕ
  track = one_record (mark_byte mark) high low

  -- as demand 3 speaks of it
  module _ (l : Lines) where
    first_whole : FirstWhole (scene l false track) 6
    unfolding lead_of id_from crc_from crc_byte crc_bits crc_bit passing cells_of bit_of turns_on power_on length_within fresh_machine
    first_whole = whole_at l false track (0, refl, id_at (stream_of (scene l false track)) 0 refl refl, refl)

    on_ring : OnRing (scene l false track)
    unfolding lead_of id_from crc_from crc_byte crc_bits crc_bit cells_of power_on length_within fresh_machine
    on_ring = record { cell = 0; inside = omega arith; stands = id_at (cells_of track) 0 refl refl; suits = suits l false track }

    in_window : MarkInWindow (scene l false track) 6
    unfolding MarkAt lead_of window_cells passing cells_of bit_of turns_on power_on length_within fresh_machine
    in_window =
        record {
          a = 7;
          byte = mark_byte mark;
          data_mark = named_byte false mark (fm_has mark);
          stands = (omega (arith, (mark_byte_lem mark).1), refl);
          after = omega arith;
          within = omega arith;
        }

    serves : Unserved (scene l false track) → ⊥
    serves = served (scene l false track) 6 on_ring first_whole in_window

  -- as request f does
  module _ (l : Lines) (h : Host) where
    abbrev s : Scene
    s = record { machine = fresh false Wd1793; lines = l; byte = 0x80; row = track; host = h }

    it : RecordFrom s 1 0
    unfolding MarkAt lead_of id_from crc_from crc_byte crc_bits crc_bit passing cells_of bit_of power_on length_within fresh_machine
    it =
        record {
          id = record {
            cell = 0;
            after = omega arith;
            stands = id_at (cells_by s) 0 refl refl;
            suits = record { track = refl; sector = refl; side = λ asks. never (cc); good = refl };
            first = λ other l m stands suits. omega arith;
          };
          mark = mark;
          mark_at = 7;
          place = 1;
          marked = mark_at_once (cells_by s) 7 mark (omega (arith, (mark_byte_lem mark).1), refl);
        }

    cells_it : field_cells it ≡ 131
    unfolding it lead_of id_from field_bytes by_code passing cells_of power_on length_within fresh_machine
    cells_it = refl

  -- in every use
  module _ (lows : all_low track ≡ true) (sum : ℕ)
      (closes : (l : Lines) (h : Host) → crc_from (cells_by (s l h)) 7 131 ≡ sum)
      (c : Accepted) (course : Course c) (is : ReadOver false track c)
      (head : throughout head_loaded course.calls ≡ true)
      (head_last : head_loaded course.before course.after course.last ≡ true) where
    abbrev host : Host
    host = course_then course silent

    abbrev n : ℕ
    n = took course

    lit : HeadOn host
    lit = lit_by course head head_last

    found : Shows course.after not_found_bit false
    found = shown_off false track refl lows c is (on_ring c.lines) course head head_last (serves c.lines)

    says : ReadShowsMark c course
    says = demand_2.requests.shown_marks c course false (subst SingleRead (sym is.command) read_80)

    same_scene : course_scene course ≡ s c.lines host
    same_scene i = record { machine = is.machine i; lines = c.lines; byte = is.command i; row = is.row i; host = host }

    there : end_of (s c.lines host) n ≡ course.after.machine
    there = ap (λ (s : Scene). end_of s n) (sym same_scene) ∙ says.there

    told : MarkShown (s c.lines host) n
    told =
        subst (λ (s : Scene). MarkShown s n) same_scene
        (says.shows (showed_by course.after c.lines not_found_bit false found))

    -- the record is the track's
    is_it : ((end_of (s c.lines host) n).regs.sr ≡ 1) × (told.search.since ≡ 0)
    unfolding bit_of is_multiple power_on length_within fresh_machine
    is_it =
        let (first, sr) = told.single refl in
        (sr, first ∙ begins_at_once (s c.lines host) refl lit told.search.begun told.search.begins)

    record Told : Type 0 where
      ends : n ≡ 138
      deleted : (l : Lines) → deleted_mark (end_of (s c.lines host) n) l ≡ is_deleted mark
      crc : (l : Lines) → crc_error (end_of (s c.lines host) n) l ≡ not (eqb sum 0)

    tells : (r : RecordFrom (s c.lines host) 1 0) → n ≡ passed_by r → ShowsRecord (s c.lines host) n r → Told
    unfolding it power_on length_within fresh_machine
    tells r over shows =
        record {
          ends = over ∙ one_end r the ∙ ap (λ (k : ℕ). 7 + k) (cells_it c.lines host);
          deleted = λ l.
              shows.deleted l
              ∙ ap counts_deleted (mark_last_byte false (cells_by (s c.lines host)) r.mark_at (mark_byte r.mark) r.marked.within.stands)
              ∙ sym (deleted_byte r.mark)
              ∙ ap is_deleted (same_marks r the).1;
          crc = λ l. exactly (shows.crc l);
        }
      where
        the : RecordFrom (s c.lines host) 1 0
        the = it c.lines host

        sum_is : crc_from (cells_by (s c.lines host)) 7 (field_cells the) ≡ sum
        sum_is = ap (crc_from (cells_by (s c.lines host)) 7) (cells_it c.lines host) ∙ closes c.lines host

        exactly : {bit : Bool} → (bit ≡ false) ↔ GoodCrc r → bit ≡ not (eqb sum 0)
        exactly {bit} told = by (eqb sum 0) refl
          where
            by : (zero : Bool) → eqb sum 0 ≡ zero → bit ≡ not zero
            by true e = told.1 (good_both the r (sum_is ∙ eqb-true sum 0 e))
            by false e = not-eq-not.0 (λ off. eqb-false sum 0 e (sym sum_is ∙ good_both r the (told.0 off)))

    shows : RecordShown c course (is_deleted mark) (not (eqb sum 0))
    shows =
        let all =
        same_search
        (λ (sector t : ℕ). (r : RecordFrom (s c.lines host) sector t) → n ≡ passed_by r → ShowsRecord (s c.lines host) n r → Told)
        is_it tells told.last told.ends told.shows in
        record {
          ends = all.ends;
          found = found;
          mark = shows_there course.after there deleted_bit (is_deleted mark) all.deleted;
          crc = shows_there course.after there crc_error_bit (not (eqb sum 0)) all.crc;
        }

-- ---- MFM

module _ (l : Lines) where
  id_in_mfm : (cells : ℕ → ℕ)
      → cells 0 ≡ sync
      → cells 1 ≡ sync
      → cells 2 ≡ sync
      → cells 3 ≡ 0xFE
      → Gives (λ i. ltb (cells (behind true 0 + i)) 256) true (count 0 6)
      → IdAt true cells 0
  unfolding MarkAt
  id_in_mfm cells x y z fe plain =
      record {
        mark = (omega arith, x, y, z, fe);
        plain = λ i l. ltb-true _ _ (sym (range (λ i. ltb (cells (behind true 0 + i)) 256) 0 6 plain (omega arith) l));
      }

  mfm_first : FirstWhole (scene l true old_in_mfm) 9
  unfolding lead_of id_from crc_from crc_byte crc_bits crc_bit passing cells_of bit_of turns_on power_on length_within fresh_machine
  mfm_first =
      whole_at l true old_in_mfm (0, refl, id_in_mfm (stream_of (scene l true old_in_mfm)) refl refl refl refl refl, refl)

  mfm_ring : OnRing (scene l true old_in_mfm)
  unfolding lead_of id_from crc_from crc_byte crc_bits crc_bit cells_of power_on length_within fresh_machine
  mfm_ring =
      record {
        cell = 0;
        inside = omega arith;
        stands = id_in_mfm (cells_of old_in_mfm) refl refl refl refl refl;
        suits = suits l true old_in_mfm;
      }

  -- neither FB nor F8 is in the window
  passed_over : MarkInWindow (scene l true old_in_mfm) 9 → ⊥
  unfolding MarkAt lead_of window_cells passing cells_of bit_of turns_on power_on length_within fresh_machine
  passed_over m = by m.data_mark m.stands
    where
      stream : ℕ → ℕ
      stream = stream_of (scene l true old_in_mfm)

      none : (b : ℕ) → Gives (λ k. eqb (stream k) b) false (count 13 40) → stream (m.a + 3) ≡ b → ⊥
      none b other =
          eqb-false _ _
          (sym
          (range (λ k. eqb (stream k) b) {x = m.a + 3} 13 40 other (omega (arith, m.after)) (omega (arith, m.within))))

      by : IsDataMark true m.byte → MarkAt true stream m.a m.byte → ⊥
      by (fb e) (low, x, y, z, last) = none 0xFB refl (last ∙ e)
      by (f8 e) (low, x, y, z, last) = none 0xF8 refl (last ∙ e)
      by (f9 fm e) stands = never (cc)
      by (fa fm e) stands = never (cc)

pub old_marks : OldMarks
unfolding all_low mark_byte is_deleted crc_from crc_byte crc_bits crc_bit passing cells_of power_on length_within fresh_machine
old_marks =
    record {
      f9_deleted = shows F9 0x30 0xC6 refl 0 (λ l h. refl);
      fa_normal = shows Fa 0x6B 0xCB refl 0 (λ l h. refl);
      fb_crc = shows Fa 0x5D 0x30 refl 0xF147 (λ l h. refl);
      in_mfm = λ c course is head last.
          shown_on true old_in_mfm refl refl c is (mfm_ring c.lines) course head last (inr (9, mfm_first c.lines, passed_over c.lines));
    }

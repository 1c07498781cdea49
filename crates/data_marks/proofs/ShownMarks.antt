-- Request f, "Old single-density marks", as one theorem over the definitions of the crate `wd`: for every machine, every host, every
-- track and every start, with m and without. Assumes nothing.
use mathlib.Core.Path.{◌≡◌, refl, sym, ap, ◌∙◌, subst}
use mathlib.Core.Bool.{Bool, true, false, true≢false, not}
use mathlib.Core.Logic.{◌↔◌}
use Prim.Native.Nat.{ℕ}
use lib.Dec.{eqb}
use borrow.Author.Tests.{eqb-true, eq-eqb}
use Rattle.common.proofs.Cases.{never}
use Rattle.scan.specs.DataMarks.{mark_byte, is_deleted}
use Rattle.scan.proofs.Marks.{mark_last_byte}
use Rattle.reachable.proofs.StatusBits.{status_four, status_crc, status_deleted}
use Rattle.hosts.specs.Scenes.{Scene, counts_deleted}
use Rattle.hosts.proofs.DataFields.{deleted_byte}
use Rattle.in_time.specs.Demand3.{IsDataMark}
use Rattle.in_time.proofs.Hits.{named_byte}
use Rattle.multiple.specs.Multiple.{end_of, cells_by, RecordFrom}
use Rattle.multiple.proofs.Ended.{valid, type_two, How, stopped, missed, its, last}
use Rattle.data_marks.specs.ShownMarks.{mark_found, MarkShown, ShowsMark}

-- ---- a record's mark

module _ {s : Scene} {sector t : ℕ} (r : RecordFrom s sector t) where
  -- its byte on the track is the byte that the mark is named by
  found_byte : mark_found r ≡ mark_byte r.mark
  found_byte = mark_last_byte s.machine.mfm (cells_by s) r.mark_at (mark_byte r.mark) r.marked.within.stands

  is_data_mark : IsDataMark s.machine.mfm (mark_found r)
  is_data_mark =
      subst (IsDataMark s.machine.mfm) (sym found_byte) (named_byte s.machine.mfm r.mark r.marked.within.of_density)

  counts : is_deleted r.mark ≡ counts_deleted (mark_found r)
  counts = deleted_byte r.mark ∙ ap counts_deleted (sym found_byte)

-- a bit that says whether a register is not 0
off_at_zero : (sum : ℕ) {bit : Bool} → bit ≡ not (eqb sum 0) → (bit ≡ false) ↔ (sum ≡ 0)
off_at_zero sum e = (λ off. by (eqb sum 0) refl (sym e ∙ off), λ good. e ∙ ap not (eq-eqb sum 0 good))
  where
    by : (zero : Bool) → eqb sum 0 ≡ zero → not zero ≡ false → sum ≡ 0
    by true is off = eqb-true sum 0 is
    by false is off = never (cc)

-- a Read Sector that has ended without Record Not Found shows which mark it met, and whether its field is good
pub mark_shown : (s : Scene) → ShowsMark s
mark_shown s n e ready l found = by (its e ready).how
  where
    by : How e ready (end_of s n).regs.sr (its e ready).since → MarkShown s n
    by (stopped r bad over crc missing deleted drq) =
        record {
          search = last e ready;
          single = (its e ready).single;
          last = r;
          ends = over;
          shows = record {
            data_mark = is_data_mark r;
            deleted = λ l. status_deleted (end_of s n) l (valid e) (type_two e) ∙ deleted ∙ counts r;
            crc = λ l. off_at_zero _ (status_crc (end_of s n) l (valid e) ∙ crc);
          };
        }
    by (missed nothing missing deleted) = absurd (true≢false (sym missing ∙ sym (status_four (end_of s n) l (valid e)) ∙ found))

-- Every use of a Read Sector shows which data mark it met, as request f says. Assumes nothing.
use mathlib.Core.Bool.{Bool, false}
use Rattle.multiple.specs.Multiple.{EndedReadSector}
use Rattle.data_marks.proofs.ShownMarks.{mark_shown}
use Rattle.uses.specs.Courses.{not_found_bit, Accepted, Course, took, course_scene, SectorRead}
use Rattle.uses.specs.ShownMarks.{ReadShowsMark}
use Rattle.uses.proofs.Endings.{taken}
use Rattle.uses.proofs.SectorReads.{is_read, alone, ends, ready, there, showed_at_end}

module _ (c : Accepted) (course : Course c) {multiple : Bool} (reads : SectorRead multiple c.byte) where
  over : EndedReadSector (course_scene course) (took course)
  over =
      record {
        reads = is_read c course reads;
        accepted = taken c;
        alone = alone c course reads;
        ends = ends c course reads;
      }

  pub read_shows_mark : ReadShowsMark c course
  read_shows_mark =
      record {
        shows = λ found. let (l, off) = showed_at_end c course reads not_found_bit false found in mark_shown (course_scene course) (took course) over (ready c course reads) l off;
        there = there c course reads;
      }

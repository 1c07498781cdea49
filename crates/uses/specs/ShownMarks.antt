-- What a Read Sector shows of the data mark that it met, in every use: request f over the contracts of the calls. Assumes nothing.
use Rattle.std.specs.Prelude.{◌≡◌, false}
use Rattle.multiple.specs.Multiple.{end_of}
use Rattle.data_marks.specs.ShownMarks.{MarkShown}
use Rattle.uses.specs.Courses.{not_found_bit, Showed, Accepted, Course, took, course_scene}

-- of every Read Sector, with m or without, that has ended by itself
pub record ReadShowsMark (c : Accepted) (course : Course c) : Type 0 where
  -- where its status byte has shown that bit 4 is off, bits 5 and 3 are those of the record that it ended with, ..
  pub shows : Showed course.after not_found_bit false → MarkShown (course_scene course) (took course)
  -- .. and the machine that this is said of is the one that its calls have led to
  pub there : end_of (course_scene course) (took course) ≡ course.after.machine

-- What the requests that have landed add to demand 2, each in its own words, over the contracts of the calls. Assumes nothing.
use Rattle.std.specs.Prelude.{Bool}
use Rattle.wd.specs.declared.Machine.{Machine}
use Rattle.reachable.specs.Sides.{SideOutput}
use Rattle.hosts.specs.Hosts.{Desk}
use Rattle.uses.specs.Uses.{Use}
use Rattle.uses.specs.Courses.{Accepted, since, Course, SectorRead, MultipleRead}
use Rattle.uses.specs.Multiples.{MultipleReadEnds, MultipleAsked, OverAtBroken}
use Rattle.uses.specs.ShownMarks.{ReadShowsMark}

pub record Requests : Type 0 where
  -- i, "WD1797": "U goes to the side output at acceptance"; a WD1793 has none
  pub side_output : (m : Machine) → SideOutput m
  -- b, "A bad data CRC ends a multiple read": "Bit 3 on, Busy off, INTRQ, and SR stays at the broken sector. Demand 2 reads so from now
  -- on". Where it has ended, it stands at the first bad record, or every record was good; ..
  pub multiple : (c : Accepted) (course : Course c) → MultipleRead c.byte → MultipleReadEnds c course
  -- .. and where a bad record has passed, it has ended
  pub broken_over : (c : Accepted) (e : Desk) (u : Use (since c) e) → MultipleAsked c → OverAtBroken c u
  -- f, "Old single-density marks": "F9 counts as deleted, FA as normal." A Read Sector that has ended with a record, with m a bad one,
  -- shows what its mark counts as, and the CRC starts with the mark that was met; with m and Record Not Found, `multiple` says so
  pub shown_marks : (c : Accepted) (course : Course c) (multiple : Bool) → SectorRead multiple c.byte → ReadShowsMark c course

-- A multiple read in every use: request b over the contracts of the calls. Assumes nothing.
use Rattle.std.specs.Prelude.{◌≡◌, true, false, ℕ, ◌≤◌, ◌<◌, length, get_or}
use Rattle.hosts.specs.Hosts.{Desk}
use Rattle.multiple.specs.Multiple.{end_of, RecordFrom, GoodCrc, passed_by, GoodRecords, SearchesFrom, MultipleEnds, StandsAtBroken}
use Rattle.uses.specs.Uses.{Use, throughout, no_command, passed, host_of}
use Rattle.uses.specs.Courses.{not_found_bit, crc_error_bit, busy_bit, Shows, Showed, Accepted, since, Course, took, silent, scene_of, course_scene, MultipleRead}

-- ---- where it has ended

-- of every Read Sector with m that has ended by itself
pub record MultipleReadEnds (c : Accepted) (course : Course c) : Type 0 where
  -- it ends at the first bad record, or with Record Not Found where every record was good, ..
  pub ends : MultipleEnds (course_scene course) (took course)
  -- .. and the machine that this is said of is the one that its calls have led to
  pub there : end_of (course_scene course) (took course) ≡ course.after.machine
  -- "a multiple read that has ended with bit 3 on and bit 4 off stands at the first record whose CRC was bad, and every record
  -- before it was good"
  pub broken :
      Showed course.after crc_error_bit true
      → Showed course.after not_found_bit false
      → StandsAtBroken (course_scene course) (took course)

-- ---- and that it ends

-- a Read Sector with m, accepted with the drive ready, over a row of the ring's length with no cell above 511
pub record MultipleAsked (c : Accepted) : Type 0 where
  pub reads : MultipleRead c.byte
  pub ready : c.lines.ready ≡ true
  pub whole : length c.row ≡ c.machine.ring.length
  pub low : (i : ℕ) → i < length c.row → get_or c.row i 0 ≤ 511

-- as long as no other command is accepted: when it has passed good records alone, and then a bad one, Busy is off
abbrev pub OverAtBroken : (c : Accepted) {e : Desk} → Use (since c) e → Type 0
OverAtBroken c {e} u =
    throughout no_command u ≡ true
    → (begun sector from : ℕ)
    → SearchesFrom (scene_of c (host_of u silent)) begun
    → GoodRecords (scene_of c (host_of u silent)) c.machine.regs.sr begun sector from
    → (r : RecordFrom (scene_of c (host_of u silent)) sector from)
    → (GoodCrc r → ⊥)
    → passed_by r ≤ passed u
    → Shows e busy_bit false

-- Request b over an FM track with two records, of which the second has a deleted mark and a bad CRC. Assumes nothing.
use Rattle.std.specs.Prelude.{◌≡◌, true, false, ◌≤◌}
use Rattle.command.specs.declared.Chip.{Chip}
use Rattle.hosts.specs.Hosts.{Desk}
use Rattle.in_time.proofs.Scenes.{fresh}
use Rattle.witnesses.proofs.Multiples.{two_records}
use Rattle.uses.specs.Uses.{Use, throughout, no_command, head_loaded, passed}
use Rattle.uses.specs.Courses.{deleted_bit, not_found_bit, crc_error_bit, busy_bit, Shows, Accepted, since, Course, took}

-- 98 (Read Sector with m), accepted at power-on with the drive ready, TR 0 and SR 1, over that track
pub record MultipleOver (chip : Chip) (c : Accepted) : Type 0 where
  pub machine : c.machine ≡ fresh false chip
  pub command : c.byte ≡ 0x98
  pub row : c.row ≡ two_records
  pub ready : c.lines.ready ≡ true

-- "Bit 3 on, Busy off, INTRQ, and SR stays at the broken sector."
pub record AtSecond (c : Accepted) (course : Course c) : Type 0 where
  pub ends : took course ≡ 276
  pub intrq : course.after.machine.wires.intrq ≡ true
  pub sr : course.after.machine.regs.sr ≡ 2
  pub crc : Shows course.after crc_error_bit true
  pub found : Shows course.after not_found_bit false
  pub deleted : Shows course.after deleted_bit true

-- on both chips, in every use with HLT on throughout
pub record Broken : Type 0 where
  -- when 276 byte times have passed Busy is off
  pub over : (chip : Chip) (c : Accepted) (e : Desk) (u : Use (since c) e)
      → MultipleOver chip c
      → throughout head_loaded u ≡ true
      → throughout no_command u ≡ true
      → 276 ≤ passed u
      → Shows e busy_bit false
  pub ends : (chip : Chip) (c : Accepted) (course : Course c)
      → MultipleOver chip c
      → throughout head_loaded course.calls ≡ true
      → head_loaded course.before course.after course.last ≡ true
      → AtSecond c course

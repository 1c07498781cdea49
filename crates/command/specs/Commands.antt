-- Which command a byte is, and how it is taken up: document 01, "Registers and commands", and document 02, i and m.
-- Assumes nothing.
use Rattle.std.specs.Prelude.{ℕ, ◌%◌, Bool, true, false, cond, ◌&&◌, ◌||◌, leb, eqb, Option, Some, None}
use Rattle.command.specs.declared.Chip.{Chip}
use Rattle.command.specs.declared.Chip.TheVariants.{Wd1793, Wd1797}
use Rattle.command.specs.declared.Command.{Command}
use Rattle.command.specs.declared.Command.TheVariants.{Restore, Seek, Step, StepIn, StepOut, ReadSector, WriteSector, ReadAddress, WriteTrack, ForceInterrupt}
use Rattle.command.specs.declared.Class.{Class}
use Rattle.command.specs.declared.Class.TheVariants.{Seeks, Steps, Works, Forces}
use Rattle.command.specs.declared.Job.{Job}
use Rattle.command.specs.declared.Job.TheVariants as job

-- A row of bytes, from its first to its last.
abbrev pub within : ℕ → ℕ → ℕ → Bool
within first last byte = leb first byte && leb byte last

-- What both chips take: "00-0F Restore, 10-1F Seek, 20-3F Step, 40-5F Step-in, 60-7F Step-out, all Type I; even 80-9E Read Sector;
-- A0-BF Write Sector; C0, C4 Read Address; .. F0, F4 Write Track; D0-DF Force Interrupt." And "On both chips E0, E2, E4, E6 are no
-- longer commands."
unfoldable pub decoded_by_both : ℕ → Option Command
decoded_by_both byte =
    cond (within 0x00 0x0F byte) (Some Restore)
    (cond (within 0x10 0x1F byte) (Some Seek)
    (cond (within 0x20 0x3F byte) (Some Step)
    (cond (within 0x40 0x5F byte) (Some StepIn)
    (cond (within 0x60 0x7F byte) (Some StepOut)
    (cond (within 0x80 0x9E byte && eqb (byte % 2) 0) (Some ReadSector)
    (cond (within 0xA0 0xBF byte) (Some WriteSector)
    (cond (eqb byte 0xC0 || eqb byte 0xC4) (Some ReadAddress)
    (cond (eqb byte 0xF0 || eqb byte 0xF4) (Some WriteTrack)
    (cond (within 0xD0 0xDF byte) (Some ForceInterrupt)
    None)))))))))

-- The other bytes are refused, but on the 1797 "bit 1 of Type III commands is U too, so C2, C6, .. F2, F6 become commands for this
-- chip only".
unfoldable pub decoded_with_u : Chip → ℕ → Option Command
decoded_with_u Wd1793 byte = None
decoded_with_u Wd1797 byte =
    cond (eqb byte 0xC2 || eqb byte 0xC6) (Some ReadAddress)
    (cond (eqb byte 0xF2 || eqb byte 0xF6) (Some WriteTrack)
    None)

-- what is taken, or else the other
abbrev pub taken_or : Option Command → Option Command → Option Command
taken_or other (Some command) = Some command
taken_or other None = other

-- what a byte is on a chip
unfoldable pub decoded_of : Chip → ℕ → Option Command
decoded_of chip byte = taken_or (decoded_with_u chip byte) (decoded_by_both byte)

-- 7 is given exactly when the byte is no command.
abbrev pub decode_refusal : Option Command → ℕ
decode_refusal (Some command) = 0
decode_refusal None = 7

-- Restore and Seek step until a track is reached; Step, Step-in and Step-out make one pulse; Types II and III load the head
-- and work under it; Force Interrupt ends a command.
unfoldable pub class_of : Command → Class
class_of Restore = Seeks
class_of Seek = Seeks
class_of Step = Steps
class_of StepIn = Steps
class_of StepOut = Steps
class_of ReadSector = Works
class_of WriteSector = Works
class_of ReadAddress = Works
class_of WriteTrack = Works
class_of ForceInterrupt = Forces

-- Once the head has settled, a Type I command verifies, Types II and III do what their names say, and Force Interrupt does
-- nothing.
unfoldable pub job_of : Command → Job
job_of Restore = job.Verify
job_of Seek = job.Verify
job_of Step = job.Verify
job_of StepIn = job.Verify
job_of StepOut = job.Verify
job_of ReadSector = job.ReadSector
job_of WriteSector = job.WriteSector
job_of ReadAddress = job.ReadAddress
job_of WriteTrack = job.WriteTrack
job_of ForceInterrupt = job.Nothing

-- Restore is a Seek with a rule of its own where it begins and where it stops.
unfoldable pub is_restore : Command → Bool
is_restore Restore = true
is_restore Seek = false
is_restore Step = false
is_restore StepIn = false
is_restore StepOut = false
is_restore ReadSector = false
is_restore WriteSector = false
is_restore ReadAddress = false
is_restore WriteTrack = false
is_restore ForceInterrupt = false

-- One byte time: what begins in it, and what the activity does then. Assumes nothing.
use Rattle.std.specs.Prelude.{cond, not, ◌&&◌, ℕ, ◌-◌, eqb}
use Rattle.crc.specs.Crc.{preset}
use Rattle.command.specs.Bits.{is_multiple, mark_written}
use Rattle.command.specs.Commands.{job_of}
use Rattle.command.specs.declared.Order.{Order}
use Rattle.command.specs.declared.Job.{Job}
use Rattle.command.specs.declared.Job.TheVariants as job
use Rattle.activity.specs.Acts.{pass}
use Rattle.activity.specs.declared.Seen.{Seen}
use Rattle.activity.specs.declared.Act.{Act}
use Rattle.activity.specs.declared.Activity.{Activity}
use Rattle.activity.specs.declared.Activity.TheVariants.{Idle, Seek, Pulse, Stop, Settle, Search, Window, Data, Hunt, Address, Await, Preamble, Put, Format, FormatCrc}
use Rattle.activity.specs.declared.Deed.TheVariants.{Nothing, Late}
use Rattle.scan.specs.DataMarks.{mark_byte}
use Rattle.stepping.specs.Stepping.{seek_turn, pulse_turn, stop_turn}
use Rattle.search.specs.Search.{afresh, search_cell}
use Rattle.reading.specs.Reading.{window_cell, data_cell, hunt_cell, address_cell}
use Rattle.writing.specs.Writing.{preamble_turn, put_cell}
use Rattle.formatting.specs.Formatting.{format_cell, format_crc_cell}

-- Write Track: DRQ "still on at the first pulse: Lost Data, end. Else L cells from that pulse"; up to it, it waits
unfoldable pub format_begun : Seen → Activity
format_begun s = cond (s.index && not s.drq) (Format preset) Await

-- "then begin with the first byte time that has HLT on": a verify and Type II search, Read Address hunts for a mark, and Write
-- Track waits for its pulse, which may have come
unfoldable pub job_begun : Seen → Job → Activity
job_begun s job.Nothing = Idle
job_begun s job.Verify = afresh 0
job_begun s job.ReadSector = afresh 0
job_begun s job.WriteSector = afresh 0
job_begun s job.ReadAddress = Hunt 0 0
job_begun s job.WriteTrack = format_begun s

-- What begins in this byte time: settled with HLT on, or at the pulse that is awaited, which is seen before its cell. All
-- other activities go on.
unfoldable pub begun_activity : Order → Seen → Activity → Activity
begun_activity o s Idle = Idle
begun_activity o s (Seek left) = Seek left
begun_activity o s Pulse = Pulse
begun_activity o s (Stop left) = Stop left
begun_activity o s (Settle left) = cond (eqb left 0 && s.hlt) (job_begun s (job_of o.command)) (Settle left)
begun_activity o s (Search pulses scan) = Search pulses scan
begun_activity o s (Window left passed run) = Window left passed run
begun_activity o s (Data left crc deleted) = Data left crc deleted
begun_activity o s (Hunt pulses run) = Hunt pulses run
begun_activity o s (Address passed crc track) = Address passed crc track
begun_activity o s Await = format_begun s
begun_activity o s (Preamble left passed) = Preamble left passed
begun_activity o s (Put left crc) = Put left crc
begun_activity o s (Format crc) = Format crc
begun_activity o s (FormatCrc crc) = FormatCrc crc

-- "settle for 469 (FM) or 938 (MFM) byte times": one of them, or waiting for HLT
unfoldable pub settle_turn : Seen → ℕ → Act
settle_turn s left = pass s (Settle (cond (eqb left 0) 0 (left - 1))) Nothing

-- a pulse that has begun nothing finds a Write Track whose DRQ is "still on at the first pulse: Lost Data, end"
unfoldable pub await_turn : Seen → Act
await_turn s = cond s.index (pass s Idle Late) (pass s Await Nothing)

-- what the activity does with the cell
unfoldable pub activity_act : Order → Seen → Activity → Act
activity_act o s Idle = pass s Idle Nothing
activity_act o s (Seek left) = seek_turn o s left
activity_act o s Pulse = pulse_turn o s
activity_act o s (Stop left) = stop_turn o s left
activity_act o s (Settle left) = settle_turn s left
activity_act o s (Search pulses scan) = search_cell o s pulses scan
activity_act o s (Window left passed run) = window_cell s left passed run
activity_act o s (Data left crc deleted) = data_cell s (is_multiple o.byte) left crc deleted
activity_act o s (Hunt pulses run) = hunt_cell s pulses run
activity_act o s (Address passed crc track) = address_cell s passed crc track
activity_act o s Await = await_turn s
activity_act o s (Preamble left passed) = preamble_turn s (mark_byte (mark_written o.byte)) left passed
activity_act o s (Put left crc) = put_cell s (is_multiple o.byte) left crc
activity_act o s (Format crc) = format_cell s crc
activity_act o s (FormatCrc crc) = format_crc_cell s crc

-- What begins in this byte time has begun before the cell is looked at.
unfoldable pub act_of : Order → Seen → Activity → Act
act_of o s a = activity_act o s (begun_activity o s a)

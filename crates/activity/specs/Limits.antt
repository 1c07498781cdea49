-- What an activity is: whether it is a command's, and how large its counts get. Assumes nothing.
use Rattle.std.specs.Prelude.{Bool, true, false, ◌&&◌, ℕ, ◌+◌, ◌-◌, leb}
use Rattle.scan.specs.Marks.{syncs}
use Rattle.scan.specs.Ids.{last_id_cell}
use Rattle.scan.specs.DataMarks.{longest_window}
use Rattle.command.specs.Times.{settling_mfm}
use Rattle.command.specs.Sizes.{largest_size}
use Rattle.scan.specs.declared.Scan.{Scan}
use Rattle.scan.specs.declared.Scan.TheVariants.{Gap, Field}
use Rattle.activity.specs.declared.Activity.{Activity}
use Rattle.activity.specs.declared.Activity.TheVariants.{Idle, Seek, Pulse, Stop, Settle, Search, Window, Data, Hunt, Address, Await, Preamble, Put, Format, FormatCrc}

-- Busy: a command is under way
unfoldable pub busy_in : Activity → Bool
busy_in Idle = false
busy_in (Seek left) = true
busy_in Pulse = true
busy_in (Stop left) = true
busy_in (Settle left) = true
busy_in (Search pulses scan) = true
busy_in (Window left passed run) = true
busy_in (Data left crc deleted) = true
busy_in (Hunt pulses run) = true
busy_in (Address passed crc track) = true
busy_in Await = true
busy_in (Preamble left passed) = true
busy_in (Put left crc) = true
busy_in (Format crc) = true
busy_in (FormatCrc crc) = true

-- ---- the largest counts, by what gives them

-- "the fifth ends the command": a search goes on with four pulses counted
abbrev pub most_pulses : ℕ
most_pulses = 4

-- a data field's two CRC cells are counted with it, and a written one's FF
abbrev pub most_read : ℕ
most_read = largest_size + 2

abbrev pub most_written : ℕ
most_written = largest_size + 3

-- the mark of a written field is the 38th cell after the ID in MFM, the later density
abbrev pub last_preamble : ℕ
last_preamble = 37

-- "a count above the largest its activity holds in any machine grown from power-on": none of the scanner's is
unfoldable pub scan_within : Scan → Bool
scan_within (Gap run) = leb run syncs
scan_within (Field part) = leb part.passed last_id_cell

-- and none of the activity's
unfoldable pub counts_within : Activity → Bool
counts_within Idle = true
counts_within (Seek left) = leb left settling_mfm
counts_within Pulse = true
counts_within (Stop left) = leb left settling_mfm
counts_within (Settle left) = leb left settling_mfm
counts_within (Search pulses scan) = leb pulses most_pulses && scan_within scan
counts_within (Window left passed run) = leb left most_read && leb passed (longest_window - 1) && leb run syncs
counts_within (Data left crc deleted) = leb left most_read
counts_within (Hunt pulses run) = leb pulses most_pulses && leb run syncs
counts_within (Address passed crc track) = leb passed last_id_cell
counts_within Await = true
counts_within (Preamble left passed) = leb left most_written && leb passed last_preamble
counts_within (Put left crc) = leb left most_written
counts_within (Format crc) = true
counts_within (FormatCrc crc) = true

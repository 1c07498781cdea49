-- Byte times in which nothing happens but that the ring turns and a wait grows shorter. Document 01 does not speak of
-- stretches: that they are what its sentences come to is proved (proofs/Stretching.antt). Assumes nothing.
use Rattle.std.specs.Prelude.{Bool, false, cond, not, ◌&&◌, ◌||◌, List, ℕ, zero, suc, ◌-◌, ltb, leb, eqb, length, get_or}
use Rattle.scan.specs.declared.Scan.{Scan}
use Rattle.scan.specs.declared.Scan.TheVariants.{Gap, Field}
use Rattle.activity.specs.declared.Activity.{Activity}
use Rattle.activity.specs.declared.Activity.TheVariants.{Idle, Seek, Pulse, Stop, Settle, Search, Window, Data, Hunt, Address, Await, Preamble, Put, Format, FormatCrc}
use Rattle.registers.specs.declared.Ring.{Ring}
use Rattle.stretch.specs.declared.Reach.{Reach}

unfoldable pub least_of : ℕ → ℕ → ℕ
least_of a b = cond (ltb a b) a b

-- no stretch
abbrev pub nowhere : Reach
nowhere = record { most = 0; below = 0 }

-- a wait of which so many byte times are left in which nothing happens, over any cell that is not refused
unfoldable pub wait_reach : ℕ → ℕ → Reach
wait_reach limit left = record { most = least_of left limit; below = 512 }

-- the scanner has nothing in hand
unfoldable pub empty_gap : Scan → Bool
empty_gap (Gap run) = eqb run 0
empty_gap (Field part) = false

-- a search passes the unflagged cells of a gap, for an ID as for an ID's mark
unfoldable pub search_reach : ℕ → ℕ → Scan → Reach
search_reach limit pulses scan = cond (ltb pulses 5 && empty_gap scan) (record { most = limit; below = 256 }) nowhere

-- how far nothing happens, up to a limit: idle, in front of the first pulse of a Write Track, settling for as long as byte
-- times are left, and between two steps up to the byte time that decides
unfoldable pub reach_of : ℕ → Activity → Reach
reach_of limit Idle = record { most = limit; below = 512 }
reach_of limit (Seek left) = wait_reach limit (left - 1)
reach_of limit Pulse = nowhere
reach_of limit (Stop left) = wait_reach limit (left - 1)
reach_of limit (Settle left) = wait_reach limit left
reach_of limit (Search pulses scan) = search_reach limit pulses scan
reach_of limit (Window left passed run) = nowhere
reach_of limit (Data left crc deleted) = nowhere
reach_of limit (Hunt pulses run) = search_reach limit pulses (Gap run)
reach_of limit (Address passed crc track) = nowhere
reach_of limit Await = record { most = limit; below = 512 }
reach_of limit (Preamble left passed) = nowhere
reach_of limit (Put left crc) = nowhere
reach_of limit (Format crc) = nowhere
reach_of limit (FormatCrc crc) = nowhere

-- the activity after so many such byte times: of a wait so many fewer are left
unfoldable pub activity_after : ℕ → Activity → Activity
activity_after passed Idle = Idle
activity_after passed (Seek left) = Seek (left - passed)
activity_after passed Pulse = Pulse
activity_after passed (Stop left) = Stop (left - passed)
activity_after passed (Settle left) = Settle (left - passed)
activity_after passed (Search pulses scan) = Search pulses scan
activity_after passed (Window left gone run) = Window left gone run
activity_after passed (Data left crc deleted) = Data left crc deleted
activity_after passed (Hunt pulses run) = Hunt pulses run
activity_after passed (Address gone crc track) = Address gone crc track
activity_after passed Await = Await
activity_after passed (Preamble left gone) = Preamble left gone
activity_after passed (Put left crc) = Put left crc
activity_after passed (Format crc) = Format crc
activity_after passed (FormatCrc crc) = FormatCrc crc

-- the first place from there on, within n cells, whose cell is not below the bound
unfoldable pub clear_from : List ℕ → ℕ → ℕ → ℕ → ℕ
clear_from row below zero from = from
clear_from row below (suc n) from = cond (ltb (get_or row from 0) below) (clear_from row below n (suc from)) from

-- how many byte times of a stretch come next, at most so many: cell 0, whose byte time is an index pulse, and the ring's last,
-- after which the position goes to 0, are in none
unfoldable pub reach_in : Ring → Activity → ℕ → Reach
reach_in r a limit = reach_of (least_of (r.length - 1 - r.position) limit) a

unfoldable pub stretch_ahead : Ring → Activity → ℕ → List ℕ → ℕ
stretch_ahead r a limit row =
    cond (eqb r.position 0 || leb r.length r.position || not (eqb (length row) r.length)) 0
    (clear_from row (reach_in r a limit).below (reach_in r a limit).most r.position - r.position)

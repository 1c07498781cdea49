-- A byte transferred between host and track. Document 01 does not set such byte times apart: that they are what its sentences
-- come to is proved (proofs/Transferring.antt). Assumes nothing.
use Rattle.std.specs.Prelude.{Bool, cond, ◌||◌, ℕ, ◌-◌, ltb, eqb, Option, Some, None}
use Rattle.crc.specs.Crc.{crc_byte}
use Rattle.scan.specs.Marks.{byte_of}
use Rattle.activity.specs.declared.Seen.{Seen}
use Rattle.activity.specs.declared.Activity.{Activity}
use Rattle.activity.specs.declared.Activity.TheVariants.{Idle, Seek, Pulse, Stop, Settle, Search, Window, Data, Hunt, Address, Await, Preamble, Put, Format, FormatCrc}
use Rattle.activity.specs.Acts.{taken_of}
use Rattle.formatting.specs.Formatting.{laid_cell, laid_crc}
use Rattle.transfer.specs.declared.Transfer.{Transfer}

-- a data byte, and not one of the two CRC cells
unfoldable pub read_transfer : Seen → ℕ → ℕ → Bool → Option Transfer
read_transfer s left crc deleted =
    cond (ltb left 3) None
    (Some (record { next = Data (left - 1) (crc_byte crc (byte_of s.cell)) deleted; dr = byte_of s.cell; cell = s.cell }))

-- a data cell, and not the last
unfoldable pub write_transfer : Seen → ℕ → ℕ → Option Transfer
write_transfer s left crc =
    cond (ltb left 5) None
    (Some (record { next = Put (left - 1) (crc_byte crc (taken_of s)); dr = s.dr; cell = taken_of s }))

-- a cell of a Write Track, not the last, and no F7
unfoldable pub format_transfer : Seen → ℕ → Option Transfer
format_transfer s crc =
    cond (eqb (taken_of s) 0xF7 || s.last) None
    (Some (record { next = Format (laid_crc s.mfm crc (taken_of s)); dr = s.dr; cell = laid_cell s.mfm (taken_of s) }))

unfoldable pub transfer_in : Seen → Activity → Option Transfer
transfer_in s Idle = None
transfer_in s (Seek left) = None
transfer_in s Pulse = None
transfer_in s (Stop left) = None
transfer_in s (Settle left) = None
transfer_in s (Search pulses scan) = None
transfer_in s (Window left passed run) = None
transfer_in s (Data left crc deleted) = read_transfer s left crc deleted
transfer_in s (Hunt pulses run) = None
transfer_in s (Address passed crc track) = None
transfer_in s Await = None
transfer_in s (Preamble left passed) = None
transfer_in s (Put left crc) = write_transfer s left crc
transfer_in s (Format crc) = format_transfer s crc
transfer_in s (FormatCrc crc) = None

-- Request f, "Old single-density marks": the record that a Read Sector ends with, and what the status byte shows of its data mark and
-- of its CRC. Which record that is stands in the crate `multiple`, which bytes are data marks in `in_time`, and which of them count as
-- deleted in `hosts`. Assumes nothing.
use Rattle.std.specs.Prelude.{◌≡◌, true, false, ◌↔◌, ℕ, ◌+◌}
use Rattle.scan.specs.Marks.{byte_of, lead_of}
use Rattle.command.specs.Bits.{is_multiple}
use Rattle.registers.specs.declared.Lines.{Lines}
use Rattle.hosts.specs.Scenes.{Scene, counts_deleted, crc_error, not_found, deleted_mark}
use Rattle.in_time.specs.Demand3.{IsDataMark}
use Rattle.multiple.specs.Multiple.{EndedReadSector, end_of, cells_by, RecordFrom, GoodCrc, passed_by, LastSearch}

-- the byte of a record's data mark, which is in the mark's last cell
abbrev pub mark_found : {s : Scene} {sector t : ℕ} → RecordFrom s sector t → ℕ
mark_found {s} r = byte_of (cells_by s (r.mark_at + lead_of s.machine.mfm))

-- a record's mark, and what the status byte shows of the record when n byte times have passed
pub record ShowsRecord (s : Scene) (n : ℕ) {sector t : ℕ} (r : RecordFrom s sector t) : Type 0 where
  -- "In FM only, flagged F9 and FA become data marks": it is one of the four; that each of them is met, demand 3 says
  pub data_mark : IsDataMark s.machine.mfm (mark_found r)
  -- "F9 counts as deleted, FA as normal."
  pub deleted : (l : Lines) → deleted_mark (end_of s n) l ≡ counts_deleted (mark_found r)
  -- "bit 3 if bad": the register over the record's cells starts with the mark that was met
  pub crc : (l : Lines) → (crc_error (end_of s n) l ≡ false) ↔ GoodCrc r

-- A command that has ended in byte time n has ended with this record. Without m it is the first that it came to, and SR stays; with m
-- it is a bad one, since after a good one the search starts afresh.
pub record MarkShown (s : Scene) (n : ℕ) : Type 0 where
  pub search : LastSearch s n
  pub single : is_multiple s.byte ≡ false → (search.since ≡ search.begun) × ((end_of s n).regs.sr ≡ s.machine.regs.sr)
  pub last : RecordFrom s (end_of s n).regs.sr search.since
  pub ends : n ≡ passed_by last
  pub shows : ShowsRecord s n last

-- of every Read Sector, with m or without, accepted with the drive ready, that ends by itself and without Record Not Found; nothing is
-- asked of the other lines, of the host's other calls or of the row
abbrev pub ShowsMark : Scene → Type 0
ShowsMark s =
    (n : ℕ)
    → EndedReadSector s n
    → s.lines.ready ≡ true
    → (l : Lines)
    → not_found (end_of s n) l ≡ false
    → MarkShown s n

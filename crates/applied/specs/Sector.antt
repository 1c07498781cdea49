-- Demand 2 for one sector of 128 bytes. Assumes nothing.
use Rattle.std.specs.Prelude.{◌≡◌, true, false, List, ◌++◌, ℕ, length, replicate}
use Rattle.command.specs.declared.Chip.TheVariants.{Wd1793}
use Rattle.in_time.proofs.Scenes.{fresh}
use Rattle.witnesses.proofs.Runs.{id_side_0}
use Rattle.uses.specs.Courses.{deleted_bit, Shows, Showed, NoErrorBit}
use Rattle.uses.specs.Sessions.{WriteThenRead, bytes_loaded, bytes_read, Serves}

-- the FM ID of track 0, side 0, sector 1 and 128 bytes from cell 0 on, and 00 after it
abbrev pub one_sector : List ℕ
one_sector = id_side_0 ++ replicate 2041 0x00

-- A0 (Write Sector) loaded into the machine at power-on, with TR 0 and SR 1, over that track; it ends with no error bit, and
-- 80 (Read Sector) is the next command
pub record FirstSector (t : WriteThenRead) : Type 0 where
  pub machine : t.write.machine ≡ fresh false Wd1793
  pub row : t.write.row ≡ one_sector
  pub writes : t.write.byte ≡ 0xA0
  pub ready : t.write.lines.ready ≡ true
  pub no_error : NoErrorBit Showed t.writing.after
  pub reads : t.read.byte ≡ 0x80
  pub ready_then : t.read.lines.ready ≡ true
  pub tr : t.read.machine.regs.tr ≡ 0
  pub sr : t.read.machine.regs.sr ≡ 1

pub record Sector : Type 0 where
  -- "reads back the same": 128 bytes, those that were given, with no error bit, Lost Data neither, and the mark that A0 writes
  pub reads_back : (t : WriteThenRead)
      → FirstSector t
      → Serves t
      → (length (bytes_read t.reading.calls) ≡ 128)
      × (bytes_read t.reading.calls ≡ bytes_loaded t.writing.calls)
      × NoErrorBit Shows t.reading.after
      × Shows t.reading.after deleted_bit false

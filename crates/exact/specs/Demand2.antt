-- Demand 2, reading back what was written: its premises and its conclusion. Hosts, and the bytes that a command takes and
-- hands over, are of the crate `hosts`: `specs/Hosts.antt` and `specs/Bytes.antt`. Assumes nothing.
use Rattle.std.specs.Prelude.{◌≡◌, Bool, true, false, cond, not, List, ℕ, suc, ◌+◌, ◌≤◌, ◌<◌, length, Some}
use Rattle.common.specs.Bits.{bit_of}
use Rattle.scan.specs.Marks.{lead_of}
use Rattle.scan.specs.Streams.{MarkAt, IdAt, id_width, id_from}
use Rattle.command.specs.Bits.{is_multiple, settles_first, side_asked, ibm_lengths, mark_written}
use Rattle.scan.specs.DataMarks.{is_deleted}
use Rattle.command.specs.Commands.{decoded_of}
use Rattle.command.specs.Sizes.{field_size}
use Rattle.command.specs.declared.Command.TheVariants.{ReadSector, WriteSector}
use Rattle.registers.specs.declared.Flags.{Flags}
use Rattle.registers.specs.declared.Lines.{Lines}
use Rattle.registers.specs.Status.{bit_for}
use Rattle.fields.specs.Rings.{cells_of}
use Rattle.wd.specs.declared.Machine.{Machine}
use Rattle.wd.specs.Reads.{status_of}
use Rattle.wd.specs.Loads.{load_register}
use Rattle.hosts.specs.Hosts.{Host, Desk, served_at, at, AloneUntil, EndsAt}
use Rattle.hosts.specs.Scenes.{Scene, Suits}
use Rattle.hosts.specs.Bytes.{deed_at, takes, hands, taken, handed, LateAt}
use Rattle.refusals.specs.Numbers.{done}

-- ---- the two commands

-- A Write Sector, what the host does from its acceptance on, a Read Sector, and what the host does from that on. One track is
-- lent throughout: each byte time is lent the row as the one before it left it.
pub record Session : Type 0 where
  -- the machine that is given the Write Sector, the lines of that call and its byte, and the track
  pub machine : Machine
  pub lines : Lines
  pub byte : ℕ
  pub track : List ℕ
  -- what the host does then, the byte time that the write ends in, and the byte times until the Read Sector comes
  pub writer : Host
  pub written : ℕ
  pub waited : ℕ
  -- the lines of the Read Sector's call and its byte, what the host does then, and the byte time that the read ends in
  pub lines_then : Lines
  pub byte_then : ℕ
  pub reader : Host
  pub read : ℕ

-- the Write Sector and, below, the Read Sector, each as a scene
abbrev pub write_scene : Session → Scene
write_scene s =
    record { machine = s.machine; lines = s.lines; byte = s.byte; row = s.track; host = s.writer }

-- after the Write Sector's acceptance, and as it has ended
abbrev pub begun : Session → Desk
begun s = record { machine = (load_register s.machine s.lines 0 s.byte).machine; row = s.track }

abbrev pub wrote : Session → Machine
wrote s = (at s.writer (begun s) s.written).machine

-- what the Read Sector finds, after any number of byte times and calls; after its acceptance; and as it has ended
abbrev pub asked : Session → Desk
asked s = served_at s.writer s.waited (at s.writer (begun s) s.waited)

abbrev pub resumed : Session → Desk
resumed s =
    record { machine = (load_register (asked s).machine s.lines_then 0 s.byte_then).machine; row = (asked s).row }

abbrev pub read_scene : Session → Scene
read_scene s =
    record {
      machine = (asked s).machine;
      lines = s.lines_then;
      byte = s.byte_then;
      row = (asked s).row;
      host = s.reader;
    }

abbrev pub got : Session → Machine
got s = (at s.reader (resumed s) s.read).machine

-- ---- premises: the commands

-- "with no error bit": the status bits of Types II and III that are no DRQ, Busy or deleted mark: 6, 4, 3 and 2; 7 is a line
pub record NoError (f : Flags) : Type 0 where
  pub protected : f.protected ≡ false
  pub missing : f.missing ≡ false
  pub crc : f.crc ≡ false
  pub lost : f.lost ≡ false

-- the Write Sector and the Read Sector
pub record Commands (s : Session) : Type 0 where
  -- a byte in DR, as its type says
  pub dr : s.machine.regs.dr < 256
  -- "A single Write Sector accepted with the drive ready": without m
  pub writes : decoded_of s.machine.chip s.byte ≡ Some WriteSector
  pub single : is_multiple s.byte ≡ false
  pub accepted : (load_register s.machine s.lines 0 s.byte).outcome ≡ done
  pub ready : s.lines.ready ≡ true
  -- "that ends by itself with no error bit"
  pub ends : EndsAt s.writer (begun s) s.written
  pub fine : NoError (wrote s).flags
  -- "the next command": none is accepted before it (nor is it accepted before the write has ended)
  pub next : AloneUntil s.writer (begun s) (suc s.waited)
  -- "by a Read Sector on the same registers and flags (bit 0 aside, which is 0 there)"
  pub reads : decoded_of (asked s).machine.chip s.byte_then ≡ Some ReadSector
  pub same_tr : (asked s).machine.regs.tr ≡ s.machine.regs.tr
  pub same_sr : (asked s).machine.regs.sr ≡ s.machine.regs.sr
  pub same_m : is_multiple s.byte_then ≡ is_multiple s.byte
  pub same_e : settles_first s.byte_then ≡ settles_first s.byte
  pub same_side : side_asked (asked s).machine.chip s.byte_then ≡ side_asked s.machine.chip s.byte
  pub same_lengths : ibm_lengths (asked s).machine.chip s.byte_then ≡ ibm_lengths s.machine.chip s.byte
  -- "accepted with the drive ready and ending by itself"
  pub accepted_then : (load_register (asked s).machine s.lines_then 0 s.byte_then).outcome ≡ done
  pub ready_then : s.lines_then.ready ≡ true
  pub alone : AloneUntil s.reader (resumed s) s.read
  pub ends_then : EndsAt s.reader (resumed s) s.read

-- ---- premises: the track

-- "just one ID of that track and sector": it stands from cell p on, over the ring's end or not, and no other does, whatever
-- its side, length or CRC
pub record JustOne (mfm : Bool) (track : List ℕ) (tr sr p : ℕ) : Type 0 where
  pub inside : p < length track
  pub stands : IdAt mfm (cells_of track) p
  pub of_track : (id_from mfm (cells_of track) p).track ≡ tr
  pub of_sector : (id_from mfm (cells_of track) p).sector ≡ sr
  pub only :
      (q : ℕ)
      → q < length track
      → IdAt mfm (cells_of track) q
      → (id_from mfm (cells_of track) q).track ≡ tr
      → (id_from mfm (cells_of track) q).sector ≡ sr
      → q ≡ p

-- the cells after the ID that stands from cell p on
abbrev pub after : Bool → List ℕ → ℕ → ℕ → ℕ
after mfm track p i = cells_of track (p + id_width mfm + i)

-- "no mark": no mark stands whole in the first n cells of a stream
abbrev pub NoMark : Bool → (ℕ → ℕ) → ℕ → Type 0
NoMark mfm cells n = (a b : ℕ) → a + lead_of mfm < n → MarkAt mfm cells a b → ⊥

-- "in the 11 (FM) or 22 (MFM) cells after it"
unfoldable pub clear_cells : Bool → ℕ
clear_cells mfm = cond mfm 22 11

-- "A single Write Sector .. reads back the same by a Read Sector ..": all that is asked
pub record ReadBackPremises (s : Session) (p : ℕ) : Type 0 where
  pub commands : Commands s
  -- "holds just one ID of that track and sector, with no mark in the 11 (FM) or 22 (MFM) cells after it"
  pub just_one : JustOne s.machine.mfm s.track s.machine.regs.tr s.machine.regs.sr p
  pub no_mark : NoMark s.machine.mfm (after s.machine.mfm s.track p) (clear_cells s.machine.mfm)

-- The same asking less of the track: of the IDs there just one is such that the command goes by it, with that track, sector
-- and, where one is asked for, side, and a good CRC.
pub record FewerPremises (s : Session) (p : ℕ) : Type 0 where
  pub commands : Commands s
  pub one_match :
      (q : ℕ)
      → q < length s.track
      → IdAt s.machine.mfm (cells_of s.track) q
      → Suits (write_scene s) (id_from s.machine.mfm (cells_of s.track) q)
      → q ≡ p
  pub no_mark : NoMark s.machine.mfm (after s.machine.mfm s.track p) (clear_cells s.machine.mfm)

-- ---- conclusion

-- Byte for byte: byte time w + i of the write takes a byte, and byte time r + i of the read hands one over; DR after that is
-- what DR was before the other, and both are over one cell.
pub record InPlace (s : Session) (size w r : ℕ) : Type 0 where
  pub within_write : w + size ≤ s.written
  pub within_read : r + size ≤ s.read
  pub take : (i : ℕ) → i < size → takes (deed_at s.writer (begun s) (w + i)) ≡ true
  pub hand : (i : ℕ) → i < size → hands (deed_at s.reader (resumed s) (r + i)) ≡ true
  pub byte :
      (i : ℕ)
      → i < size
      → (at s.reader (resumed s) (suc (r + i))).machine.regs.dr
      ≡ (served_at s.writer (w + i) (at s.writer (begun s) (w + i))).machine.regs.dr
  pub cell :
      (i : ℕ)
      → i < size
      → (at s.reader (resumed s) (r + i)).machine.ring.position
      ≡ (at s.writer (begun s) (w + i)).machine.ring.position

-- "The two low bits of length give 128, 256, 512, 1,024.", on the 1797 with L 0 256, 512, 1,024, 128: the bytes of the field after the
-- ID at cell p
abbrev pub size_at : Session → ℕ → ℕ
size_at s p = field_size (ibm_lengths s.machine.chip s.byte) (id_from s.machine.mfm (cells_of s.track) p).length

pub record ReadsBack (s : Session) (p : ℕ) : Type 0 where
  -- "reads back the same": the bytes that the read handed over, each in its byte time, are those that the write took
  pub same : handed s.reader (resumed s) s.read ≡ taken s.writer (begun s) s.written
  -- as many as the ID's length says
  pub many : length (taken s.writer (begun s) s.written) ≡ size_at s p
  -- each in its own byte time, as its cell passes
  pub each : (w : ℕ) × (r : ℕ) × InPlace s (size_at s p) w r
  -- "When it ends by itself, Busy goes off and INTRQ on in that byte time.": of the write, and of the read
  pub raised : (wrote s).wires.intrq ≡ true
  pub raised_then : (got s).wires.intrq ≡ true
  -- it ends with no error bit, of Types II and III
  pub type2 : (got s).flags.type1 ≡ false
  pub protected : (got s).flags.protected ≡ false
  pub missing : (got s).flags.missing ≡ false
  pub crc : (got s).flags.crc ≡ false
  -- but for what the host's own lateness brings
  pub lost : (got s).flags.lost ≡ true → (k : ℕ) × (k < s.read) × LateAt s.reader (resumed s) k
  -- "Write Sector still writes FB or F8.": on the track, "FM writes from 12: six 00, flagged mark; MFM from 23: twelve 00, three
  -- flagged A1, mark", so it stands after 17 or 34 cells
  pub marked :
      MarkAt s.machine.mfm (after s.machine.mfm (asked s).row p) (cond s.machine.mfm 34 17)
      (cond (bit_of s.byte 0) 0xF8 0xFB)
  -- bit 5 shows the mark that the write wrote
  pub deleted : (got s).flags.deleted ≡ is_deleted (mark_written s.byte)
  -- so the status byte, under any lines, has no bits but Not Ready, the mark, Lost Data and DRQ
  pub status :
      (l : Lines)
      → (status_of (got s) l).byte
      ≡ bit_for (not l.ready) 0x80
      + bit_for (is_deleted (mark_written s.byte)) 0x20
      + bit_for (got s).flags.lost 0x04
      + bit_for (got s).wires.drq 0x02

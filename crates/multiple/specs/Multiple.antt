-- Request b, "A bad data CRC ends a multiple read": the records that a Read Sector with m passes, one after another, and how it ends.
-- The command, its host and which IDs match are of the crate `hosts`: `specs/Scenes.antt` and `specs/Hosts.antt`. Assumes nothing.
use Rattle.std.specs.Prelude.{◌≡◌, Bool, true, false, ◌⊎◌, ℕ, suc, ◌+◌, ◌%◌, ◌≤◌, ◌<◌, length, get_or, Some}
use Rattle.scan.specs.Marks.{lead_of}
use Rattle.scan.specs.DataMarks.{is_deleted, window_of}
use Rattle.scan.specs.Streams.{IdAt, id_from, id_width, crc_from}
use Rattle.scan.specs.declared.DataMark.{DataMark}
use Rattle.command.specs.Bits.{is_multiple}
use Rattle.command.specs.Commands.{decoded_of}
use Rattle.command.specs.declared.Command.TheVariants.{ReadSector}
use Rattle.registers.specs.declared.Lines.{Lines}
use Rattle.fields.specs.Rounds.{MarkWithin, FirstMark}
use Rattle.wd.specs.declared.Machine.{Machine}
use Rattle.wd.specs.Loads.{load_register}
use Rattle.hosts.specs.Hosts.{served_at, at, AloneUntil, Undisturbed, EndsAt}
use Rattle.hosts.specs.Scenes.{Scene, loaded, settling, SuitsFor, field_bytes, crc_error, not_found, deleted_mark}
use Rattle.hosts.specs.Tracks.{position_at, passing, pulses_in}
use Rattle.refusals.specs.Numbers.{done}

-- ---- the command

-- a Read Sector with m, accepted
pub record MultipleAccepted (s : Scene) : Type 0 where
  pub reads : decoded_of s.machine.chip s.byte ≡ Some ReadSector
  pub multiple : is_multiple s.byte ≡ true
  pub accepted : (load_register s.machine s.lines 0 s.byte).outcome ≡ done

-- a Read Sector, with m or without, accepted, that ends by itself in byte time n, no other command being accepted before that
pub record EndedReadSector (s : Scene) (n : ℕ) : Type 0 where
  pub reads : decoded_of s.machine.chip s.byte ≡ Some ReadSector
  pub accepted : (load_register s.machine s.lines 0 s.byte).outcome ≡ done
  pub alone : AloneUntil s.host (loaded s) n
  pub ends : EndsAt s.host (loaded s) n

-- it ends by itself in byte time n, no other command being accepted before that; nothing is asked of the lines, of the host's
-- other calls or of the row
pub record EndedMultiple (s : Scene) (n : ℕ) : Type 0 where
  pub is : MultipleAccepted s
  pub alone : AloneUntil s.host (loaded s) n
  pub ends : EndsAt s.host (loaded s) n

-- the machine as n byte times have passed
abbrev pub end_of : Scene → ℕ → Machine
end_of s n = (at s.host (loaded s) n).machine

-- ---- a record

-- "Each byte time the cell at the head position passes": the cells by the byte time in which each passes, counted from 0 after the
-- load
abbrev pub cells_by : Scene → ℕ → ℕ
cells_by s = passing s.row s.machine.ring.position

-- A search begins in byte time t, with SR at this sector. Its good match: the first ID to pass whole from then on that matches, with a
-- good CRC.
pub record GoodMatch (s : Scene) (sector t : ℕ) : Type 0 where
  pub cell : ℕ
  pub after : t ≤ cell
  pub stands : IdAt s.machine.mfm (cells_by s) cell
  pub suits :
      SuitsFor s.machine.chip s.byte s.machine.regs.tr sector (id_from s.machine.mfm (cells_by s) cell)
  pub first : (other : ℕ)
      → t ≤ other
      → other < cell
      → IdAt s.machine.mfm (cells_by s) other
      → SuitsFor s.machine.chip s.byte s.machine.regs.tr sector (id_from s.machine.mfm (cells_by s) other)
      → ⊥

-- the cell after its last, with which its window begins
abbrev pub window_from : {s : Scene} {sector t : ℕ} → GoodMatch s sector t → ℕ
window_from {s} m = m.cell + id_width s.machine.mfm

-- The record that the search comes to: its good match, and the first data mark in the window after that. The mark stands from cell
-- `mark_at` on, and its byte is that cell of the window.
pub record RecordFrom (s : Scene) (sector t : ℕ) : Type 0 where
  pub id : GoodMatch s sector t
  pub mark : DataMark
  pub mark_at : ℕ
  pub place : ℕ
  pub marked : FirstMark s.machine.mfm (cells_by s) (window_from id) mark mark_at place

module _ {s : Scene} {sector t : ℕ} (r : RecordFrom s sector t) where
  -- the cells of its mark, its data and its CRC
  abbrev pub field_cells : ℕ
  field_cells =
      lead_of s.machine.mfm
      + 1
      + field_bytes s.machine.chip s.byte (id_from s.machine.mfm (cells_by s) r.id.cell).length
      + 2

  -- "a field is good when the register is 0 after its own CRC"
  abbrev pub GoodCrc : Type 0
  GoodCrc = crc_from (cells_by s) r.mark_at field_cells ≡ 0

  -- the byte times that have passed when its second CRC cell has
  abbrev pub passed_by : ℕ
  passed_by = r.mark_at + field_cells

-- Good records one after another: "With m, SR goes up by one (255 to 0) and the search starts afresh". From a search that begins in
-- byte time t with SR at this sector they lead to one that begins in byte time u with SR at that.
pub data GoodRecords (s : Scene) : (sector t next u : ℕ) → Type 0 where
  none : {sector t : ℕ} → GoodRecords s sector t sector t
  more : {sector t next u : ℕ} (r : RecordFrom s sector t)
      → GoodCrc r
      → GoodRecords s ((sector + 1) % 256) (passed_by r) next u
      → GoodRecords s sector t next u

-- "At the second CRC cell: .. bit 5 on if F8, else off", by what the mark counts as: bit 5 after these records, and as it was before
-- them where there is none
unfoldable pub deleted_after : {s : Scene} {sector t next u : ℕ} → Bool → GoodRecords s sector t next u → Bool
deleted_after before none = before
deleted_after before (more r good rest) = deleted_after (is_deleted r.mark) rest

-- ---- how it ends

-- its first search begins in byte time t: "settle .., then begin with the first byte time that has HLT on"
pub record SearchesFrom (s : Scene) (t : ℕ) : Type 0 where
  pub settled : settling s ≤ t
  pub hlt : (s.host.lines t).hlt ≡ true
  pub off : (k : ℕ) → settling s ≤ k → k < t → (s.host.lines k).hlt ≡ false

-- Whatever it ends with: it has passed good records alone, and ends in a search, which began in byte time `since` with SR as it is at
-- the end, or in the record after that.
pub record LastSearch (s : Scene) (n : ℕ) : Type 0 where
  pub begun : ℕ
  pub begins : SearchesFrom s begun
  pub since : ℕ
  pub good : GoodRecords s s.machine.regs.sr begun (end_of s n).regs.sr since
  -- "When it ends by itself, Busy goes off and INTRQ on in that byte time."
  pub raised : (end_of s n).wires.intrq ≡ true

-- the status byte at a broken record: bit 3 on, bit 4 off, bit 5 by what its mark counts as
pub record ShowsBroken (s : Scene) (n : ℕ) (mark : DataMark) : Type 0 where
  pub crc : (l : Lines) → crc_error (end_of s n) l ≡ true
  pub found : (l : Lines) → not_found (end_of s n) l ≡ false
  pub deleted : (l : Lines) → deleted_mark (end_of s n) l ≡ is_deleted mark

-- "the command is terminated (even if it is a multiple record command)": with the second CRC cell of the first bad record. "Bit 3 on,
-- Busy off, INTRQ, and SR stays at the broken sector."
pub record AtBroken (s : Scene) (n : ℕ) (p : LastSearch s n) : Type 0 where
  pub broken : RecordFrom s (end_of s n).regs.sr p.since
  pub bad : GoodCrc broken → ⊥
  pub ends : n ≡ passed_by broken
  pub shows : ShowsBroken s n broken.mark
  -- its end leaves DRQ as the host's calls before it have
  pub drq : (k : ℕ)
      → n ≡ suc k
      → (end_of s n).wires.drq ≡ (served_at s.host k (at s.host (loaded s) k)).machine.wires.drq

-- "the fifth index pulse" from byte time t on: four have come in the k byte times before it
pub record FifthFrom (s : Scene) (t k : ℕ) : Type 0 where
  pub four : pulses_in (length s.row) (position_at (length s.row) s.machine.ring.position t) k ≡ 4
  pub pulse : position_at (length s.row) s.machine.ring.position (t + k) ≡ 0

-- what a search that began in byte time t and ends in byte time n comes to without a record
pub data NoRecord (s : Scene) (sector t n : ℕ) : Type 0 where
  -- no good match, not in all the cells that would pass: "the fifth ends the command with bit 4"
  no_match : (GoodMatch s sector t → ⊥) → (k : ℕ) → FifthFrom s t k → n ≡ t + suc k → NoRecord s sector t n
  -- "No data mark by the window's last cell: bit 4, end there."
  no_mark : (m : GoodMatch s sector t)
      → ((mark : DataMark) (mark_at place : ℕ) → MarkWithin s.machine.mfm (cells_by s) (window_from m) mark mark_at place → ⊥)
      → n ≡ window_from m + window_of s.machine.mfm
      → NoRecord s sector t n

pub record AtMissing (s : Scene) (n : ℕ) (p : LastSearch s n) : Type 0 where
  pub no_record : NoRecord s (end_of s n).regs.sr p.since n
  pub missing : (l : Lines) → not_found (end_of s n) l ≡ true
  -- bit 5 is that of the last record, and off where there was none
  pub deleted : (l : Lines) → deleted_mark (end_of s n) l ≡ deleted_after false p.good

-- of every multiple read accepted with the drive ready that ends by itself: one or the other, so no bad record is hidden by the next
abbrev pub MultipleEnds : Scene → ℕ → Type 0
MultipleEnds s n = (p : LastSearch s n) × (AtBroken s n p ⊎ AtMissing s n p)

-- "a multiple read that has ended with bit 3 on and bit 4 off stands at the first record whose CRC was bad, and every record before
-- it was good"
abbrev pub StandsAtBroken : Scene → ℕ → Type 0
StandsAtBroken s n = (p : LastSearch s n) × AtBroken s n p

-- ---- and it does end there

-- accepted with the drive ready, with no other command accepted while it is Busy, over a row of the ring's length with no cell above
-- 511
pub record MultiplePremises (s : Scene) : Type 0 where
  pub is : MultipleAccepted s
  pub ready : s.lines.ready ≡ true
  pub alone : Undisturbed s.host (loaded s)
  pub whole : length s.row ≡ s.machine.ring.length
  pub low : (i : ℕ) → i < length s.row → get_or s.row i 0 ≤ 511

-- with this record's second CRC cell
pub record EndsWith (s : Scene) {sector since : ℕ} (r : RecordFrom s sector since) : Type 0 where
  pub ends : EndsAt s.host (loaded s) (passed_by r)
  pub raised : (end_of s (passed_by r)).wires.intrq ≡ true
  pub sr : (end_of s (passed_by r)).regs.sr ≡ sector
  pub shows : ShowsBroken s (passed_by r) r.mark

-- where it has passed good records alone and comes to a bad one, it ends there
abbrev pub BrokenEnds : Scene → Type 0
BrokenEnds s =
    (begun sector since : ℕ)
    → SearchesFrom s begun
    → GoodRecords s s.machine.regs.sr begun sector since
    → (r : RecordFrom s sector since)
    → (GoodCrc r → ⊥)
    → EndsWith s r

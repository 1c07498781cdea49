-- What the viewer looks for, in the documents' words. Assumes nothing.
use Rattle.std.specs.Prelude.{◌≡◌, Bool, true, List, ℕ, ◌+◌, ◌-◌, ◌≤◌, ◌<◌, length}
use Rattle.scan.specs.declared.DataMark.{DataMark}
use Rattle.scan.specs.Marks.{lead_of}
use Rattle.scan.specs.Streams.{IdAt, id_from, id_width, crc_from}
use Rattle.command.specs.Sizes.{size_of}
use Rattle.fields.specs.Rings.{cells_of}
use Rattle.fields.specs.Rounds.{FirstMark}

-- "ID and data CRC good, mark in its window, nothing from the ID's first cell to the data CRC past the last cell": on a side,
-- a sector of the track and the number has its ID from cell a on and its data cells from one cell up to another
pub record SectorAt (mfm : Bool) (side : List ℕ) (track sector a from to : ℕ) : Type 0 where
  pub id : IdAt mfm (cells_of side) a
  pub good : (id_from mfm (cells_of side) a).good ≡ true
  pub of_track : (id_from mfm (cells_of side) a).track ≡ track
  pub of_sector : (id_from mfm (cells_of side) a).sector ≡ sector
  -- the first data mark of the window, which begins after the ID's last cell; the data cells begin after its byte
  pub mark : DataMark
  pub at : ℕ
  pub cell : ℕ
  pub marked : FirstMark mfm (cells_of side) (a + id_width mfm) mark at cell
  pub begins : from ≡ a + id_width mfm + cell
  -- "The two low bits of length give 128, 256, 512, 1,024."
  pub ends : to ≡ from + size_of (id_from mfm (cells_of side) a).length
  -- "a field is good when the register is 0 after its own CRC": the mark, the data and the two CRC cells
  pub closed : crc_from (cells_of side) at (lead_of mfm + 1 + (to - from) + 2) ≡ 0
  pub inside : to + 2 ≤ length side

-- "lowest cell first": no such sector has its ID from a lower cell on
pub record FirstSector (mfm : Bool) (side : List ℕ) (track sector a from to : ℕ) : Type 0 where
  pub is : SectorAt mfm side track sector a from to
  pub lowest : (b c d : ℕ) → b < a → SectorAt mfm side track sector b c d → ⊥

-- the side has none
abbrev pub NoSector : Bool → List ℕ → ℕ → ℕ → Type 0
NoSector mfm side track sector = (a from to : ℕ) → SectorAt mfm side track sector a from to → ⊥

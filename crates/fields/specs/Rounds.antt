-- What the next ID and the data mark after one are, by the words of documents 01 and 02, f, on a ring of cells. Assumes nothing.
use Rattle.std.specs.Prelude.{◌≡◌, Bool, true, ℕ, ◌+◌, ◌≤◌, ◌<◌}
use Rattle.scan.specs.declared.Id.{Id}
use Rattle.scan.specs.declared.DataMark.{DataMark}
use Rattle.scan.specs.Marks.{lead_of}
use Rattle.scan.specs.DataMarks.{mark_byte, density_has, window_of}
use Rattle.scan.specs.Streams.{MarkAt, IdAt, id_from, id_width}

-- an ID stands in the cells from place a on, and all of them from one place up to another
pub record IdWithin (mfm : Bool) (cells : ℕ → ℕ) (from to a : ℕ) : Type 0 where
  pub low : from ≤ a
  pub high : a + id_width mfm ≤ to
  pub stands : IdAt mfm cells a

-- the first such ID stands from place a on, and this is what it says
pub record FirstId (mfm : Bool) (cells : ℕ → ℕ) (from to a : ℕ) (id : Id) : Type 0 where
  pub within : IdWithin mfm cells from to a
  pub says : id ≡ id_from mfm cells a
  pub first : (b : ℕ) → b < a → IdWithin mfm cells from to b → ⊥

-- "The mark byte must be among the first 30 (FM) or 43 (MFM) cells after the ID's last; in MFM its three A1s too": a data
-- mark stands from a on, after an ID whose last cell stands just before the place, and its byte is that cell of the
-- window, counted from 1
pub record MarkWithin (mfm : Bool) (cells : ℕ → ℕ) (place : ℕ) (mark : DataMark) (a cell : ℕ) : Type 0 where
  pub low : place ≤ a
  pub byte : a + lead_of mfm + 1 ≡ place + cell
  pub high : cell ≤ window_of mfm
  -- "In FM only, flagged F9 and FA become data marks"
  pub of_density : density_has mfm mark ≡ true
  pub stands : MarkAt mfm cells a (mark_byte mark)

-- "Other marks there are passed over": the first data mark of the window is the ID's
pub record FirstMark (mfm : Bool) (cells : ℕ → ℕ) (place : ℕ) (mark : DataMark) (a cell : ℕ) : Type 0 where
  pub within : MarkWithin mfm cells place mark a cell
  pub first : (other : DataMark) (b at : ℕ) → at < cell → MarkWithin mfm cells place other b at → ⊥

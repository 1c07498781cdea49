-- Marks and IDs in a stream of cells, by document 01's words, and the scanners set on a stream from its first cell.
-- Assumes nothing.
use Rattle.std.specs.Prelude.{Bool, true, false, ◌≡◌, ℕ, zero, suc, ◌+◌, ◌<◌, eqb}
use Rattle.crc.specs.Crc.{preset, crc_byte}
use Rattle.scan.specs.declared.Passed.{Passed}
use Rattle.scan.specs.declared.Passed.TheVariants.{Mark}
use Rattle.scan.specs.declared.Sought.{Sought}
use Rattle.scan.specs.declared.Sought.TheVariants.{Met}
use Rattle.scan.specs.declared.Id.{Id}
use Rattle.scan.specs.declared.Scan.{Scan}
use Rattle.scan.specs.declared.Scan.TheVariants.{Gap}
use Rattle.scan.specs.declared.Heard.{Heard}
use Rattle.scan.specs.declared.Heard.TheVariants.{On, Whole}
use Rattle.scan.specs.Marks.{byte_of, sync, lead_of, mark_step}
use Rattle.scan.specs.DataMarks.{data_mark_step}
use Rattle.scan.specs.Ids.{id_cells, id_step}

-- "FM: a mark is one flagged cell; .. MFM: a mark is three flagged A1 cells, then an unflagged byte": a mark with the byte b
-- stands in the stream from cell a on.
unfoldable pub MarkAt : Bool → (ℕ → ℕ) → ℕ → ℕ → Type 0
MarkAt false cells a b = (b < 256) × (cells a ≡ b + 256)
MarkAt true cells a b =
    (b < 256)
    × (cells a ≡ sync)
    × (cells (a + 1) ≡ sync)
    × (cells (a + 2) ≡ sync)
    × (cells (a + 3) ≡ b)

-- cell n is the byte b of a mark
abbrev pub MarkEnds : Bool → (ℕ → ℕ) → ℕ → ℕ → Type 0
MarkEnds mfm cells n b = (a : ℕ) × (a + lead_of mfm ≡ n) × MarkAt mfm cells a b

-- the first of the six cells after a mark that stands from a on
abbrev pub behind : Bool → ℕ → ℕ
behind mfm a = suc (a + lead_of mfm)

-- "An ID is mark FE and six unflagged cells": 7 cells (FM) or 10 (MFM) from a on.
pub record IdAt (mfm : Bool) (cells : ℕ → ℕ) (a : ℕ) : Type 0 where
  pub mark : MarkAt mfm cells a 0xFE
  pub plain : (i : ℕ) → i < id_cells → cells (behind mfm a + i) < 256

abbrev pub id_width : Bool → ℕ
id_width mfm = lead_of mfm + 7

-- "preset FFFF": the register after the n cells from a on
unfoldable pub crc_from : (ℕ → ℕ) → ℕ → ℕ → ℕ
crc_from cells a zero = preset
crc_from cells a (suc n) = crc_byte (crc_from cells a n) (byte_of (cells (a + n)))

-- "track, side, sector, length, CRC": what the ID from a on says
unfoldable pub id_from : Bool → (ℕ → ℕ) → ℕ → Id
id_from mfm cells a =
    record {
      track = cells (behind mfm a);
      side = cells (behind mfm a + 1);
      sector = cells (behind mfm a + 2);
      length = cells (behind mfm a + 3);
      good = eqb (crc_from cells a (id_width mfm)) 0;
    }

-- cell n is the last of an ID, and id is what it says
abbrev pub IdEnds : Bool → (ℕ → ℕ) → ℕ → Id → Type 0
IdEnds mfm cells n id = (a : ℕ) × (a + id_width mfm ≡ suc n) × IdAt mfm cells a × (id ≡ id_from mfm cells a)

-- The scanner for marks: the flagged A1 cells in a row after n cells, and what it says to cell n.
unfoldable pub run_past : Passed → ℕ
run_past (Passed.Gap run) = run
run_past (Mark b) = 0

unfoldable pub run_after : Bool → (ℕ → ℕ) → ℕ → ℕ
run_after mfm cells zero = 0
run_after mfm cells (suc n) = run_past (mark_step mfm (cells n) (run_after mfm cells n))

abbrev pub passed_at : Bool → (ℕ → ℕ) → ℕ → Passed
passed_at mfm cells n = mark_step mfm (cells n) (run_after mfm cells n)

-- The scanner for data marks.
unfoldable pub sought_past : Sought → ℕ
sought_past (Sought.On run) = run
sought_past (Met mark) = 0

unfoldable pub sought_after : Bool → (ℕ → ℕ) → ℕ → ℕ
sought_after mfm cells zero = 0
sought_after mfm cells (suc n) = sought_past (data_mark_step mfm (cells n) (sought_after mfm cells n))

abbrev pub sought_at : Bool → (ℕ → ℕ) → ℕ → Sought
sought_at mfm cells n = data_mark_step mfm (cells n) (sought_after mfm cells n)

-- The scanner for IDs; after a whole ID it begins anew.
unfoldable pub scan_past : Heard → Scan
scan_past (On scan) = scan
scan_past (Whole id) = Gap 0

unfoldable pub scan_after : Bool → (ℕ → ℕ) → ℕ → Scan
scan_after mfm cells zero = Gap 0
scan_after mfm cells (suc n) = scan_past (id_step mfm (cells n) (scan_after mfm cells n))

abbrev pub heard_at : Bool → (ℕ → ℕ) → ℕ → Heard
heard_at mfm cells n = id_step mfm (cells n) (scan_after mfm cells n)

-- Cells and marks, document 01, "Fields". Assumes nothing.
use Rattle.std.specs.Prelude.{Bool, cond, ◌&&◌, List, [], ◌∷◌, ℕ, ◌+◌, ◌/◌, ◌%◌, ltb, leb, eqb}
use Rattle.crc.specs.Crc.{preset, crc_over}
use Rattle.scan.specs.declared.Passed.{Passed}
use Rattle.scan.specs.declared.Passed.TheVariants.{Gap, Mark}

-- "A cell is a byte, plus 256 if written with missing clocks (flagged)."
abbrev pub byte_of : ℕ → ℕ
byte_of cell = cell % 256

abbrev pub flagged : ℕ → Bool
flagged cell = eqb (cell / 256) 1

abbrev pub unflagged : ℕ → Bool
unflagged cell = ltb cell 256

-- a flagged A1, and how many of them stand before a mark's byte in MFM
abbrev pub sync : ℕ
sync = 0x1A1

abbrev pub syncs : ℕ
syncs = 3

-- "FM: a mark is one flagged cell; .. MFM: a mark is three flagged A1 cells, then an unflagged byte; .."
-- So many flagged A1 cells stand before a mark's byte.
unfoldable pub lead_of : Bool → ℕ
lead_of mfm = cond mfm syncs 0

-- A mark's byte is flagged in FM and unflagged in MFM.
unfoldable pub carries_mark : Bool → ℕ → Bool
carries_mark mfm cell = cond mfm (unflagged cell) (flagged cell)

-- How many flagged A1 cells stand last in a row with this cell; more than three count as three, so the three before a byte
-- count whatever stands before them.
unfoldable pub sync_run : ℕ → ℕ → ℕ
sync_run cell run = cond (eqb cell sync) (cond (ltb run syncs) (run + 1) syncs) 0

-- What a cell is after so many flagged A1 cells: the byte of a mark, or no mark's end.
unfoldable pub mark_step : Bool → ℕ → ℕ → Passed
mark_step mfm cell run = cond (leb (lead_of mfm) run && carries_mark mfm cell) (Mark (byte_of cell)) (Gap (sync_run cell run))

-- "FM: .. CRC starts with it. MFM: .. CRC covers the A1s."
unfoldable pub mark_bytes : Bool → ℕ → List ℕ
mark_bytes mfm b = cond mfm (0xA1 ∷ 0xA1 ∷ 0xA1 ∷ b ∷ []) (b ∷ [])

unfoldable pub mark_crc : Bool → ℕ → ℕ
mark_crc mfm b = crc_over preset (mark_bytes mfm b)

-- The scanner for IDs, document 01, "Fields": "An ID is mark FE and six unflagged cells: track, side, sector, length, CRC."
-- Assumes nothing.
use Rattle.std.specs.Prelude.{Bool, cond, ℕ, ◌+◌, ◌-◌, ltb, eqb}
use Rattle.crc.specs.Crc.{crc_byte}
use Rattle.scan.specs.declared.Passed.{Passed}
use Rattle.scan.specs.declared.Passed.TheVariants.{Mark}
use Rattle.scan.specs.declared.Id.{Id}
use Rattle.scan.specs.declared.Part.{Part}
use Rattle.scan.specs.declared.Scan.{Scan}
use Rattle.scan.specs.declared.Scan.TheVariants.{Gap, Field}
use Rattle.scan.specs.declared.Heard.{Heard}
use Rattle.scan.specs.declared.Heard.TheVariants.{On, Whole}
use Rattle.scan.specs.Marks.{byte_of, unflagged, mark_step, mark_crc}

-- the cells of an ID after its mark, and the last of them, counted from 0
abbrev pub id_cells : ℕ
id_cells = 6

abbrev pub last_id_cell : ℕ
last_id_cell = id_cells - 1

-- a mark FE begins an ID, any other mark none
unfoldable pub id_begun : Bool → ℕ → Scan
id_begun mfm b =
    cond (eqb b 0xFE)
    (Field (record { passed = 0; crc = mark_crc mfm 0xFE; track = 0; side = 0; sector = 0; length = 0 }))
    (Gap 0)

-- one of the six cells, by how many have passed: track, side, sector, length, and two of the CRC
unfoldable pub pushed_of : Part → ℕ → Part
pushed_of p b =
    record {
      passed = p.passed + 1;
      crc = crc_byte p.crc b;
      track = cond (eqb p.passed 0) b p.track;
      side = cond (eqb p.passed 1) b p.side;
      sector = cond (eqb p.passed 2) b p.sector;
      length = cond (eqb p.passed 3) b p.length;
    }

-- "a field is good when the register is 0 after its own CRC"
unfoldable pub whole_of : Part → ℕ → Id
whole_of p b =
    record {
      track = p.track;
      side = p.side;
      sector = p.sector;
      length = p.length;
      good = eqb (crc_byte p.crc b) 0;
    }

-- the sixth makes the ID whole
unfoldable pub id_byte_step : Part → ℕ → Heard
id_byte_step p b = cond (ltb p.passed last_id_cell) (On (Field (pushed_of p b))) (Whole (whole_of p b))

-- the flagged A1 cells that stand last in a row: none within an ID
unfoldable pub run_in : Scan → ℕ
run_in (Gap run) = run
run_in (Field p) = 0

-- a cell that ends no mark: an unflagged one is an ID's next, any other breaks the ID off
unfoldable pub id_cell_step : ℕ → ℕ → Scan → Heard
id_cell_step cell run (Gap before) = On (Gap run)
id_cell_step cell run (Field p) = cond (unflagged cell) (id_byte_step p (byte_of cell)) (On (Gap run))

unfoldable pub id_mark_step : Bool → ℕ → Scan → Passed → Heard
id_mark_step mfm cell scan (Passed.Gap run) = id_cell_step cell run scan
id_mark_step mfm cell scan (Mark b) = On (id_begun mfm b)

-- what the scanner says to a cell
unfoldable pub id_step : Bool → ℕ → Scan → Heard
id_step mfm cell scan = id_mark_step mfm cell scan (mark_step mfm cell (run_in scan))

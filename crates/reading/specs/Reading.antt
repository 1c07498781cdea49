-- Read Sector after its ID, and Read Address: document 01, "Moving bytes", and request b. Assumes nothing.
use Rattle.std.specs.Prelude.{Bool, false, cond, not, ℕ, ◌+◌, ◌-◌, ltb, leb, eqb}
use Rattle.crc.specs.Crc.{crc_byte}
use Rattle.scan.specs.Marks.{byte_of, mark_step, mark_crc}
use Rattle.scan.specs.DataMarks.{window_of, data_mark_step, mark_byte, is_deleted}
use Rattle.scan.specs.declared.Passed.{Passed}
use Rattle.scan.specs.declared.Passed.TheVariants.{Gap, Mark}
use Rattle.scan.specs.declared.Sought.{Sought}
use Rattle.scan.specs.declared.Sought.TheVariants.{On, Met}
use Rattle.activity.specs.Acts.{pass}
use Rattle.activity.specs.declared.Seen.{Seen}
use Rattle.activity.specs.declared.Act.{Act}
use Rattle.activity.specs.declared.Activity.{Activity}
use Rattle.activity.specs.declared.Activity.TheVariants.{Idle, Window, Data, Hunt, Address}
use Rattle.activity.specs.declared.Deed.TheVariants.{Nothing, Deliver, Named, NotFound, Record}
use Rattle.search.specs.Search.{pulses_seen, after_record}

-- ---- Read Sector

-- "No data mark by the window's last cell: bit 4, end there."
unfoldable pub window_missed : Seen → ℕ → ℕ → ℕ → Act
window_missed s left passed run =
    cond (ltb (passed + 1) (window_of s.mfm)) (pass s (Window left (passed + 1) run) Nothing) (pass s Idle NotFound)

-- a data mark in the window: "CRC starts with it", whichever of the four was met
unfoldable pub window_step : Seen → ℕ → ℕ → Sought → Act
window_step s left passed (On run) = window_missed s left passed run
window_step s left passed (Met mark) = pass s (Data left (mark_crc s.mfm (mark_byte mark)) (is_deleted mark)) Nothing

-- a cell after the ID, so many of the window having passed
unfoldable pub window_cell : Seen → ℕ → ℕ → ℕ → Act
window_cell s left passed run = window_step s left passed (data_mark_step s.mfm s.cell run)

-- whether another record follows, by the register after this one's CRC: "With m, SR goes up by one .. and the search starts afresh
-- instead", but (004) "If there is a CRC error at the end of the data field, the CRC error status bit is set, and the command is
-- terminated (even if it is a multiple record command)."
unfoldable pub record_follows : Bool → ℕ → Bool
record_follows multiple crc = cond (eqb crc 0) multiple false

-- "At the second CRC cell: bit 3 if bad, bit 5 on if F8, else off, Busy off, INTRQ.": bit 5 by what the mark counts as
unfoldable pub record_end : Seen → Bool → ℕ → Bool → Act
record_end s multiple crc deleted =
    pass s (after_record (record_follows multiple crc)) (Record deleted (not (eqb crc 0)) (record_follows multiple crc))

-- "Each data byte, flags ignored, goes to DR and sets DRQ": left counts the two CRC cells too
unfoldable pub data_cell : Seen → Bool → ℕ → ℕ → Bool → Act
data_cell s multiple left crc deleted =
    cond (leb 3 left)
    (pass s (Data (left - 1) (crc_byte crc (byte_of s.cell)) deleted) (Deliver (byte_of s.cell)))
    (cond (eqb left 2)
    (pass s (Data 1 (crc_byte crc (byte_of s.cell)) deleted) Nothing)
    (record_end s multiple (crc_byte crc (byte_of s.cell)) deleted))

-- ---- Read Address

-- "the next ID mark"; other marks are passed over
unfoldable pub address_begun : Bool → ℕ → ℕ → Activity
address_begun mfm pulses b = cond (eqb b 0xFE) (Address 0 (mark_crc mfm 0xFE) 0) (Hunt pulses 0)

unfoldable pub hunt_step : Seen → ℕ → Passed → Act
hunt_step s pulses (Gap run) = pass s (Hunt pulses run) Nothing
hunt_step s pulses (Mark b) = pass s (address_begun s.mfm pulses b) Nothing

-- "Fifth pulse up to the mark byte: bit 4, end."
unfoldable pub hunt_cell : Seen → ℕ → ℕ → Act
hunt_cell s seen run =
    cond (leb 5 (pulses_seen seen s.index)) (pass s Idle NotFound)
    (hunt_step s (pulses_seen seen s.index) (mark_step s.mfm s.cell run))

-- the first of the six is the track
unfoldable pub address_track : ℕ → ℕ → ℕ → ℕ
address_track passed b track = cond (eqb passed 0) b track

-- "The six cells after the next ID mark go to DR as data bytes do; at the sixth, track to SR, bit 3 if bad, end."
unfoldable pub address_cell : Seen → ℕ → ℕ → ℕ → Act
address_cell s passed crc track =
    cond (leb 5 passed)
    (pass s Idle (Named (byte_of s.cell) track (not (eqb (crc_byte crc (byte_of s.cell)) 0))))
    (pass s
    (Address (passed + 1) (crc_byte crc (byte_of s.cell)) (address_track passed (byte_of s.cell) track))
    (Deliver (byte_of s.cell)))

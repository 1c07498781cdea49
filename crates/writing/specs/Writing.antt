-- Write Sector after its ID: document 01, "Moving bytes". Assumes nothing.
use Rattle.std.specs.Prelude.{Bool, true, cond, ◌&&◌, ℕ, ◌+◌, ◌-◌, ◌/◌, ◌%◌, ltb, leb, eqb}
use Rattle.crc.specs.Crc.{crc_byte}
use Rattle.scan.specs.Marks.{sync, lead_of, mark_crc}
use Rattle.activity.specs.Acts.{pass, write, taken_of}
use Rattle.activity.specs.declared.Seen.{Seen}
use Rattle.activity.specs.declared.Act.{Act}
use Rattle.activity.specs.declared.Activity.{Activity}
use Rattle.activity.specs.declared.Activity.TheVariants.{Idle, Preamble, Put}
use Rattle.activity.specs.declared.Deed.{Deed}
use Rattle.activity.specs.declared.Deed.TheVariants.{Nothing, Written, Ask, Late, Take}
use Rattle.search.specs.Search.{after_record}
use Rattle.writing.specs.declared.Places.{Places}

-- "FM writes from 12: six 00, flagged mark; MFM from 23: twelve 00, three flagged A1, mark." Byte times after the ID's last
-- cell are numbered from 1; the last that is kept, the last 00, and the mark's:
unfoldable pub last_kept : Bool → ℕ
last_kept mfm = cond mfm 22 11

unfoldable pub last_zero : Bool → ℕ
last_zero mfm = last_kept mfm + cond mfm 12 6

unfoldable pub mark_place : Bool → ℕ
mark_place mfm = last_zero mfm + lead_of mfm + 1

abbrev pub places_of : Bool → Places
places_of mfm = record { kept = last_kept mfm; zero = last_zero mfm; mark = mark_place mfm }

-- a mark's byte, flagged in FM
unfoldable pub mark_cell : Bool → ℕ → ℕ
mark_cell mfm b = cond mfm b (b + 256)

unfoldable pub preamble_cell : Bool → ℕ → ℕ → ℕ → ℕ
preamble_cell mfm n mark cell =
    cond (leb n (last_kept mfm)) cell
    (cond (leb n (last_zero mfm)) 0x00
    (cond (ltb n (mark_place mfm)) sync
    (mark_cell mfm mark)))

-- "Then the data": after the mark
unfoldable pub preamble_next : Bool → ℕ → ℕ → ℕ → Activity
preamble_next mfm left n mark = cond (ltb n (mark_place mfm)) (Preamble left n) (Put left (mark_crc mfm mark))

-- "DRQ at 2."
unfoldable pub preamble_deed : ℕ → Deed
preamble_deed n = cond (eqb n 2) (Ask true) Nothing

-- "Still on at 10: Lost Data, end, nothing written."
unfoldable pub preamble_turn : Seen → ℕ → ℕ → ℕ → Act
preamble_turn s mark left passed =
    cond (eqb (passed + 1) 10 && s.drq) (pass s Idle Late)
    (write (preamble_cell s.mfm (passed + 1) mark s.cell)
    (preamble_next s.mfm left (passed + 1) mark)
    (preamble_deed (passed + 1)))

-- "Then the data, two CRC bytes, one FF". "Each data cell takes DR, or 00 with Lost Data if DRQ is on, and the command goes on
-- (000 over 003); then DRQ is on, but off after the last. The FF ends it. m as above.": left counts the two CRC bytes and the
-- FF too.
unfoldable pub put_cell : Seen → Bool → ℕ → ℕ → Act
put_cell s multiple left crc =
    cond (leb 4 left) (write (taken_of s) (Put (left - 1) (crc_byte crc (taken_of s))) (Take (leb 5 left)))
    (cond (eqb left 3) (write (crc / 256) (Put 2 crc) Nothing)
    (cond (eqb left 2) (write (crc % 256) (Put 1 crc) Nothing)
    (write 0xFF (after_record multiple) (Written multiple))))

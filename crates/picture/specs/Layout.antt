-- How a picture is laid out, document 01, "Pictures and the viewer": "a kind byte, then track, side, L data bytes, flag bits
-- (cell 0 at bit 7, padding 0)". Assumes nothing.
use Rattle.std.specs.Prelude.{Bool, List, ℕ, ◌+◌, ◌-◌, ◌*◌, ◌/◌, ◌%◌, ◌^◌, eqb, get_or}
use Rattle.scan.specs.Rows.{longest_row}
use Rattle.picture.specs.declared.Kind.{Kind}
use Rattle.picture.specs.declared.CellPlace.{CellPlace}
use Rattle.picture.specs.Kinds.{length_of}

-- where the byte of cell i stands, and the byte with its flag bit: the data bytes after kind, track and side, the flag bytes
-- after them
unfoldable pub cell_place : Kind → ℕ → CellPlace
cell_place k i = record { byte = 3 + i; flags = 3 + length_of k + i / 8 }

-- a bit for each cell, eight to a byte, the last byte filled up
abbrev pub flag_bytes : ℕ → ℕ
flag_bytes cells = (cells + 7) / 8

-- "body 3,518; .. body 7,034", and "body 5,861; .. body 11,720": track, side, data bytes and flag bytes
unfoldable pub body_length : Kind → ℕ
body_length k = 2 + length_of k + flag_bytes (length_of k)

-- the kind byte and the body
abbrev pub picture_length : Kind → ℕ
picture_length k = body_length k + 1

-- no picture is longer than one of the longest row
abbrev pub longest_picture : ℕ
longest_picture = 3 + longest_row + flag_bytes longest_row

-- the flag bit of a cell in its flag byte, 0 or 1: eight cells share a byte, the first of them at bit 7
unfoldable pub flag_in : ℕ → ℕ → ℕ
flag_in flags i = flags / 2 ^ (7 - i % 8) % 2

-- "A cell is a byte, plus 256 if written with missing clocks (flagged)."
unfoldable pub cell_from : ℕ → ℕ → ℕ → ℕ
cell_from byte flags i = byte + flag_in flags i * 256

-- cell i of a picture
unfoldable pub picture_cell : Kind → List ℕ → ℕ → ℕ
picture_cell k bytes i = cell_from (get_or bytes (cell_place k i).byte 0) (get_or bytes (cell_place k i).flags 0) i

-- how many bits of the last flag byte stand for no cell
abbrev pub spare_bits : ℕ → ℕ
spare_bits cells = (8 - cells % 8) % 8

unfoldable pub spare_clear : ℕ → ℕ → Bool
spare_clear cells last = eqb (last % 2 ^ spare_bits cells) 0

-- "padding 0": these are the lowest of the picture's last byte
abbrev pub padding_clear : Kind → List ℕ → Bool
padding_clear k bytes = spare_clear (length_of k) (get_or bytes (body_length k) 0)

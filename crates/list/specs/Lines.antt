-- The lines of document 01, "Pictures and the viewer", as bytes of ASCII. Assumes nothing.
use Rattle.std.specs.Prelude.{Bool, cond, List, [], ◌∷◌, ◌++◌, ℕ, ◌/◌, Option, Some, None}
use Rattle.text.specs.Hex.{digit_of}
use Rattle.text.specs.Decimal.{decimal_of}
use Rattle.scan.specs.declared.Id.{Id}
use Rattle.scan.specs.DataMarks.{mark_byte}
use Rattle.fields.specs.declared.Marked.{Marked}

abbrev pub space : ℕ
space = 0x20

abbrev pub newline : ℕ
newline = 0x0A

-- "Bytes are two capital hex digits.", here after a space
unfoldable pub byte_text : ℕ → List ℕ
byte_text b = space ∷ digit_of (b / 16) ∷ digit_of b ∷ []

-- "F or M, track, side as one digit", and "The list prints f and m as the kind."
unfoldable pub head_text : ℕ → ℕ → ℕ → List ℕ
head_text letter track side =
    letter ∷ space ∷ digit_of (track / 16) ∷ digit_of track ∷ space ∷ digit_of side ∷ newline ∷ []

-- "CRC good or bad": ` good`, ` bad`
unfoldable pub crc_text : Bool → List ℕ
crc_text good =
    cond good (space ∷ 0x67 ∷ 0x6F ∷ 0x6F ∷ 0x64 ∷ []) (space ∷ 0x62 ∷ 0x61 ∷ 0x64 ∷ [])

-- "data mark FB, F8 or none", and "the list, which prints F9 or FA": the byte of the mark, or ` none`
unfoldable pub mark_text : Option Marked → List ℕ
mark_text None = space ∷ 0x6E ∷ 0x6F ∷ 0x6E ∷ 0x65 ∷ []
mark_text (Some marked) = byte_text (mark_byte marked.mark)

-- "cell in decimal, four bytes, CRC good or bad, data mark .."
unfoldable pub id_text : ℕ → Id → Option Marked → List ℕ
id_text cell id behind =
    decimal_of cell
    ++ byte_text id.track
    ++ byte_text id.side
    ++ byte_text id.sector
    ++ byte_text id.length
    ++ crc_text id.good
    ++ mark_text behind
    ++ newline ∷ []

-- `ids` and how many
unfoldable pub count_text : ℕ → List ℕ
count_text n = (0x69 ∷ 0x64 ∷ 0x73 ∷ space ∷ []) ++ decimal_of n ++ newline ∷ []

-- "A refusal prints `refused` and its number"
unfoldable pub refusal_text : ℕ → List ℕ
refusal_text n =
    (0x72 ∷ 0x65 ∷ 0x66 ∷ 0x75 ∷ 0x73 ∷ 0x65 ∷ 0x64 ∷ space ∷ []) ++ decimal_of n ++ newline ∷ []

-- Demand 1 for the picture reader: its numbers of document 01's table "Numbers handed back", and what it takes of a picture.
-- Assumes nothing.
use Rattle.std.specs.Prelude.{◌≡◌, Bool, true, false, cond, List, [], ◌∷◌, ◌⊎◌, ℕ, ◌+◌, ◌-◌, ◌/◌, ◌%◌, ◌≤◌, ◌<◌, length, get_or}
use Rattle.common.specs.Bits.{bit_of}
use Rattle.refusals.specs.Numbers.{number_in}
use Rattle.picture.specs.declared.Answer.{Answer}
use Rattle.picture.specs.Kinds.{shape_of}
use Rattle.safe.specs.Demand1.{InTurn}

-- ---- "A picture is a kind byte, then track, side, L data bytes, flag bits (cell 0 at bit 7, padding 0)"

-- what a kind says: the letter that the list prints, in ASCII, whether the track is MFM, its cells, how many bytes come after the
-- kind's, and which bytes of the picture have cell i and its flag bit
pub record Form : Type 0 where
  pub letter : ℕ
  pub mfm : Bool
  pub cells : ℕ
  pub body : ℕ
  pub data_byte : ℕ → ℕ
  pub flag_byte : ℕ → ℕ

-- "L data bytes, flag bits": eight of them to a byte
abbrev pub flags_last : ℕ → Bool → ℕ → ℕ → Form
flags_last letter mfm L body =
    record {
      letter = letter;
      mfm = mfm;
      cells = L;
      body = body;
      data_byte = λ i. 3 + i;
      flag_byte = λ i. 3 + L + i / 8;
    }

-- "46 FM, L 3,125, body 3,518; 4D MFM, L 6,250, body 7,034", "F or M"; "66 FM, 5,208 cells, body 5,861; 6D MFM, 10,416 cells, body
-- 11,720", "The list prints f and m as the kind.": the byte is a kind's, with its form
pub data IsKind (byte : ℕ) : Form → Type 0 where
  fm : byte ≡ 0x46 → IsKind byte (flags_last 0x46 false 3125 3518)
  mfm : byte ≡ 0x4D → IsKind byte (flags_last 0x4D true 6250 7034)
  eight_inch_fm : byte ≡ 0x66 → IsKind byte (flags_last 0x66 false 5208 5861)
  eight_inch_mfm : byte ≡ 0x6D → IsKind byte (flags_last 0x6D true 10416 11720)

abbrev pub kind_byte : List ℕ → ℕ
kind_byte bytes = get_or bytes 0 0

abbrev pub track_byte : List ℕ → ℕ
track_byte bytes = get_or bytes 1 0

abbrev pub side_byte : List ℕ → ℕ
side_byte bytes = get_or bytes 2 0

-- "cell 0 at bit 7"
abbrev pub flag_bit : List ℕ → Form → ℕ → Bool
flag_bit bytes form i = bit_of (get_or bytes (form.flag_byte i) 0) (7 - i % 8)

-- "A cell is a byte, plus 256 if written with missing clocks (flagged)."
abbrev pub cell_of_picture : List ℕ → Form → ℕ → ℕ
cell_of_picture bytes form i = get_or bytes (form.data_byte i) 0 + cond (flag_bit bytes form i) 256 0

-- "a padding bit set": a flag bit of the picture, after that of the last cell, is 1
pub record PaddingSet (bytes : List ℕ) (form : Form) : Type 0 where
  pub bit : ℕ
  pub beyond : form.cells ≤ bit
  pub inside : form.flag_byte bit < 1 + form.body
  pub set : flag_bit bytes form bit ≡ true

-- ---- the conditions

-- 9: "picture .. is empty"
abbrev pub Empty : List ℕ → Type 0
Empty bytes = length bytes ≡ 0

-- 8: "any kind but the four"
abbrev pub NoKind : List ℕ → Type 0
NoKind bytes = (form : Form) → IsKind (kind_byte bytes) form → ⊥

-- 9: "picture ends early"
abbrev pub EndsEarly : List ℕ → Form → Type 0
EndsEarly bytes form = length bytes < 1 + form.body

-- 12: "room for cells smaller than the kind's L"
abbrev pub NoRoom : ℕ → Form → Type 0
NoRoom room form = room < form.cells

-- 10: "side byte above 1, or a padding bit set"
abbrev pub Unsound : List ℕ → Form → Type 0
Unsound bytes form = (1 < side_byte bytes) ⊎ PaddingSet bytes form

-- ---- the turns: "in the picture reader: empty (9), 8, 9, 12, 10"

abbrev pub reader_order : ℕ → ℕ
reader_order t = get_or (9 ∷ 8 ∷ 9 ∷ 12 ∷ 10 ∷ []) t 0

-- turn t has its condition
pub data AtReader (bytes : List ℕ) (room : ℕ) : ℕ → Type 0 where
  empty : Empty bytes → AtReader bytes room 0
  no_kind : NoKind bytes → AtReader bytes room 1
  ends_early : (form : Form) → IsKind (kind_byte bytes) form → EndsEarly bytes form → AtReader bytes room 2
  no_room : (form : Form) → IsKind (kind_byte bytes) form → NoRoom room form → AtReader bytes room 3
  unsound : (form : Form) → IsKind (kind_byte bytes) form → Unsound bytes form → AtReader bytes room 4

-- ---- the number, and what the reader hands back

-- "The reader takes the first picture and leaves bytes and room beyond it untouched."
pub record TakenPicture (bytes room : List ℕ) (r : Answer) (room' : List ℕ) : Type 0 where
  pub form : Form
  pub kind : IsKind (kind_byte bytes) form
  pub letter : (shape_of r.kind).letter ≡ form.letter
  pub density : (shape_of r.kind).mfm ≡ form.mfm
  pub length_of_track : (shape_of r.kind).length ≡ form.cells
  pub track : r.track ≡ track_byte bytes
  pub side : r.side ≡ side_byte bytes
  pub taken : r.taken ≡ 1 + form.body
  pub cells : (i d : ℕ) → i < form.cells → get_or room' i d ≡ cell_of_picture bytes form i
  pub beyond : (i d : ℕ) → form.cells ≤ i → get_or room' i d ≡ get_or room i d
  pub size : length room' ≡ length room

-- "A refused picture gives track and side 0", "nothing written"
pub record SafePicture (bytes room : List ℕ) (r : Answer) (room' : List ℕ) : Type 0 where
  pub given : InTurn reader_order (AtReader bytes (length room)) (number_in r.outcome)
  pub refused : (number_in r.outcome ≡ 0 → ⊥) → (r.track ≡ 0) × (r.side ≡ 0) × (room' ≡ room)
  pub done : number_in r.outcome ≡ 0 → TakenPicture bytes room r room'

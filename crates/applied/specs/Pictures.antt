-- What the picture reader says to a picture of each kind of an eight-inch disk. Assumes nothing.
use Rattle.std.specs.Prelude.{◌≡◌, Bool, true, false, cond, List, ℕ, suc, ◌+◌, ◌-◌, ◌/◌, ◌%◌, ◌≤◌, ◌<◌, length, get_or}
use Rattle.common.specs.Bits.{bit_of}
use Rattle.refusals.specs.Numbers.{number_in}
use Rattle.picture.specs.declared.Answer.{Answer}
use Rattle.picture.specs.Kinds.{shape_of}
use Rattle.uses.specs.CallContracts.{PictureCall}

-- bytes that begin with this one and have side 0 or 1, and room for so many cells
pub record LentPicture (byte cells : ℕ) (bytes room : List ℕ) : Type 0 where
  pub kind : get_or bytes 0 0 ≡ byte
  pub side : get_or bytes 2 0 ≤ 1
  pub wide : cells ≤ length room

-- what it is read as: the letter that the list prints, the density, the cells of the track and how many bytes are taken
pub record ReadSo (letter : ℕ) (mfm : Bool) (cells size : ℕ) (bytes : List ℕ) (r : Answer) (room' : List ℕ) : Type 0 where
  pub number : number_in r.outcome ≡ 0
  pub letter_of : (shape_of r.kind).letter ≡ letter
  pub density : (shape_of r.kind).mfm ≡ mfm
  pub length_of : (shape_of r.kind).length ≡ cells
  pub track : r.track ≡ get_or bytes 1 0
  pub side : r.side ≡ get_or bytes 2 0
  pub taken : r.taken ≡ size
  pub cell : (i d : ℕ)
      → i < cells
      → get_or room' i d ≡ get_or bytes (3 + i) 0 + cond (bit_of (get_or bytes (3 + cells + i / 8) 0) (7 - i % 8)) 256 0

-- With so many bytes or more it is taken, whatever they are: each flag bit is a cell's, so no bit is padding. With one byte fewer it
-- "ends early".
pub record ReadAs (byte letter : ℕ) (mfm : Bool) (cells size : ℕ) : Type 0 where
  pub whole : (bytes room : List ℕ) (r : Answer) (room' : List ℕ)
      → PictureCall bytes room r room'
      → LentPicture byte cells bytes room
      → size ≤ length bytes
      → ReadSo letter mfm cells size bytes r room'
  pub cut : (bytes room : List ℕ) (r : Answer) (room' : List ℕ)
      → PictureCall bytes room r room'
      → LentPicture byte cells bytes room
      → suc (length bytes) ≡ size
      → (number_in r.outcome ≡ 9) × (room' ≡ room)

-- "The list prints f and m as the kind.": 66 and 6D are these letters in ASCII too
pub record EightInchPictures : Type 0 where
  -- "66 FM, 5,208 cells, body 5,861", and the kind byte
  pub fm : ReadAs 0x66 0x66 false 5208 5862
  -- "6D MFM, 10,416 cells, body 11,720", and the kind byte
  pub mfm : ReadAs 0x6D 0x6D true 10416 11721

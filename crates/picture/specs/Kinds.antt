-- The kinds of pictures: document 01, "Pictures and the viewer", and request h. Assumes nothing.
use Rattle.std.specs.Prelude.{Bool, true, false, cond, ℕ, eqb, Result, Ok, Err}
use Rattle.refusals.specs.declared.Refusal.{Refusal}
use Rattle.refusals.specs.declared.Refusal.TheVariants as refusal
use Rattle.picture.specs.declared.Kind.{Kind}
use Rattle.picture.specs.declared.Kind.TheVariants.{Fm, Mfm, EightInchFm, EightInchMfm}
use Rattle.picture.specs.declared.Shape.{Shape}

-- "A picture is a kind byte, ..": "46 FM, ..; 4D MFM, ..", and "66 FM, ..; 6D MFM, .."; 8: "any kind but the four"
unfoldable pub kind_of : ℕ → Result Kind Refusal
kind_of b =
    cond (eqb b 0x46) (Ok Fm)
    (cond (eqb b 0x4D) (Ok Mfm)
    (cond (eqb b 0x66) (Ok EightInchFm)
    (cond (eqb b 0x6D) (Ok EightInchMfm)
    (Err refusal.Kind))))

-- what a picture is of: the letter that the list prints, in ASCII, whether the density is MFM, and L, the cells of the track
abbrev pub shape_with : ℕ → Bool → ℕ → Shape
shape_with letter mfm length = record { letter = letter; mfm = mfm; length = length }

-- "46 FM, L 3,125, ..; 4D MFM, L 6,250, ..", "F or M"; "66 FM, 5,208 cells, ..; 6D MFM, 10,416 cells, ..", "The list prints f and m as
-- the kind."
unfoldable pub shape_of : Kind → Shape
shape_of Fm = shape_with 0x46 false 3125
shape_of Mfm = shape_with 0x4D true 6250
shape_of EightInchFm = shape_with 0x66 false 5208
shape_of EightInchMfm = shape_with 0x6D true 10416

abbrev pub length_of : Kind → ℕ
length_of k = (shape_of k).length

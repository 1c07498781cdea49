-- What the picture reader says to a picture of each kind of an eight-inch disk, from `demand_1` alone. Assumes nothing.
use mathlib.Core.Path.{◌≡◌, refl, sym, ap, ◌∙◌, subst}
use mathlib.Core.Bool.{Bool, true, false}
use mathlib.Core.List.{List}
use mathlib.Core.Logic.{inl, inr}
use Prim.Native.Nat.{ℕ, suc, ◌+◌, ◌/◌, ◌≤◌, ◌<◌}
use native.Mathlib.Omega.{arith}
use lib.ListN.{length}
use Rattle.refusals.specs.Numbers.{number_in}
use Rattle.picture.specs.declared.Answer.{Answer}
use Rattle.safe.specs.Pictures.{Form, flags_last, IsKind, eight_inch_fm, eight_inch_mfm, kind_byte, cell_of_picture, AtReader, empty, no_kind, ends_early, no_room, unsound, TakenPicture}
use Rattle.safe.proofs.Pictures.{same_kind}
use Rattle.uses.specs.CallContracts.{PictureCall}
use Rattle.demands.proofs.Demand1.{demand_1}
use Rattle.applied.specs.Pictures.{LentPicture, ReadSo, ReadAs, EightInchPictures}

-- a kind whose flag bits are all cells'
module _ (byte letter : ℕ) (mfm : Bool) (cells body : ℕ)
    (is_kind : (b : ℕ) → b ≡ byte → IsKind b (flags_last letter mfm cells body))
    (no_padding : (i : ℕ) → cells ≤ i → 3 + cells + i / 8 < 1 + body → ⊥) where
  abbrev form : Form
  form = flags_last letter mfm cells body

  module _ (bytes room : List ℕ) (r : Answer) (room' : List ℕ) (call : PictureCall bytes room r room')
      (lent : LentPicture byte cells bytes room) where
    is : IsKind (kind_byte bytes) form
    is = is_kind (kind_byte bytes) lent.kind

    module _ (long : suc body ≤ length bytes) where
      no_turn : (t : ℕ) → AtReader bytes (length room) t → ⊥
      no_turn t (empty none) = omega arith
      no_turn t (no_kind none) = none form is
      no_turn t (ends_early other k h) = let same = ap (λ (f : Form). f.body) (same_kind k is) in omega (arith, same, h)
      no_turn t (no_room other k h) =
          let same = ap (λ (f : Form). f.cells) (same_kind k is) in omega (arith, same, h, lent.wide)
      no_turn t (unsound other k (inl high)) = omega (arith, high, lent.side)
      no_turn t (unsound other k (inr set)) =
          let same = same_kind k is in
          no_padding set.bit (rw same at set.beyond) (rw same at set.inside)

      done : number_in r.outcome ≡ 0
      done = (demand_1.picture bytes room r room' call).given.done.1 no_turn

      taken : TakenPicture bytes room r room'
      taken = (demand_1.picture bytes room r room' call).done done

      same_form : taken.form ≡ form
      same_form = same_kind taken.kind is

      read_so : ReadSo letter mfm cells (suc body) bytes r room'
      read_so =
          record {
            number = done;
            letter_of = taken.letter ∙ ap (λ (f : Form). f.letter) same_form;
            density = taken.density ∙ ap (λ (f : Form). f.mfm) same_form;
            length_of = taken.length_of_track ∙ ap (λ (f : Form). f.cells) same_form;
            track = taken.track;
            side = taken.side;
            taken = taken.taken ∙ ap (λ (f : Form). 1 + f.body) same_form ∙ omega arith;
            cell = λ i d inside.
                taken.cells i d (subst (λ (f : Form). i < f.cells) (sym same_form) inside)
                ∙ ap (λ (f : Form). cell_of_picture bytes f i) same_form;
          }

    cut_short : 0 < body → length bytes ≡ body → (number_in r.outcome ≡ 9) × (room' ≡ room)
    cut_short some size =
        let safe = demand_1.picture bytes room r room' call in
        let number = (safe.given.exactly 9 (omega arith)).1 (2, refl, ends_early form is (omega arith), first) in
        let (track, side, left) = safe.refused (λ none. omega (arith, number, none)) in
        (number, left)
      where
        first : (s : ℕ) → s < 2 → AtReader bytes (length room) s → ⊥
        first s low (empty none) = omega arith
        first s low (no_kind none) = none form is
        first s low (ends_early other k h) = omega arith
        first s low (no_room other k h) = omega arith
        first s low (unsound other k h) = omega arith

  read_as : 0 < body → ReadAs byte letter mfm cells (suc body)
  read_as some =
      record {
        whole = read_so;
        cut = λ bytes room r room' call lent short. cut_short bytes room r room' call lent some (omega arith);
      }

pub eight_inch_pictures : EightInchPictures
eight_inch_pictures =
    record {
      fm = read_as 0x66 0x66 false 5208 5861 (λ b. eight_inch_fm) (λ i beyond inside. omega arith) (omega arith);
      mfm = read_as 0x6D 0x6D true 10416 11720 (λ b. eight_inch_mfm) (λ i beyond inside. omega arith) (omega arith);
    }

-- Demand 1 for the picture reader: each number exactly in its turn, what a refusal hands back, and what is taken of a picture.
-- Assumes nothing.
use mathlib.Core.Path.{◌≡◌, refl, ap, ◌∙◌}
use mathlib.Core.Bool.{Bool, true, false, cond}
use mathlib.Core.List.{List}
use Prim.Native.Nat.{ℕ, ◌+◌, ◌*◌, ◌/◌, ◌≤◌}
use native.Mathlib.Omega.{arith}
use lib.Dec.{eqb}
use lib.ListN.{length, get_or}
use borrow.Author.Tests.{eqb-true, eqb-false}
use Rattle.common.proofs.Cases.{by_cond}
use Rattle.refusals.specs.declared.Refusal.TheVariants as refusal
use Rattle.refusals.specs.declared.Refusal.TheVariants.{End}
use Rattle.refusals.specs.Numbers.{number_of, number_in}
use Rattle.picture.specs.declared.Kind.{Kind}
use Rattle.picture.specs.declared.Kind.TheVariants.{Fm, Mfm, EightInchFm, EightInchMfm}
use Rattle.picture.specs.Kinds.{kind_of, shape_of, length_of}
use Rattle.picture.specs.Layout.{body_length, cell_place, flag_in, cell_from, picture_cell}
use Rattle.picture.specs.Reader.{judged_of, verdict_of, refused_by, taken_from, answer_of, reader_answer, reader_room}
use Rattle.picture.proofs.Laws.{room_length, answer_taken, room_within, room_beyond, refused_leaves}
use Rattle.safe.specs.Pictures.{fm, mfm, eight_inch_fm, eight_inch_mfm, kind_byte, flag_bit, cell_of_picture, NoKind, empty, no_kind, TakenPicture, SafePicture}
use Rattle.safe.proofs.Pictures.{flag_clear, flag_set, form_of, Told, turn, reader_rows, kind_given}

module _ (bytes : List ℕ) (room : ℕ) where
  reader_given : Told bytes room (reader_answer bytes room)
  unfolding reader_answer answer_of verdict_of judged_of kind_of shape_of body_length number_of
  reader_given =
      by_cond (λ v. Told bytes room (answer_of bytes v)) (eqb (length bytes) 0)
      (λ e. turn bytes room 0 End refl (empty (eqb-true _ _ e)) (λ t asked. omega arith))
      (λ e.
      let some = eqb-false (length bytes) 0 e in
      by_cond (λ n. Told bytes room (answer_of bytes (judged_of bytes room n))) (eqb (kind_byte bytes) 0x46)
      (λ f. kind_given bytes room Fm (fm (eqb-true _ _ f)) some)
      (λ f.
      by_cond (λ n. Told bytes room (answer_of bytes (judged_of bytes room n))) (eqb (kind_byte bytes) 0x4D)
      (λ g. kind_given bytes room Mfm (mfm (eqb-true _ _ g)) some)
      (λ g.
      by_cond (λ n. Told bytes room (answer_of bytes (judged_of bytes room n))) (eqb (kind_byte bytes) 0x66)
      (λ h. kind_given bytes room EightInchFm (eight_inch_fm (eqb-true _ _ h)) some)
      (λ h.
      by_cond (λ n. Told bytes room (answer_of bytes (judged_of bytes room n))) (eqb (kind_byte bytes) 0x6D)
      (λ i. kind_given bytes room EightInchMfm (eight_inch_mfm (eqb-true _ _ i)) some)
      (λ i.
      turn bytes room 1 refusal.Kind refl
      (no_kind (none (eqb-false _ _ f) (eqb-false _ _ g) (eqb-false _ _ h) (eqb-false _ _ i)))
      (reader_rows bytes room (λ t. 1 ≤ t) (λ h. absurd (some h)) (λ h. omega arith) (λ form j h. omega arith)
      (λ form j h. omega arith) (λ form j h. omega arith)))))))
    where
      none : (kind_byte bytes ≡ 0x46 → ⊥) → (kind_byte bytes ≡ 0x4D → ⊥)
          → (kind_byte bytes ≡ 0x66 → ⊥) → (kind_byte bytes ≡ 0x6D → ⊥) → NoKind bytes
      none f g h i form (fm e) = f e
      none f g h i form (mfm e) = g e
      none f g h i form (eight_inch_fm e) = h e
      none f g h i form (eight_inch_mfm e) = i e

-- ---- what is taken

-- a cell of a picture, by its byte and its flag bit
cell_there : (bytes : List ℕ) (k : Kind) (i : ℕ) → picture_cell k bytes i ≡ cell_of_picture bytes (form_of k) i
unfolding picture_cell cell_place cell_from
cell_there bytes k i = by (flag_bit bytes (form_of k) i) refl
  where
    flags : ℕ
    flags = get_or bytes (3 + length_of k + i / 8) 0

    by : (b : Bool) → flag_bit bytes (form_of k) i ≡ b
        → get_or bytes (3 + i) 0 + flag_in flags i * 256 ≡ get_or bytes (3 + i) 0 + cond b 256 0
    by true e = rw (flag_set flags i e) refl
    by false e = rw (flag_clear flags i e) refl

picture_taken : (bytes room : List ℕ)
    → number_in (reader_answer bytes (length room)).outcome ≡ 0
    → TakenPicture bytes room (reader_answer bytes (length room)) (reader_room bytes room)
unfolding taken_from
picture_taken bytes room done =
    let answer = answer_taken bytes room done in
    record {
      form = form_of (reader_answer bytes (length room)).kind;
      kind = (reader_given bytes (length room)).1 done;
      letter = refl;
      density = refl;
      length_of_track = refl;
      track = ap (λ a. a.track) answer;
      side = ap (λ a. a.side) answer;
      taken = ap (λ a. a.taken) answer ∙ omega arith;
      cells = λ i d within. room_within bytes room done i d within ∙ cell_there bytes _ i;
      beyond = room_beyond bytes room done;
      size = room_length bytes room;
    }

-- for every input
pub picture_safe : (bytes room : List ℕ) → SafePicture bytes room (reader_answer bytes (length room)) (reader_room bytes room)
unfolding refused_by
picture_safe bytes room =
    record {
      given = (reader_given bytes (length room)).0;
      refused =
          λ h.
          let (left, (refusal, answer)) = refused_leaves bytes room h in
          (ap (λ a. a.track) answer, ap (λ a. a.side) answer, left);
      done = picture_taken bytes room;
    }

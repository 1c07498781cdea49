-- What is printed of a picture, in document 01's words. Assumes nothing.
use mathlib.Core.Path.{◌≡◌}
use mathlib.Core.Logic.{◌≢◌}
use mathlib.Core.Bool.{true}
use mathlib.Core.List.{List, ◌++◌, map}
use Prim.Native.Nat.{ℕ, ◌≤◌}
use native.Mathlib.Omega.{arith}
use lib.ListN.{length, take}
use lib.Seq.{length-take-le}
use Rattle.refusals.specs.Numbers.{number_in}
use Rattle.refusals.proofs.Outcomes.{done-ok, not_done-ok, not_done-err, number_done, nonzero-done}
use Rattle.scan.specs.Rows.{longest_row}
use Rattle.picture.specs.declared.Answer.{Answer}
use Rattle.picture.specs.declared.Shape.{Shape}
use Rattle.picture.specs.Kinds.{shape_of}
use Rattle.picture.specs.Reader.{reader_answer, reader_room}
use Rattle.picture.proofs.Laws.{kind_length, room_length}
use Rattle.list.specs.Lines.{head_text, count_text, refusal_text}
use Rattle.list.specs.Listing.{joined, picture_text, is_refused}
use Rattle.list.specs.Plain.{ByCell, id_line_at}
use Rattle.list.proofs.Complete.{lists}

module _ (bytes room : List ℕ) where
  -- the reader's answer, the shape and the cells of the picture that it read
  abbrev pub answer : Answer
  answer = reader_answer bytes (length room)

  abbrev pub shape : Shape
  shape = shape_of answer.kind

  abbrev pub row : List ℕ
  row = take shape.length (reader_room bytes room)

  pub row_length : length room ≡ longest_row → length row ≡ shape.length
  row_length size =
      length-take-le shape.length (reader_room bytes room)
      (omega (arith, room_length bytes room, (kind_length answer.kind).1))

  -- "F or M", "f and m", "track, side as one digit; IDs by cell of FE, round the ring", `ids` and how many
  pub prints : length room ≡ longest_row → number_in answer.outcome ≡ 0 → (fes : List ℕ) → ByCell shape.mfm row fes
      → picture_text bytes room
      ≡ head_text shape.letter answer.track answer.side
      ++ joined (map (id_line_at shape.mfm row) fes)
      ++ count_text (length fes)
  unfolding picture_text
  prints size taken fes by_cell =
      let long : 3 ≤ length row = omega (arith, row_length size, (kind_length answer.kind).0) in
      rw (done-ok answer.outcome (number_done answer.outcome taken))
      (lists shape answer.track answer.side row fes long by_cell)

  -- "A refusal prints `refused` and its number, and ends the run."
  pub refuses : number_in answer.outcome ≢ 0
      → (picture_text bytes room ≡ refusal_text (number_in answer.outcome)) × (is_refused bytes (length room) ≡ true)
  unfolding picture_text is_refused
  refuses some = let other = nonzero-done answer.outcome some in (
    simp (not_done-ok answer.outcome other),
    not_done-err answer.outcome other,
  )

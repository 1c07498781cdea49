-- The reader of pictures, document 01, "Pictures and the viewer" and "Numbers handed back". Assumes nothing.
use Rattle.std.specs.Prelude.{Bool, cond, ◌&&◌, List, ℕ, ltb, leb, eqb, length, get_or, Result, Ok, Err}
use Rattle.common.specs.Laid.{laid_row}
use Rattle.refusals.specs.declared.Refusal.{Refusal}
use Rattle.refusals.specs.declared.Refusal.TheVariants.{End, Side, Room}
use Rattle.refusals.specs.Numbers.{done, refused}
use Rattle.picture.specs.declared.Kind.{Kind}
use Rattle.picture.specs.declared.Kind.TheVariants.{Fm}
use Rattle.picture.specs.declared.Answer.{Answer}
use Rattle.picture.specs.Kinds.{kind_of, length_of}
use Rattle.picture.specs.Layout.{body_length, picture_length, picture_cell, padding_clear}

-- not 10: "side byte above 1, or a padding bit set"
unfoldable pub sound_of : Kind → List ℕ → Bool
sound_of k bytes = leb (get_or bytes 2 0) 1 && padding_clear k bytes

-- what the reader says before it writes a cell: a whole picture of a kind, or a refusal
abbrev pub Verdict : Type 0
Verdict = Result Kind Refusal

-- .. then 9, "picture ends early", 12, "room for cells smaller than the kind's L", and 10
unfoldable pub judged_for : List ℕ → ℕ → Kind → Verdict
judged_for bytes room k =
    cond (leb (length bytes) (body_length k)) (Err End)
    (cond (ltb room (length_of k)) (Err Room) (cond (sound_of k bytes) (Ok k) (Err Side)))

-- .. then 8
unfoldable pub judged_of : List ℕ → ℕ → Result Kind Refusal → Verdict
judged_of bytes room (Ok k) = judged_for bytes room k
judged_of bytes room (Err refusal) = Err refusal

-- "in the picture reader: empty (9), 8, 9, 12, 10"
unfoldable pub verdict_of : List ℕ → ℕ → Verdict
verdict_of bytes room = cond (eqb (length bytes) 0) (Err End) (judged_of bytes room (kind_of (get_or bytes 0 0)))

-- "A refused picture gives track and side 0."
unfoldable pub refused_by : Refusal → Answer
refused_by refusal = record { outcome = refused refusal; kind = Fm; track = 0; side = 0; taken = 0 }

-- "The reader takes the first picture": its track and side, and as many bytes as it has
unfoldable pub taken_from : List ℕ → Kind → Answer
taken_from bytes k =
    record { outcome = done; kind = k; track = get_or bytes 1 0; side = get_or bytes 2 0; taken = picture_length k }

unfoldable pub answer_of : List ℕ → Verdict → Answer
answer_of bytes (Ok k) = taken_from bytes k
answer_of bytes (Err refusal) = refused_by refusal

-- a room with the cells of a picture in its first places
unfoldable pub room_with_picture : Kind → List ℕ → List ℕ → List ℕ
room_with_picture k bytes room = laid_row room (λ i. i) (picture_cell k bytes) (length_of k)

-- ".. and leaves bytes and room beyond it untouched"; refused: "nothing written"
unfoldable pub filled_of : List ℕ → List ℕ → Verdict → List ℕ
filled_of bytes room (Ok k) = room_with_picture k bytes room
filled_of bytes room (Err refusal) = room

-- the reader's answer, and the room after it
unfoldable pub reader_answer : List ℕ → ℕ → Answer
reader_answer bytes room = answer_of bytes (verdict_of bytes room)

unfoldable pub reader_room : List ℕ → List ℕ → List ℕ
reader_room bytes room = filled_of bytes room (verdict_of bytes (length room))

-- The listing of a picture, document 01, "Pictures and the viewer". Assumes nothing.
use Rattle.std.specs.Prelude.{Bool, cond, List, [], ◌∷◌, ◌++◌, Option, Some, None, ℕ, zero, suc, ◌+◌, ◌-◌, ◌*◌, length, take, is_ok, is_err}
use Rattle.refusals.specs.Numbers.{number_in}
use Rattle.scan.specs.declared.Id.{Id}
use Rattle.scan.specs.Rows.{longest_row}
use Rattle.scan.specs.Marks.{lead_of}
use Rattle.fields.specs.declared.Found.{Found}
use Rattle.fields.specs.Ids.{next_id}
use Rattle.fields.specs.DataMarks.{mark_behind}
use Rattle.picture.specs.declared.Shape.{Shape}
use Rattle.picture.specs.Kinds.{shape_of, length_of}
use Rattle.picture.specs.Reader.{reader_answer, reader_room}
use Rattle.list.specs.Lines.{head_text, id_text, count_text, refusal_text}

-- the line of an ID, by the place after it: its FE stands seven places before, and the round one turn of the ring on
unfoldable pub id_line : Bool → List ℕ → Id → ℕ → List ℕ
id_line mfm row id behind = id_text (behind - 7 - length row) id (mark_behind mfm row behind)

-- "IDs by cell of FE, round the ring": at most n lines, of the IDs that stand from a place on, up to six cells after the
-- round
unfoldable pub id_lines_by : Bool → List ℕ → (ℕ → List (List ℕ)) → Option Found → List (List ℕ)
id_lines_by mfm row more None = []
id_lines_by mfm row more (Some found) = id_line mfm row found.id found.behind ∷ more found.behind

abbrev pub next_from : Bool → List ℕ → ℕ → Option Found
next_from mfm row from = next_id mfm row from (length row + length row + 6)

unfoldable pub id_lines_from : Bool → List ℕ → ℕ → ℕ → List (List ℕ)
id_lines_from mfm row zero from = []
id_lines_from mfm row (suc n) from = id_lines_by mfm row (λ behind. id_lines_from mfm row n behind) (next_from mfm row from)

-- the lines of all IDs of a row: no two share their FE, so there are no more than cells; a mark whose byte is cell 0 has
-- its lead at the ring's end
unfoldable pub id_lines : Bool → List ℕ → List (List ℕ)
id_lines mfm row = id_lines_from mfm row (length row) (length row - lead_of mfm)

-- lines one after another
unfoldable pub joined : List (List ℕ) → List ℕ
joined [] = []
joined (line ∷ rest) = line ++ joined rest

-- "F 00 0", a line for each ID, "ids" and how many
unfoldable pub listing_text : Shape → ℕ → ℕ → List ℕ → List ℕ
listing_text shape track side row =
    let lines = id_lines shape.mfm row in
    head_text shape.letter track side ++ joined lines ++ count_text (length lines)

-- a listing has no more bytes: its head, those of the IDs, and its count. Seven cells or more pass for each ID, and its line
-- is at most 28 bytes: four bytes for each cell of a row, and nine cells are looked at twice.
abbrev pub listing_room : ℕ
listing_room = 7 + (longest_row + 9) * 4 + 10

-- what is printed of the first picture of some bytes, with room for its cells: its listing, or "`refused` and its number"
unfoldable pub picture_text : List ℕ → List ℕ → List ℕ
picture_text bytes room =
    let a = reader_answer bytes (length room) in
    cond (is_ok a.outcome)
    (listing_text (shape_of a.kind) a.track a.side (take (length_of a.kind) (reader_room bytes room)))
    (refusal_text (number_in a.outcome))

-- "A refusal .. ends the run": whether the first picture of some bytes is refused, by whatever number
unfoldable pub is_refused : List ℕ → ℕ → Bool
is_refused bytes room = is_err (reader_answer bytes room).outcome

-- how many bytes the first picture has, and nothing where it is refused
unfoldable pub taken_of : List ℕ → ℕ → Option ℕ
taken_of bytes room = cond (is_refused bytes room) None (Some (reader_answer bytes room).taken)

-- What the definitions of the reader come to: the length of a track, the cells and the room, refusals.
-- Assumes nothing.
use mathlib.Core.Path.{◌≡◌, refl, ap}
use mathlib.Core.Logic.{◌≢◌}
use mathlib.Core.List.{List}
use Prim.Native.Nat.{ℕ, ◌≤◌, ◌<◌}
use native.Mathlib.Omega.{arith}
use lib.ListN.{length, get_or}
use Rattle.std.specs.Prelude.{Result, Ok, Err}
use Rattle.common.proofs.Laid.{first_places, laid_length, laid_in, laid_out}
use Rattle.refusals.specs.declared.Refusal.{Refusal}
use Rattle.refusals.specs.Numbers.{number_in}
use Rattle.scan.specs.Rows.{shortest_row, longest_row}
use Rattle.picture.specs.declared.Kind.{Kind}
use Rattle.picture.specs.declared.Kind.TheVariants.{Fm, Mfm, EightInchFm, EightInchMfm}
use Rattle.picture.specs.Kinds.{kind_of, shape_of, length_of}
use Rattle.picture.specs.Layout.{cell_place, flag_in, cell_from, picture_cell}
use Rattle.picture.specs.Reader.{Verdict, verdict_of, room_with_picture, taken_from, refused_by, answer_of, filled_of, reader_answer, reader_room}
use Rattle.picture.proofs.Verdicts.{sound_whole, done_sound}

-- the cells of a picture are as many as a row may have
pub kind_length : (k : Kind) → (shortest_row ≤ length_of k) × (length_of k ≤ longest_row)
unfolding shape_of
kind_length Fm = (omega arith, omega arith)
kind_length Mfm = (omega arith, omega arith)
kind_length EightInchFm = (omega arith, omega arith)
kind_length EightInchMfm = (omega arith, omega arith)

-- the kind of a kind byte, FM where it is none's
abbrev kind_in : Result Kind Refusal → Kind
kind_in (Ok k) = k
kind_in (Err refusal) = Fm

abbrev pub kind_for : ℕ → Kind
kind_for b = kind_in (kind_of b)

-- a cell of a picture of bytes is a byte, or a byte and 256: no call refuses it by 4
pub cell_most : (k : Kind) (bytes : List ℕ) (i : ℕ) → ((j : ℕ) → get_or bytes j 0 < 256) → picture_cell k bytes i ≤ 511
unfolding picture_cell cell_from flag_in
cell_most k bytes i byte =
    let low = byte (cell_place k i).byte in
    omega (arith, low)

module _ (bytes room : List ℕ) where
  -- what holds of both verdicts holds of the reader's
  by_verdict : (P : Verdict → Type 0) → ((k : Kind) → P (Ok k)) → ((refusal : Refusal) → P (Err refusal)) → (v : Verdict) → P v
  by_verdict P s r (Ok k) = s k
  by_verdict P s r (Err refusal) = r refusal

  -- the reader keeps the room's size
  pub room_length : length (reader_room bytes room) ≡ length room
  unfolding reader_room filled_of room_with_picture
  room_length =
      by_verdict (λ (v : Verdict). length (filled_of bytes room v) ≡ length room)
      (λ k. laid_length room (λ i. i) (picture_cell k bytes) (length_of k))
      (λ refusal. refl)
      (verdict_of bytes (length room))

  module _ (done : number_in (reader_answer bytes (length room)).outcome ≡ 0) where
    -- the kind of the picture that was taken
    abbrev k : Kind
    k = (reader_answer bytes (length room)).kind

    sound : verdict_of bytes (length room) ≡ Ok k
    unfolding reader_answer
    sound = done_sound bytes (length room) done

    pub answer_taken : reader_answer bytes (length room) ≡ taken_from bytes k
    unfolding reader_answer answer_of
    answer_taken = ap (answer_of bytes) sound

    -- its cells stand in the room's first places ..
    pub room_within : (i d : ℕ) → i < length_of k → get_or (reader_room bytes room) i d ≡ picture_cell k bytes i
    unfolding reader_room filled_of room_with_picture
    room_within i d in' =
        let wide = (sound_whole bytes (length room) k sound).1.wide in
        rw sound (laid_in room (λ i. i) (picture_cell k bytes) (length_of k) (first_places room (length_of k) wide) i d in')

    -- .. and what stood beyond them still does
    pub room_beyond : (i d : ℕ) → length_of k ≤ i → get_or (reader_room bytes room) i d ≡ get_or room i d
    unfolding reader_room filled_of room_with_picture
    room_beyond i d out =
        rw sound (laid_out room (λ i. i) (picture_cell k bytes) (length_of k) i d (λ j l e. omega arith))

  -- "nothing written", "track and side 0": a refused picture leaves the room as lent and gives its refusal alone
  pub refused_leaves :
      let a = reader_answer bytes (length room) in
      number_in a.outcome ≢ 0 → (reader_room bytes room ≡ room) × ((refusal : Refusal) × (a ≡ refused_by refusal))
  unfolding number_in reader_answer reader_room answer_of filled_of taken_from
  refused_leaves =
      by_verdict
      (λ (v : Verdict).
      let a = answer_of bytes v in
      number_in a.outcome ≢ 0 → (filled_of bytes room v ≡ room) × ((refusal : Refusal) × (a ≡ refused_by refusal)))
      (λ k some. absurd (some refl))
      (λ refusal some. (refl, (refusal, refl)))
      (verdict_of bytes (length room))

  -- no byte is taken that is not there
  pub taken_within : (size : ℕ) → (reader_answer bytes size).taken ≤ length bytes
  unfolding reader_answer answer_of taken_from refused_by
  taken_within size = by (verdict_of bytes size) refl
    where
      by : (v : Verdict) → verdict_of bytes size ≡ v → (answer_of bytes v).taken ≤ length bytes
      by (Ok k) e = omega (arith, (sound_whole bytes size k e).1.there)
      by (Err refusal) e = omega arith

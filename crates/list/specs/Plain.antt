-- What the listing of a picture holds, in document 01's words. Assumes nothing.
use Rattle.std.specs.Prelude.{◌≡◌, ◌⊎◌, ◌↔◌, Bool, List, [], ◌∷◌, ℕ, ◌+◌, ◌-◌, ◌%◌, ◌<◌, length}
use Rattle.scan.specs.Marks.{byte_of, lead_of}
use Rattle.scan.specs.declared.DataMark.{DataMark}
use Rattle.scan.specs.Streams.{IdAt, id_from, id_width}
use Rattle.fields.specs.Rings.{cells_of}
use Rattle.fields.specs.DataMarks.{mark_behind}
use Rattle.fields.specs.Rounds.{MarkWithin, FirstMark}
use Rattle.list.specs.Lines.{space, byte_text, id_text}

-- an ID stands on the ring, over the ring's end or not, and its FE is cell k: it begins at some place of the cells as they
-- pass, round and round, and the FE stands after its lead
pub record IdOn (mfm : Bool) (row : List ℕ) (k : ℕ) : Type 0 where
  pub place : ℕ
  pub stands : IdAt mfm (cells_of row) place
  pub fe : (place + lead_of mfm) % length row ≡ k

-- a number is one of a list's
unfoldable pub Member : ℕ → List ℕ → Type 0
Member k [] = ⊥
Member k (l ∷ rest) = (k ≡ l) ⊎ Member k rest

-- each number of a list is below all after it
unfoldable pub Rising : List ℕ → Type 0
Rising [] = Unit {0}
Rising (k ∷ rest) = ((l : ℕ) → Member l rest → k < l) × Rising rest

-- "IDs by cell of FE, round the ring": the cells of the FEs of all IDs of the ring and no others, in order, each once
pub record ByCell (mfm : Bool) (row fes : List ℕ) : Type 0 where
  pub every : (k : ℕ) → Member k fes ↔ IdOn mfm row k
  pub order : Rising fes

-- where the ID begins whose FE is cell k of the second round, so that its lead may stand at the end of the first
abbrev pub begins : Bool → List ℕ → ℕ → ℕ
begins mfm row k = length row + k - lead_of mfm

-- "data mark FB, F8 or none", and "the list, which prints F9 or FA": what is printed of the window that begins at a place
pub data MarkPrinted (mfm : Bool) (row : List ℕ) (place : ℕ) : List ℕ → Type 0 where
  -- the byte in the last cell of its first data mark
  byte : {mark : DataMark} {a cell : ℕ}
      → FirstMark mfm (cells_of row) place mark a cell
      → MarkPrinted mfm row place (byte_text (byte_of (cells_of row (a + lead_of mfm))))
  -- ` none` where it has none
  none : ((mark : DataMark) (a cell : ℕ) → MarkWithin mfm (cells_of row) place mark a cell → ⊥)
      → MarkPrinted mfm row place (space ∷ 0x6E ∷ 0x6F ∷ 0x6E ∷ 0x65 ∷ [])

-- "cell in decimal, four bytes, CRC good or bad, data mark ..": the line of the ID whose FE is cell k
unfoldable pub id_line_at : Bool → List ℕ → ℕ → List ℕ
id_line_at mfm row k =
    id_text k (id_from mfm (cells_of row) (begins mfm row k)) (mark_behind mfm row (begins mfm row k + id_width mfm))

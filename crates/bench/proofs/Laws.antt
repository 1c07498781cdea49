-- The cells of a part of a row fit a row's room, and cells that a line sets are laid into the row. Assumes nothing.
use Rattle.std.proofs.Common.{◌≡◌, refl, sym, ◌∙◌, ℕ, ◌+◌, ◌-◌, ◌≤◌, ◌<◌, List, ◌++◌, length, get_or, take, drop, replicate, arith, length-append, length-drop, length-take, length-take-le, get_or-take, get_or-drop, Result, Ok, Err}
use native.Mathlib.Decide.{dec_lt}
use lib.ListN.{get_or-append}
use Rattle.std.proofs.lemmas.Grind.{same_number_lists}
use Rattle.std.proofs.lemmas.List.{get_or-append_right, get_or-replicate, length-replicate}
use Rattle.common.specs.Laid.{laid_row}
use Rattle.common.proofs.Laid.{Places, laid_in, laid_out, laid_length}
use Rattle.refusals.specs.declared.Refusal.{Refusal}
use Rattle.scan.specs.Rows.{longest_row}
use Rattle.viewer.specs.declared.Place.{Place}
use Rattle.viewer.specs.declared.Place.TheVariants.{Zero, One}
use Rattle.viewer.specs.Views.{part_of, part_cells}
use Rattle.bench.specs.Rows.{row_with}

part_short : (side : List ℕ) (from to : ℕ) → length (part_of side from to) ≤ length side
part_short side from to = simp (length-take, length-drop) (omega arith)

pub view_fits :
    (s0 s1 part : List ℕ) (p : Result Place Refusal)
    → part ≡ part_cells p s0 s1
    → length s0 ≤ longest_row
    → length s1 ≤ longest_row
    → length part ≤ longest_row
unfolding part_cells
view_fits s0 s1 part (Ok (Zero span)) e h k = rw e (omega (arith, part_short s0 span.from span.to))
view_fits s0 s1 part (Ok (One span)) e h k = rw e (omega (arith, part_short s1 span.from span.to))
view_fits s0 s1 part (Err refusal) e h k = rw e (omega arith)

module _ (row cells : List ℕ) (place n : ℕ) (content : ℕ → ℕ) (count : length cells ≡ n) (fits : place + n ≤ length row) where
  abbrev spot : ℕ → ℕ
  spot i = place + i

  spots : Places row spot n
  spots = record { inside = λ i l. omega arith; apart = λ i k l h e. omega arith }

  before : length (take place row) ≡ place
  before = length-take-le place row (omega arith)

  reach : length (take place row ++ cells) ≡ place + n
  reach = simp length-append (omega (arith, before, count))

  size : length (row_with row place cells) ≡ length (laid_row row spot content n)
  size = simp (length-append, length-take, length-drop) (omega arith) ∙ sym (laid_length row spot content n)

  laid_by : ((i : ℕ) → i < n → get_or cells i 0 ≡ content i) → row_with row place cells ≡ laid_row row spot content n
  laid_by same =
      same_number_lists
      (row_with row place cells)
      (laid_row row spot content n)
      size
      (λ k h. by k (dec_lt k place) (dec_lt k (place + n)))
    where
      front : List ℕ
      front = take place row ++ cells

      behind : List ℕ
      behind = drop (place + length cells) row

      by : (k : ℕ)
          → Dec (k < place)
          → Dec (k < place + n)
          → get_or (row_with row place cells) k 0 ≡ get_or (laid_row row spot content n) k 0
      by k (yes l) _ =
          get_or-append front behind 0 k (omega (arith, reach))
          ∙ get_or-append (take place row) cells 0 k (omega (arith, before))
          ∙ get_or-take place row k 0 l
          ∙ sym (laid_out row spot content n k 0 (λ i h e. omega arith))
      by k (no m) (yes l) =
          get_or-append front behind 0 k (omega (arith, reach))
          ∙ get_or-append_right (take place row) cells place k 0 before (omega arith)
          ∙ same (k - place) (omega arith)
          ∙ sym (rw here at (laid_in row spot content n spots (k - place) 0 (omega arith)))
        where
          here : place + (k - place) ≡ k
          here = omega arith
      by k (no m) (no o) =
          get_or-append_right front behind (place + n) k 0 reach (omega arith)
          ∙ get_or-drop (place + length cells) row (k - (place + n)) 0
          ∙ rw here refl
          ∙ sym (laid_out row spot content n k 0 (λ i h e. omega arith))
        where
          here : place + length cells + (k - (place + n)) ≡ k
          here = omega arith

-- cells that a line sets are laid into the row
pub laid :
    (row cells : List ℕ) (place : ℕ)
    → place + length cells ≤ length row
    → row_with row place cells ≡ laid_row row (λ i. place + i) (λ i. get_or cells i 0) (length cells)
laid row cells place fits = laid_by row cells place (length cells) (λ i. get_or cells i 0) refl fits (λ i l. refl)

-- so is one cell that a line sets many times
pub laid_same :
    (row : List ℕ) (place n cell : ℕ)
    → place + n ≤ length row
    → row_with row place (replicate n cell) ≡ laid_row row (λ i. place + i) (λ _. cell) n
laid_same row place n cell fits =
    laid_by row (replicate n cell) place n (λ _. cell) (length-replicate n cell) fits (λ i l. get_or-replicate n i cell 0 l)

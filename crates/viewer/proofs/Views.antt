-- What the viewer hands back, in document 01's words: the first sector of side 0, or of side 1 where side 0 has none; and
-- each number exactly when. Assumes nothing.
use mathlib.Core.Path.{◌≡◌, refl, ap, ◌∙◌}
use mathlib.Core.Bool.{Bool, true, false, ◌&&◌}
use mathlib.Core.List.{List, [], ◌∷◌}
use mathlib.Core.Logic.{◌↔◌}
use Prim.Native.Nat.{ℕ, zero, suc, ◌+◌, ◌-◌, ◌≤◌, ◌<◌}
use native.Mathlib.Omega.{arith}
use lib.Dec.{leb}
use lib.ListN.{length, get_or, length-take, length-drop}
use lib.Seq.{get_or-take, get_or-drop}
use borrow.Author.Tests.{leb-true, le-leb}
use Rattle.std.specs.Prelude.{Option, None, Some, Result, Ok, Err}
use Rattle.common.proofs.Cases.{never, both, all}
use Rattle.refusals.specs.declared.Refusal.{Refusal}
use Rattle.refusals.specs.declared.Refusal.TheVariants as refusal
use Rattle.refusals.specs.Numbers as numbers
use Rattle.scan.specs.Rows.{length_within}
use Rattle.scan.specs.Streams.{id_from}
use Rattle.command.specs.Sizes.{size_of}
use Rattle.fields.specs.Rings.{cells_of}
use Rattle.viewer.specs.declared.Span.{Span}
use Rattle.viewer.specs.declared.Place.{Place}
use Rattle.viewer.specs.declared.Place.TheVariants.{Zero, One}
use Rattle.viewer.specs.Sectors.{span_of, span_on}
use Rattle.viewer.specs.Views.{cells_within, view_refusal, second_place, first_place, place_of, part_of, number_of}
use Rattle.viewer.specs.Plain.{SectorAt, FirstSector, NoSector}
use Rattle.viewer.proofs.Sectors.{same_span, first_sector, no_sector}

module _ (s0 s1 : List ℕ) (mfm : Bool) (track sector : ℕ) where
  abbrev place : Result Place Refusal
  place = place_of s0 s1 mfm track sector

  abbrev lengths : Bool
  lengths = length_within (length s0) && length_within (length s1)

  abbrev cells : Bool
  cells = cells_within s0 && cells_within s1

  -- the sides may be searched
  abbrev pub Open : Type 0
  Open = (lengths ≡ true) × (cells ≡ true)

  -- ---- the place, by what the sides are and hold

  module _ (may : Open) where
    searched : place ≡ first_place (span_on mfm s0 track sector) (span_on mfm s1 track sector)
    unfolding place_of view_refusal
    searched = simp (may.0, may.1)

    pub on_zero : (from to a : ℕ) → FirstSector mfm s0 track sector a from to → place ≡ Ok (Zero (span_of from to))
    unfolding first_place
    on_zero from to a f =
        searched
        ∙ ap (λ (s : Option Span). first_place s (span_on mfm s1 track sector)) ((first_sector mfm s0 track sector from to).1 (a, f))

    beside : NoSector mfm s0 track sector → place ≡ second_place (span_on mfm s1 track sector)
    unfolding first_place
    beside none =
        searched ∙ ap (λ (s : Option Span). first_place s (span_on mfm s1 track sector)) ((no_sector mfm s0 track sector).1 none)

    pub on_one : NoSector mfm s0 track sector
        → (from to a : ℕ) → FirstSector mfm s1 track sector a from to → place ≡ Ok (One (span_of from to))
    unfolding second_place
    on_one none from to a f = beside none ∙ ap second_place ((first_sector mfm s1 track sector from to).1 (a, f))

    pub on_none : NoSector mfm s0 track sector → NoSector mfm s1 track sector → place ≡ Err refusal.Sector
    unfolding second_place
    on_none none other = beside none ∙ ap second_place ((no_sector mfm s1 track sector).1 other)

  pub lengths_refused : lengths ≡ false → place ≡ Err refusal.Length
  unfolding place_of view_refusal
  lengths_refused e = simp e

  pub cells_refused : lengths ≡ true → cells ≡ false → place ≡ Err refusal.Cell
  unfolding place_of view_refusal
  cells_refused e f = simp (e, f)

  -- ---- every case is one of these

  pub data Case : Type 0 where
    wrong_length : lengths ≡ false → Case
    wrong_cell : lengths ≡ true → cells ≡ false → Case
    in_zero : Open → (from to a : ℕ) → FirstSector mfm s0 track sector a from to → Case
    in_one : Open → NoSector mfm s0 track sector → (from to a : ℕ) → FirstSector mfm s1 track sector a from to → Case
    nowhere : Open → NoSector mfm s0 track sector → NoSector mfm s1 track sector → Case

  pub which : Case
  which = by lengths refl cells refl (span_on mfm s0 track sector) refl (span_on mfm s1 track sector) refl
    where
      by : (l : Bool) → lengths ≡ l → (k : Bool) → cells ≡ k
          → (s : Option Span) → span_on mfm s0 track sector ≡ s → (t : Option Span) → span_on mfm s1 track sector ≡ t → Case
      by false l k f s e t g = wrong_length l
      by true l false f s e t g = wrong_cell l f
      by true l true f (Some span) e t g =
          let r = (first_sector mfm s0 track sector span.from span.to).0 e in in_zero (l, f) span.from span.to r.0 r.1
      by true l true f None e (Some span) g =
          let r = (first_sector mfm s1 track sector span.from span.to).0 g in
          in_one (l, f) ((no_sector mfm s0 track sector).0 e) span.from span.to r.0 r.1
      by true l true f None e None g =
          nowhere (l, f) ((no_sector mfm s0 track sector).0 e) ((no_sector mfm s1 track sector).0 g)

  -- ---- where it finds one, and only there

  pub found_zero : (from to : ℕ) → place ≡ Ok (Zero (span_of from to)) → (a : ℕ) × FirstSector mfm s0 track sector a from to
  found_zero from to e = by which
    where
      by : Case → (a : ℕ) × FirstSector mfm s0 track sector a from to
      by (wrong_length l) = let q = lengths_refused l in never (cc)
      by (wrong_cell l k) = let q = cells_refused l k in never (cc)
      by (in_zero o c d a f) =
          let q = on_zero o c d a f in
          let same = same_span {f = c} {t = d} {from = from} {to = to} (cc) in
          (a, rw (same.0, same.1) at f)
      by (in_one o n c d a f) = let q = on_one o n c d a f in never (cc)
      by (nowhere o n m) = let q = on_none o n m in never (cc)

  pub found_one : (from to : ℕ) → place ≡ Ok (One (span_of from to)) → (a : ℕ) × FirstSector mfm s1 track sector a from to
  found_one from to e = by which
    where
      by : Case → (a : ℕ) × FirstSector mfm s1 track sector a from to
      by (wrong_length l) = let q = lengths_refused l in never (cc)
      by (wrong_cell l k) = let q = cells_refused l k in never (cc)
      by (in_zero o c d a f) = let q = on_zero o c d a f in never (cc)
      by (in_one o n c d a f) =
          let q = on_one o n c d a f in
          let same = same_span {f = c} {t = d} {from = from} {to = to} (cc) in
          (a, rw (same.0, same.1) at f)
      by (nowhere o n m) = let q = on_none o n m in never (cc)

  -- ---- each number exactly when

  told : (p : Result Place Refusal) → place ≡ p → number_of place ≡ number_of p
  told p e = ap number_of e

  -- 1: "a length outside .. in the viewer"
  pub refused_1 : (number_of place ≡ 1) ↔ (lengths ≡ false)
  unfolding numbers.number_of
  refused_1 = (λ e. by which e, λ l. told (Err refusal.Length) (lengths_refused l))
    where
      by : Case → number_of place ≡ 1 → lengths ≡ false
      by (wrong_length l) e = l
      by (wrong_cell l k) e = absurd (omega (arith, told (Err refusal.Cell) (cells_refused l k)))
      by (in_zero o from to a f) e = absurd (omega (arith, told (Ok (Zero (span_of from to))) (on_zero o from to a f)))
      by (in_one o n from to a f) e = absurd (omega (arith, told (Ok (One (span_of from to))) (on_one o n from to a f)))
      by (nowhere o n m) e = absurd (omega (arith, told (Err refusal.Sector) (on_none o n m)))

  -- 4: "any cell lent to the viewer, is above 511"
  pub refused_4 : (number_of place ≡ 4) ↔ ((lengths ≡ true) × (cells ≡ false))
  unfolding numbers.number_of
  refused_4 = (λ e. by which e, λ h. told (Err refusal.Cell) (cells_refused h.0 h.1))
    where
      by : Case → number_of place ≡ 4 → (lengths ≡ true) × (cells ≡ false)
      by (wrong_length l) e = absurd (omega (arith, told (Err refusal.Length) (lengths_refused l)))
      by (wrong_cell l k) e = (l, k)
      by (in_zero o from to a f) e = absurd (omega (arith, told (Ok (Zero (span_of from to))) (on_zero o from to a f)))
      by (in_one o n from to a f) e = absurd (omega (arith, told (Ok (One (span_of from to))) (on_one o n from to a f)))
      by (nowhere o n m) e = absurd (omega (arith, told (Err refusal.Sector) (on_none o n m)))

  -- 11: "the viewer finds no such sector"
  pub refused_11 : (number_of place ≡ 11) ↔ (Open × NoSector mfm s0 track sector × NoSector mfm s1 track sector)
  unfolding numbers.number_of
  refused_11 = (λ e. by which e, λ h. told (Err refusal.Sector) (on_none h.0 h.1 h.2))
    where
      by : Case → number_of place ≡ 11 → Open × NoSector mfm s0 track sector × NoSector mfm s1 track sector
      by (wrong_length l) e = absurd (omega (arith, told (Err refusal.Length) (lengths_refused l)))
      by (wrong_cell l k) e = absurd (omega (arith, told (Err refusal.Cell) (cells_refused l k)))
      by (in_zero o from to a f) e = absurd (omega (arith, told (Ok (Zero (span_of from to))) (on_zero o from to a f)))
      by (in_one o n from to a f) e = absurd (omega (arith, told (Ok (One (span_of from to))) (on_one o n from to a f)))
      by (nowhere o n m) e = (o, n, m)

-- ---- what the words mean

each : (row : List ℕ) → cells_within row ≡ true → (i : ℕ) → i < length row → get_or row i 0 ≤ 511
unfolding cells_within
each [] e i h = absurd (omega arith)
each (cell ∷ row) e zero h = leb-true cell 511 (both (leb cell 511) (cells_within row) e).0
each (cell ∷ row) e (suc i) h = each row (both (leb cell 511) (cells_within row) e).1 i (omega arith)

every : (row : List ℕ) → ((i : ℕ) → i < length row → get_or row i 0 ≤ 511) → cells_within row ≡ true
unfolding cells_within
every [] h = refl
every (cell ∷ row) h = all (le-leb cell 511 (h 0 (omega arith))) (every row (λ i l. h (suc i) (omega arith)))

-- a side's cells are within exactly when none "is above 511"
pub cells_within_lem : (row : List ℕ) → (cells_within row ≡ true) ↔ ((i : ℕ) → i < length row → get_or row i 0 ≤ 511)
cells_within_lem row = (each row, every row)

module _ (mfm : Bool) (side : List ℕ) (track sector a from to : ℕ) (s : SectorAt mfm side track sector a from to) where
  -- "The two low bits of length give 128, 256, 512, 1,024": so many cells has the part
  pub part_size : length (part_of side from to) ≡ size_of (id_from mfm (cells_of side) a).length
  part_size = simp (length-take, length-drop) (omega (arith, s.ends, s.inside))

  -- and they are the side's, as they are
  pub part_cells_lem : (i : ℕ) → i < size_of (id_from mfm (cells_of side) a).length
      → get_or (part_of side from to) i 0 ≡ get_or side (from + i) 0
  part_cells_lem i h =
      let l : i < to - from = omega (arith, s.ends) in
      rw (get_or-take, get_or-drop)

-- Demand 1 for the viewer: each number exactly when, lowest first. Assumes nothing.
use mathlib.Core.Path.{◌≡◌, refl, sym, subst}
use mathlib.Core.Bool.{Bool, true, false, ◌&&◌}
use mathlib.Core.List.{List, [], ◌∷◌}
use mathlib.Core.Logic.{◌⊎◌, inl, inr, ⊎_elim}
use Prim.Native.Nat.{ℕ, suc, ◌≤◌}
use native.Mathlib.Omega.{arith}
use lib.Dec.{leb}
use lib.ListN.{length}
use borrow.Author.Tests.{leb-false}
use Rattle.std.specs.Prelude.{Result, Ok, Err}
use Rattle.common.proofs.Cases.{never, both}
use Rattle.refusals.specs.declared.Refusal.{Refusal}
use Rattle.refusals.specs.declared.Refusal.TheVariants.{Length, Cell, Sector}
use Rattle.refusals.specs.Numbers as numbers
use Rattle.scan.specs.Rows.{length_within}
use Rattle.viewer.specs.declared.Place.{Place}
use Rattle.viewer.specs.declared.Place.TheVariants.{Zero, One}
use Rattle.viewer.specs.Views.{cells_within, place_of, number_of}
use Rattle.viewer.specs.Sectors.{span_of}
use Rattle.viewer.proofs.Views.{Open, Case, wrong_length, wrong_cell, in_zero, in_one, nowhere, which, on_zero, on_one, on_none, lengths_refused, cells_refused, cells_within_lem}
use Rattle.safe.specs.Demand1.{Given}
use Rattle.safe.specs.Viewer.{WrongLength, HasAbove, AnyAbove, NoSuchSector, AtViewer, viewer_1, viewer_4, viewer_11}
use Rattle.safe.proofs.Refusals.{lowest, nothing, in_range, out_of_range}

-- ---- the conditions, of one side

none_above : (side : List ℕ) → cells_within side ≡ true → HasAbove side → ⊥
none_above side e (i, low, high) = let h = (cells_within_lem side).0 e i low in absurd (omega arith)

some_above : (side : List ℕ) → cells_within side ≡ false → HasAbove side
unfolding cells_within
some_above [] e = never (cc)
some_above (cell ∷ side) e = by (leb cell 511) refl (some_above side)
  where
    by : (b : Bool) → leb cell 511 ≡ b → (cells_within side ≡ false → HasAbove side) → HasAbove (cell ∷ side)
    by false f rest = (0, omega arith, leb-false cell 511 f)
    by true f rest = let (i, low, high) = rest (rw f at e) in (suc i, omega arith, high)

-- ---- and of two

one_fails : {A B : Type 0} (a b : Bool) → (a ≡ false → A) → (b ≡ false → B) → (a && b) ≡ false → A ⊎ B
one_fails false b f g e = inl (f refl)
one_fails true b f g e = inr (g e)

neither_fails : {A B : Type 0} (a b : Bool) → (a ≡ true → A → ⊥) → (b ≡ true → B → ⊥) → (a && b) ≡ true → A ⊎ B → ⊥
neither_fails a b f g e = ⊎_elim (f (both a b e).0) (g (both a b e).1)

module _ (s0 s1 : List ℕ) (mfm : Bool) (track sector : ℕ) where
  abbrev Row : ℕ → Type 0
  Row = AtViewer s0 s1 mfm track sector

  viewer_rows : (P : ℕ → Type 0)
      → (WrongLength s0 s1 → P 1)
      → (AnyAbove s0 s1 → P 4)
      → (NoSuchSector s0 s1 mfm track sector → P 11)
      → (j : ℕ)
      → Row j
      → P j
  viewer_rows P one four eleven j (viewer_1 c) = one c
  viewer_rows P one four eleven j (viewer_4 c) = four c
  viewer_rows P one four eleven j (viewer_11 c) = eleven c

  in_lengths : (length_within (length s0) && length_within (length s1)) ≡ true → WrongLength s0 s1 → ⊥
  in_lengths = neither_fails (length_within (length s0)) (length_within (length s1)) (in_range _) (in_range _)

  in_cells : (cells_within s0 && cells_within s1) ≡ true → AnyAbove s0 s1 → ⊥
  in_cells = neither_fails (cells_within s0) (cells_within s1) (none_above s0) (none_above s1)

  found : Open s0 s1 mfm track sector → (NoSuchSector s0 s1 mfm track sector → ⊥) → Given Row 0
  found may some = nothing Row (viewer_rows (λ j. ⊥) (in_lengths may.0) (in_cells may.1) some)

  pub view_given : Given Row (number_of (place_of s0 s1 mfm track sector))
  unfolding numbers.number_of
  view_given = by (which s0 s1 mfm track sector)
    where
      told : (p : Result Place Refusal) → place_of s0 s1 mfm track sector ≡ p → Given Row (number_of p)
          → Given Row (number_of (place_of s0 s1 mfm track sector))
      told p e = subst (λ (p : Result Place Refusal). Given Row (number_of p)) (sym e)

      by : Case s0 s1 mfm track sector → Given Row (number_of (place_of s0 s1 mfm track sector))
      by (wrong_length l) =
          told (Err Length) (lengths_refused s0 s1 mfm track sector l)
          (lowest Row 1 (omega arith) (viewer_1 (one_fails _ _ (out_of_range _) (out_of_range _) l))
          (viewer_rows (λ j. 1 ≤ j) (λ c. omega arith) (λ c. omega arith) (λ c. omega arith)))
      by (wrong_cell l k) =
          told (Err Cell) (cells_refused s0 s1 mfm track sector l k)
          (lowest Row 4 (omega arith) (viewer_4 (one_fails _ _ (some_above s0) (some_above s1) k))
          (viewer_rows (λ j. 4 ≤ j) (λ c. absurd (in_lengths l c)) (λ c. omega arith) (λ c. omega arith)))
      by (in_zero may from to a f) =
          told (Ok (Zero (span_of from to))) (on_zero s0 s1 mfm track sector may from to a f)
          (found may (λ none. none (inl (a, from, to, f.is))))
      by (in_one may none from to a f) =
          told (Ok (One (span_of from to))) (on_one s0 s1 mfm track sector may none from to a f)
          (found may (λ none. none (inr (a, from, to, f.is))))
      by (nowhere may none other) =
          told (Err Sector) (on_none s0 s1 mfm track sector may none other)
          (lowest Row 11 (omega arith)
          (viewer_11 (⊎_elim (λ (a, from, to, s). none a from to s) (λ (a, from, to, s). other a from to s)))
          (viewer_rows (λ j. 11 ≤ j) (λ c. absurd (in_lengths may.0 c)) (λ c. absurd (in_cells may.1 c))
          (λ c. omega arith)))

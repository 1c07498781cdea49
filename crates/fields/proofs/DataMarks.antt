-- The data mark after an ID is the first that stands in its window, and there is none exactly when none does.
-- Assumes nothing.
use mathlib.Core.Path.{◌≡◌, refl, sym, ap, ap₂, ◌∙◌}
use mathlib.Core.Bool.{Bool}
use mathlib.Core.List.{List}
use mathlib.Core.Logic.{◌↔◌}
use Prim.Native.Nat.{ℕ, zero, suc, ◌+◌, ◌-◌, ◌≤◌, ◌<◌}
use native.Mathlib.Omega.{arith}
use Rattle.std.specs.Prelude.{Option, None, Some}
use Rattle.common.proofs.Cases.{never}
use Rattle.scan.specs.declared.DataMark.{DataMark}
use Rattle.scan.specs.declared.Sought.{Sought}
use Rattle.scan.specs.declared.Sought.TheVariants.{On, Met}
use Rattle.scan.specs.Marks.{lead_of}
use Rattle.scan.specs.DataMarks.{mark_byte, window_of}
use Rattle.scan.specs.Streams.{MarkAt, sought_past, sought_after, sought_at}
use Rattle.scan.proofs.DataMarks.{data_marks}
use Rattle.fields.specs.declared.Marked.{Marked}
use Rattle.fields.specs.Rings.{cells_of}
use Rattle.fields.specs.DataMarks.{marked_at, met_by, sought_in, mark_behind}
use Rattle.fields.specs.Rounds.{MarkWithin, FirstMark}
use Rattle.fields.proofs.First.{NoneEnds, First, none_of_none, here, none_later, first_later, once}
use Rattle.fields.proofs.Shift as shift

module _ (mfm : Bool) (row : List ℕ) (place : ℕ) where
  abbrev cells : ℕ → ℕ
  cells = cells_of row

  -- the window's cells and those after it
  abbrev stream : ℕ → ℕ
  stream = shift.from cells place

  -- a data mark ends at the cell, as the scanner says
  abbrev Ends : ℕ → DataMark → Type 0
  Ends n mark = sought_at mfm stream n ≡ Met mark

  -- what is found in the k cells from cell n on
  abbrev Verdict : ℕ → ℕ → Option Marked → Type 0
  Verdict n k None = NoneEnds Ends n k
  Verdict n k (Some marked) = (m : ℕ) × (marked.cell ≡ suc m) × First Ends n k m marked.mark

  later : (n k : ℕ) → ((mark : DataMark) → Ends n mark → ⊥) → (f : Option Marked) → Verdict (suc n) k f → Verdict n (suc k) f
  later n k nothing None v = none_later Ends n k nothing v
  later n k nothing (Some marked) (m, e, v) = (m, e, first_later Ends n k nothing m marked.mark v)

  abbrev sought_from : ℕ → ℕ → Option Marked
  sought_from k n = sought_in mfm row place k n (sought_after mfm stream n)

  step : (k n : ℕ) → Verdict (suc n) k (sought_from k (suc n)) → (s : Sought) → sought_at mfm stream n ≡ s
      → Verdict n (suc k) (met_by s (suc n) (λ r. sought_in mfm row place k (suc n) r))
  unfolding met_by sought_after sought_past
  step k n v (On r) e =
      let w : Verdict (suc n) k (sought_in mfm row place k (suc n) r) = rw e at v in
      later n k (λ mark q. never (cc)) (sought_in mfm row place k (suc n) r) w
  step k n v (Met mark) e = (n, refl, here Ends n k mark e)

  verdict : (k n : ℕ) → Verdict n k (sought_from k n)
  unfolding sought_in
  verdict zero n = none_of_none Ends n
  verdict (suc k) n = step k n (verdict k (suc n)) (sought_at mfm stream n) refl

  by_verdict : (f : Option Marked) → mark_behind mfm row place ≡ f → Verdict 0 (window_of mfm) f
  unfolding mark_behind sought_after
  by_verdict f e = rw e at (verdict (window_of mfm) 0)

  -- a data mark of the ring ends where the scanner says so, and conversely
  to_end : (mark : DataMark) (a n : ℕ) → MarkWithin mfm cells place mark a (suc n) → Ends n mark
  to_end mark a n w =
      let low : place ≤ a = w.low in
      let byte : a + lead_of mfm + 1 ≡ place + suc n = w.byte in
      let q : place + (a - place) ≡ a = omega arith in
      let h : MarkAt mfm cells (place + (a - place)) (mark_byte mark) = rw q w.stands in
      (data_marks mfm stream n mark).1
      (w.of_density, (a - place, omega arith, shift.mark_back cells place mfm (a - place) (mark_byte mark) h))

  from_end : (n : ℕ) (mark : DataMark) → n < window_of mfm → Ends n mark → (a : ℕ) × MarkWithin mfm cells place mark a (suc n)
  from_end n mark l e =
      let (has, (a, p, h)) = (data_marks mfm stream n mark).0 e in (
        place + a,
        record {
          low = omega arith;
          byte = omega arith;
          high = omega arith;
          of_density = has;
          stands = shift.mark_there cells place mfm a (mark_byte mark) h;
        },
      )

  -- the cells of the window are counted from 1
  counted : (mark : DataMark) (a cell : ℕ) → MarkWithin mfm cells place mark a cell → cell ≡ suc (cell - 1)
  counted mark a cell w = omega (arith, w.low, w.byte)

  ended : (mark : DataMark) (a cell : ℕ) → MarkWithin mfm cells place mark a cell → Ends (cell - 1) mark
  ended mark a cell w = to_end mark a (cell - 1) (rw (counted mark a cell w) at w)

  first_of : (n : ℕ) (mark : DataMark) → First Ends 0 (window_of mfm) n mark
      → (a : ℕ) × FirstMark mfm cells place mark a (suc n)
  first_of n mark f =
      let w = from_end n mark (omega (arith, f.high)) f.ends in
      (w.0, record { within = w.1; first = earlier })
    where
      earlier : (other : DataMark) (b at : ℕ) → at < suc n → MarkWithin mfm cells place other b at → ⊥
      earlier other b at l v =
          f.before (at - 1) (omega arith) (omega (arith, counted other b at v)) other (ended other b at v)

  of_first : (mark : DataMark) (a cell : ℕ) → FirstMark mfm cells place mark a cell
      → First Ends 0 (window_of mfm) (cell - 1) mark
  of_first mark a cell f =
      let q : cell ≡ suc (cell - 1) = counted mark a cell f.within in
      let high : cell ≤ window_of mfm = f.within.high in
      record {
        low = omega arith;
        high = omega arith;
        ends = ended mark a cell f.within;
        before =
            λ u l h other e.
            let b = from_end u other (omega arith) e in
            f.first other b.0 (suc u) (omega arith) b.1;
      }

  single : (u : ℕ) (x y : DataMark) → Ends u x → Ends u y → x ≡ y
  single u x y p q = cc

  -- "Only the first data mark in the window is the ID's data mark"
  pub mark_behind_lem : (mark : DataMark) (cell : ℕ)
      → (mark_behind mfm row place ≡ Some (marked_at mark cell)) ↔ ((a : ℕ) × FirstMark mfm cells place mark a cell)
  mark_behind_lem mark cell = (there, back)
    where
      there : mark_behind mfm row place ≡ Some (marked_at mark cell) → (a : ℕ) × FirstMark mfm cells place mark a cell
      there e =
          let v = by_verdict (Some (marked_at mark cell)) e in
          rw v.1 (first_of v.0 mark v.2)

      back : (a : ℕ) × FirstMark mfm cells place mark a cell → mark_behind mfm row place ≡ Some (marked_at mark cell)
      back (a, f) = by (mark_behind mfm row place) refl
        where
          g : First Ends 0 (window_of mfm) (cell - 1) mark
          g = of_first mark a cell f

          by : (r : Option Marked) → mark_behind mfm row place ≡ r → mark_behind mfm row place ≡ Some (marked_at mark cell)
          by None e = absurd (by_verdict None e (cell - 1) g.low g.high mark g.ends)
          by (Some other) e =
              let v = by_verdict (Some other) e in
              let s = once Ends single 0 (window_of mfm) v.0 (cell - 1) other.mark mark v.2 g in
              e ∙ ap₂ (λ (m : DataMark) (c : ℕ). Some (marked_at m c)) s.1 (v.1 ∙ ap suc s.0 ∙ sym (counted mark a cell f.within))

  -- no data mark stands in the window
  abbrev pub Unmarked : Type 0
  Unmarked = (mark : DataMark) (a cell : ℕ) → MarkWithin mfm cells place mark a cell → ⊥

  pub no_mark : (mark_behind mfm row place ≡ None) ↔ Unmarked
  no_mark = (there, back)
    where
      there : mark_behind mfm row place ≡ None → Unmarked
      there e mark a cell w =
          let high : cell ≤ window_of mfm = w.high in
          by_verdict None e (cell - 1) (omega arith) (omega (arith, counted mark a cell w)) mark (ended mark a cell w)

      back : Unmarked → mark_behind mfm row place ≡ None
      back none = by (mark_behind mfm row place) refl
        where
          by : (r : Option Marked) → mark_behind mfm row place ≡ r → mark_behind mfm row place ≡ None
          by None e = e
          by (Some marked) e = let r = (mark_behind_lem marked.mark marked.cell).0 e in absurd (none marked.mark r.0 marked.cell r.1.within)

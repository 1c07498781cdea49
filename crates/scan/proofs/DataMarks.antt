-- The scanner for data marks says that one ends at a cell, and which, exactly when the density has that mark and the 1 (FM) or 4 (MFM)
-- cells that passed last, all since the scan began, are it. Assumes nothing.
use mathlib.Core.Path.{◌≡◌, refl, sym, ap, ◌∙◌}
use mathlib.Core.Bool.{Bool, true, false, cond}
use mathlib.Core.Logic.{◌↔◌}
use Prim.Native.Nat.{ℕ, zero, suc, ◌≤◌, ◌<◌}
use native.Mathlib.Omega.{arith}
use lib.Dec.{eqb}
use borrow.Author.Tests.{eqb-true}
use Rattle.common.proofs.Cases.{by_cond, never}
use Rattle.scan.specs.declared.Passed.{Passed}
use Rattle.scan.specs.declared.Passed.TheVariants.{Gap, Mark}
use Rattle.scan.specs.declared.DataMark.{DataMark}
use Rattle.scan.specs.declared.DataMark.TheVariants.{Fb, F8, F9, Fa}
use Rattle.scan.specs.declared.Sought.{Sought}
use Rattle.scan.specs.declared.Sought.TheVariants.{On, Met}
use Rattle.scan.specs.Marks.{mark_step}
use Rattle.scan.specs.DataMarks.{mark_byte, density_has, met_in, data_mark_of, data_mark_in, data_mark_step, longest_window, window_of}
use Rattle.scan.specs.Streams.{MarkEnds, run_past, run_after, passed_at, sought_past, sought_after, sought_at}
use Rattle.scan.proofs.Marks.{marks}

pub window_most : (mfm : Bool) → window_of mfm ≤ longest_window
unfolding window_of
window_most true = omega arith
window_most false = omega arith

-- what holds of the answer to each of the four bytes, and of the answer to any other, holds of the answer to a byte
by_byte :
    (P : Sought → Type 0) (mfm : Bool) (b : ℕ)
    → ((mark : DataMark) → b ≡ mark_byte mark → P (met_in mfm mark))
    → P (On 0)
    → P (data_mark_of mfm b)
unfolding data_mark_of mark_byte
by_byte P mfm b named other =
    by_cond P (eqb b 0xFB) (λ e. named Fb (eqb-true b 0xFB e))
    (λ e.
    by_cond P (eqb b 0xF8) (λ e. named F8 (eqb-true b 0xF8 e))
    (λ e.
    by_cond P (eqb b 0xF9) (λ e. named F9 (eqb-true b 0xF9 e))
    (λ e. by_cond P (eqb b 0xFA) (λ e. named Fa (eqb-true b 0xFA e)) (λ e. other))))

-- a mark ends the row of flagged A1 cells, a data mark or any other
past : (mfm : Bool) (p : Passed) → sought_past (data_mark_in mfm p) ≡ run_past p
unfolding sought_past data_mark_in run_past
past mfm (Gap run) = refl
past mfm (Mark b) = by_byte Past mfm b (λ mark e. by_cond Past (density_has mfm mark) (λ h. refl) (λ h. refl)) refl
  where
    Past : Sought → Type 0
    Past s = sought_past s ≡ 0

-- so the scanner for data marks counts them as the scanner for marks does
pub data_run : (mfm : Bool) (cell run : ℕ) → sought_past (data_mark_step mfm cell run) ≡ run_past (mark_step mfm cell run)
unfolding data_mark_step
data_run mfm cell run = past mfm (mark_step mfm cell run)

pub same_run : (mfm : Bool) (cells : ℕ → ℕ) (n : ℕ) → sought_after mfm cells n ≡ run_after mfm cells n
unfolding sought_after run_after
same_run mfm cells zero = refl
same_run mfm cells (suc n) =
    ap (λ (run : ℕ). sought_past (data_mark_step mfm (cells n) run)) (same_run mfm cells n)
    ∙ data_run mfm (cells n) (run_after mfm cells n)

-- which byte it was, and that the density has the mark
named : (mfm : Bool) (b : ℕ) (mark : DataMark) → data_mark_of mfm b ≡ Met mark → (density_has mfm mark ≡ true) × (b ≡ mark_byte mark)
named mfm b mark = by_byte Named mfm b met_as (λ e. never (cc))
  where
    Named : Sought → Type 0
    Named s = s ≡ Met mark → (density_has mfm mark ≡ true) × (b ≡ mark_byte mark)

    met_as : (other : DataMark) → b ≡ mark_byte other → Named (met_in mfm other)
    met_as other byte =
        by_cond Named (density_has mfm other)
        (λ has e. let same : mark ≡ other = cc in (rw same has, rw same byte))
        (λ lacks e. never (cc))

met : (mfm : Bool) (mark : DataMark) → data_mark_of mfm (mark_byte mark) ≡ met_in mfm mark
unfolding data_mark_of mark_byte
met mfm Fb = refl
met mfm F8 = refl
met mfm F9 = refl
met mfm Fa = refl

met_had : (mfm : Bool) (mark : DataMark) → density_has mfm mark ≡ true → data_mark_of mfm (mark_byte mark) ≡ Met mark
met_had mfm mark has = met mfm mark ∙ ap (λ (b : Bool). cond b (Met mark) (On 0)) has

-- their bytes are F8 to FB
pub mark_byte_lem : (mark : DataMark) → (0xF8 ≤ mark_byte mark) × (mark_byte mark < 0xFE)
unfolding mark_byte
mark_byte_lem Fb = (omega arith, omega arith)
mark_byte_lem F8 = (omega arith, omega arith)
mark_byte_lem F9 = (omega arith, omega arith)
mark_byte_lem Fa = (omega arith, omega arith)

-- FM has all four
pub fm_has : (mark : DataMark) → density_has false mark ≡ true
unfolding density_has
fm_has Fb = refl
fm_has F8 = refl
fm_has F9 = refl
fm_has Fa = refl

-- and no two of them have one byte
pub one_byte : (mark other : DataMark) → mark_byte mark ≡ mark_byte other → mark ≡ other
one_byte mark other e =
    let both : Met mark ≡ Met other =
    sym (met_had false mark (fm_has mark)) ∙ ap (data_mark_of false) e ∙ met_had false other (fm_has other) in
    cc

-- "Data marks are FB (normal) and F8 (deleted)."; "In FM only, flagged F9 and FA become data marks"
pub data_marks :
    (mfm : Bool) (cells : ℕ → ℕ) (n : ℕ) (mark : DataMark)
    → (sought_at mfm cells n ≡ Met mark) ↔ ((density_has mfm mark ≡ true) × MarkEnds mfm cells n (mark_byte mark))
unfolding data_mark_step data_mark_in
data_marks mfm cells n mark = (there, back)
  where
    same : sought_at mfm cells n ≡ data_mark_in mfm (passed_at mfm cells n)
    same = ap (λ (run : ℕ). data_mark_in mfm (mark_step mfm (cells n) run)) (same_run mfm cells n)

    by :
        (p : Passed)
        → passed_at mfm cells n ≡ p
        → data_mark_in mfm p ≡ Met mark
        → (density_has mfm mark ≡ true) × MarkEnds mfm cells n (mark_byte mark)
    by (Gap run) q e = never (cc)
    by (Mark b) q e =
        let (has, byte) = named mfm b mark e in
        (has, (marks mfm cells n (mark_byte mark)).0 (q ∙ ap Mark byte))

    there : sought_at mfm cells n ≡ Met mark → (density_has mfm mark ≡ true) × MarkEnds mfm cells n (mark_byte mark)
    there e = by (passed_at mfm cells n) refl (sym same ∙ e)

    back : (density_has mfm mark ≡ true) × MarkEnds mfm cells n (mark_byte mark) → sought_at mfm cells n ≡ Met mark
    back (has, h) = same ∙ ap (data_mark_in mfm) ((marks mfm cells n (mark_byte mark)).1 h) ∙ met_had mfm mark has

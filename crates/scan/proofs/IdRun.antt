-- The scanner for IDs counts the row of flagged A1 cells as the scanner for marks does. Assumes nothing.
use mathlib.Core.Path.{◌≡◌, refl, sym, ap, ◌∙◌}
use mathlib.Core.Bool.{Bool, true, ◌&&◌}
use Prim.Native.Nat.{ℕ, zero, suc}
use native.Mathlib.Omega.{arith}
use lib.Dec.{ltb, leb, eqb}
use borrow.Author.Tests.{ltb-true, ne_eqb}
use Rattle.scan.specs.declared.Passed.{Passed}
use Rattle.scan.specs.declared.Passed.TheVariants.{Mark}
use Rattle.scan.specs.declared.Part.{Part}
use Rattle.scan.specs.declared.Scan.{Scan}
use Rattle.scan.specs.declared.Scan.TheVariants.{Gap, Field}
use Rattle.scan.specs.Marks.{byte_of, unflagged, sync, lead_of, carries_mark, sync_run, mark_step}
use Rattle.scan.specs.Ids.{id_begun, id_byte_step, run_in, id_cell_step, id_mark_step, id_step}
use Rattle.scan.specs.Streams.{run_past, run_after, scan_past, scan_after}
use Rattle.common.proofs.Cases.{by_cond, never}

pub unflagged_run : (cell run : ℕ) → unflagged cell ≡ true → sync_run cell run ≡ 0
unfolding sync_run
unflagged_run cell run h = simp (ne_eqb cell sync (omega (arith, ltb-true cell 256 h)))

gap_run : (mfm : Bool) (cell before run : ℕ) → mark_step mfm cell before ≡ Passed.Gap run → sync_run cell before ≡ run
unfolding mark_step
gap_run mfm cell before run =
    by_cond (λ p. p ≡ Passed.Gap run → sync_run cell before ≡ run) (leb (lead_of mfm) before && carries_mark mfm cell)
    (λ e p. never (cc))
    (λ e p. cc)

added_run : (p : Part) (b : ℕ) → run_in (scan_past (id_byte_step p b)) ≡ 0
unfolding id_byte_step scan_past run_in
added_run p b = by_cond (λ h. run_in (scan_past h) ≡ 0) (ltb p.passed 5) (λ e. refl) (λ e. refl)

grown_run :
    (cell before run : ℕ) → sync_run cell before ≡ run → (scan : Scan) → run_in (scan_past (id_cell_step cell run scan)) ≡ run
unfolding id_cell_step scan_past run_in
grown_run cell before run e (Gap r) = refl
grown_run cell before run e (Field p) =
    by_cond (λ h. run_in (scan_past h) ≡ run) (unflagged cell)
    (λ low. added_run p (byte_of cell) ∙ sym (unflagged_run cell before low) ∙ e)
    (λ high. refl)

begun_run : (mfm : Bool) (b : ℕ) → run_in (id_begun mfm b) ≡ 0
unfolding id_begun run_in
begun_run mfm b = by_cond (λ s. run_in s ≡ 0) (eqb b 0xFE) (λ e. refl) (λ e. refl)

looked_run : (mfm : Bool) (cell : ℕ) (scan : Scan) → run_in (scan_past (id_step mfm cell scan)) ≡ run_past (mark_step mfm cell (run_in scan))
unfolding id_step id_mark_step run_past scan_past
looked_run mfm cell scan = by (mark_step mfm cell (run_in scan)) refl
  where
    by :
        (p : Passed)
        → mark_step mfm cell (run_in scan) ≡ p
        → run_in (scan_past (id_mark_step mfm cell scan p)) ≡ run_past p
    by (Passed.Gap run) e = grown_run cell (run_in scan) run (gap_run mfm cell (run_in scan) run e) scan
    by (Mark b) e = begun_run mfm b

pub run_in_lem : (mfm : Bool) (cells : ℕ → ℕ) (n : ℕ) → run_in (scan_after mfm cells n) ≡ run_after mfm cells n
unfolding scan_after run_after run_in
run_in_lem mfm cells zero = refl
run_in_lem mfm cells (suc n) =
    looked_run mfm (cells n) (scan_after mfm cells n)
    ∙ ap (λ (run : ℕ). run_past (mark_step mfm (cells n) run)) (run_in_lem mfm cells n)

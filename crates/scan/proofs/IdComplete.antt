-- An ID that passes is heard, whatever the scanner was in before. Assumes nothing.
use mathlib.Core.Path.{◌≡◌, refl, sym, ap, ◌∙◌}
use mathlib.Core.Bool.{Bool, true, false}
use Prim.Native.Nat.{ℕ, zero, suc, ◌+◌, ◌/◌, ◌≤◌, ◌<◌}
use native.Mathlib.Nat.{add-zero, add-suc}
use native.Mathlib.Omega.{arith}
use borrow.Author.Tests.{lt-ltb, le-ltb, ne_eqb}
use Rattle.scan.specs.declared.Passed.{Passed}
use Rattle.scan.specs.declared.Id.{Id}
use Rattle.scan.specs.declared.Part.{Part}
use Rattle.scan.specs.declared.Scan.TheVariants.{Field}
use Rattle.scan.specs.declared.Heard.TheVariants.{Whole}
use Rattle.scan.specs.Marks.{byte_of, lead_of, carries_mark, mark_step}
use Rattle.scan.specs.Ids.{id_begun, id_byte_step, run_in, id_cell_step, id_mark_step, id_step}
use Rattle.scan.specs.Streams.{MarkEnds, behind, IdAt, scan_past, scan_after, heard_at, IdEnds}
use Rattle.scan.proofs.Marks.{marks}
use Rattle.scan.proofs.IdRun.{unflagged_run, run_in_lem}
use Rattle.scan.proofs.IdParts.{gathered, gathered_passed, whole}

-- an unflagged cell ends no mark after no flagged A1
pub plain_gap : (mfm : Bool) (cell : ℕ) → cell < 256 → mark_step mfm cell 0 ≡ Passed.Gap 0
unfolding mark_step lead_of carries_mark
plain_gap false cell h =
    simp (ne_eqb (cell / 256) 1 (omega arith)) (ap Passed.Gap (unflagged_run cell 0 (lt-ltb cell 256 h)))
plain_gap true cell h = ap Passed.Gap (unflagged_run cell 0 (lt-ltb cell 256 h))

-- what the scanner says within an ID
in_field : (mfm : Bool) (cell : ℕ) (p : Part) → cell < 256 → id_step mfm cell (Field p) ≡ id_byte_step p (byte_of cell)
unfolding id_step id_mark_step id_cell_step run_in
in_field mfm cell p h = rw (plain_gap mfm cell h) (simp (lt-ltb cell 256 h))

-- a mark FE begins an ID, whatever the scanner was in
begins : (mfm : Bool) (cells : ℕ → ℕ) (n : ℕ) → MarkEnds mfm cells n 0xFE → (p : ℕ) → scan_after mfm cells (suc n) ≡ Field (gathered mfm cells p 0)
unfolding scan_after id_step id_mark_step scan_past id_begun gathered
begins mfm cells n h p = rw (run_in_lem mfm cells n, (marks mfm cells n 0xFE).1 h)

-- and its cells are gathered
gathers :
    (mfm : Bool) (cells : ℕ → ℕ) (a : ℕ)
    → IdAt mfm cells a
    → (j : ℕ)
    → j ≤ 5
    → scan_after mfm cells (behind mfm a + j) ≡ Field (gathered mfm cells (behind mfm a) j)
unfolding scan_after scan_past gathered id_byte_step
gathers mfm cells a h zero l =
    rw (add-zero (behind mfm a)) (begins mfm cells (a + lead_of mfm) (a, refl, h.mark) (behind mfm a))
gathers mfm cells a h (suc j) l =
    rw (add-suc (behind mfm a) j, gathers mfm cells a h j (omega arith))
    (rw (in_field mfm (cells (behind mfm a + j)) (gathered mfm cells (behind mfm a) j) (h.plain j (omega arith)))
    (simp (lt-ltb (gathered mfm cells (behind mfm a) j).passed 5 (omega (arith, gathered_passed mfm cells (behind mfm a) j)))))

pub complete : (mfm : Bool) (cells : ℕ → ℕ) (n : ℕ) (id : Id) → IdEnds mfm cells n id → heard_at mfm cells n ≡ Whole id
unfolding id_byte_step
complete mfm cells n id (a, e, h, says) =
    let last : n ≡ behind mfm a + 5 = omega arith in
    rw (last, gathers mfm cells a h 5 (omega arith))
    (rw (in_field mfm (cells (behind mfm a + 5)) (gathered mfm cells (behind mfm a) 5) (h.plain 5 (omega arith)))
    (simp (le-ltb (gathered mfm cells (behind mfm a) 5).passed 5 (omega (arith, gathered_passed mfm cells (behind mfm a) 5)))
    (ap Whole (whole mfm cells a h ∙ sym says))))

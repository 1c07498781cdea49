-- What the scanner for IDs holds has passed, so a whole ID that it says ends here does. Assumes nothing.
use mathlib.Core.Path.{◌≡◌, refl, sym, ap, ap₂, ◌∙◌}
use mathlib.Core.Bool.{Bool, true}
use Prim.Native.Nat.{ℕ, zero, suc, ◌+◌, ◌≤◌, ◌<◌}
use native.Mathlib.Numerals.{add-one}
use native.Mathlib.Decide.{dec_lt}
use native.Mathlib.Omega.{arith}
use lib.Dec.{ltb, eqb}
use borrow.Author.Tests.{ltb-true, ltb-false, eqb-true}
use Rattle.scan.specs.declared.Passed.{Passed}
use Rattle.scan.specs.declared.Passed.TheVariants.{Mark}
use Rattle.scan.specs.declared.Id.{Id}
use Rattle.scan.specs.declared.Part.{Part}
use Rattle.scan.specs.declared.Scan.{Scan}
use Rattle.scan.specs.declared.Scan.TheVariants.{Gap, Field}
use Rattle.scan.specs.declared.Heard.TheVariants.{Whole}
use Rattle.scan.specs.Marks.{byte_of, unflagged, mark_step}
use Rattle.scan.specs.Ids.{id_begun, pushed_of, whole_of, id_byte_step, run_in, id_cell_step, id_mark_step, id_step}
use Rattle.scan.specs.Streams.{MarkAt, MarkEnds, behind, IdAt, id_from, passed_at, scan_past, scan_after, heard_at, IdEnds}
use Rattle.scan.proofs.Marks.{marks}
use Rattle.common.proofs.Cases.{by_cond, never}
use Rattle.scan.proofs.IdRun.{run_in_lem}
use Rattle.scan.proofs.IdParts.{gathered, whole}

record Begun (mfm : Bool) (cells : ℕ → ℕ) (n : ℕ) (p : Part) : Type 0 where
  a : ℕ
  mark : MarkAt mfm cells a 0xFE
  place : behind mfm a + p.passed ≡ n
  most : p.passed ≤ 5
  plain : (i : ℕ) → i < p.passed → cells (behind mfm a + i) < 256
  holds : p ≡ gathered mfm cells (behind mfm a) p.passed

abbrev Held : Bool → (ℕ → ℕ) → ℕ → Scan → Type 0
Held mfm cells n (Gap run) = Unit {0}
Held mfm cells n (Field p) = Begun mfm cells n p

-- one plain cell more than p
more_plain :
    (cells : ℕ → ℕ) (p j n : ℕ)
    → p + j ≡ n
    → cells n < 256
    → ((i : ℕ) → i < j → cells (p + i) < 256)
    → (i : ℕ)
    → i < suc j
    → cells (p + i) < 256
more_plain cells p j n e l h i k = by (dec_lt i j)
  where
    by : Dec (i < j) → cells (p + i) < 256
    by (yes m) = h i m
    by (no m) = let q : n ≡ p + i = omega arith in rw (sym q) l

pushed_held :
    (mfm : Bool) (cells : ℕ → ℕ) (n : ℕ) (p : Part)
    → Begun mfm cells n p
    → unflagged (cells n) ≡ true
    → p.passed < 5
    → Begun mfm cells (suc n) (pushed_of p (byte_of (cells n)))
unfolding pushed_of gathered
pushed_held mfm cells n p v low l =
    record {
      a = v.a;
      mark = v.mark;
      place = omega (arith, v.place);
      most = omega arith;
      plain =
          λ i k. more_plain cells (behind mfm v.a) p.passed n v.place (ltb-true _ _ low) v.plain i (omega arith);
      holds =
          ap₂ pushed_of v.holds (ap (λ (x : ℕ). byte_of (cells x)) (sym v.place))
          ∙ ap (gathered mfm cells (behind mfm v.a)) (sym (add-one p.passed));
    }

added_held :
    (mfm : Bool) (cells : ℕ → ℕ) (n : ℕ) (p : Part)
    → Begun mfm cells n p
    → unflagged (cells n) ≡ true
    → Held mfm cells (suc n) (scan_past (id_byte_step p (byte_of (cells n))))
unfolding id_byte_step scan_past
added_held mfm cells n p v low =
    by_cond (λ h. Held mfm cells (suc n) (scan_past h)) (ltb p.passed 5)
    (λ e. pushed_held mfm cells n p v low (ltb-true _ _ e))
    (λ e. tt)

grown_held :
    (mfm : Bool) (cells : ℕ → ℕ) (n run : ℕ) (scan : Scan)
    → Held mfm cells n scan
    → Held mfm cells (suc n) (scan_past (id_cell_step (cells n) run scan))
unfolding id_cell_step scan_past
grown_held mfm cells n run (Gap r) v = tt
grown_held mfm cells n run (Field p) v =
    by_cond (λ h. Held mfm cells (suc n) (scan_past h)) (unflagged (cells n))
    (λ e. added_held mfm cells n p v e)
    (λ e. tt)

begun_held : (mfm : Bool) (cells : ℕ → ℕ) (n b : ℕ) → MarkEnds mfm cells n b → Held mfm cells (suc n) (id_begun mfm b)
unfolding id_begun gathered
begun_held mfm cells n b (a, e, h) =
    by_cond (Held mfm cells (suc n)) (eqb b 0xFE)
    (λ q.
    record {
      a = a;
      mark = rw (eqb-true b 0xFE q) at h;
      place = omega arith;
      most = omega arith;
      plain = λ i k. absurd (omega arith);
      holds = refl;
    })
    (λ q. tt)

heard_held :
    (mfm : Bool) (cells : ℕ → ℕ) (n : ℕ)
    → Held mfm cells n (scan_after mfm cells n)
    → Held mfm cells (suc n) (scan_past (heard_at mfm cells n))
unfolding id_step id_mark_step scan_past
heard_held mfm cells n v = rw (run_in_lem mfm cells n) (by (passed_at mfm cells n) refl)
  where
    by :
        (p : Passed)
        → passed_at mfm cells n ≡ p
        → Held mfm cells (suc n) (scan_past (id_mark_step mfm (cells n) (scan_after mfm cells n) p))
    by (Passed.Gap run) e = grown_held mfm cells n run (scan_after mfm cells n) v
    by (Mark b) e = begun_held mfm cells n b ((marks mfm cells n b).0 e)

held : (mfm : Bool) (cells : ℕ → ℕ) (n : ℕ) → Held mfm cells n (scan_after mfm cells n)
unfolding scan_after
held mfm cells zero = tt
held mfm cells (suc n) = heard_held mfm cells n (held mfm cells n)

added_whole :
    (mfm : Bool) (cells : ℕ → ℕ) (n : ℕ) (p : Part) (id : Id)
    → Begun mfm cells n p
    → unflagged (cells n) ≡ true
    → id_byte_step p (byte_of (cells n)) ≡ Whole id
    → IdEnds mfm cells n id
unfolding id_byte_step
added_whole mfm cells n p id v low =
    by_cond (λ h. h ≡ Whole id → IdEnds mfm cells n id) (ltb p.passed 5)
    (λ e q. never (cc))
    (λ e q.
    let five : p.passed ≡ 5 = omega (arith, ltb-false, v.most) in
    let last : behind mfm v.a + 5 ≡ n = rw (sym five) v.place in
    let h : IdAt mfm cells v.a =
    record {
      mark = v.mark;
      plain =
          λ i k. more_plain cells (behind mfm v.a) 5 n last (ltb-true _ _ low) (rw five at v.plain) i k;
    } in
    let says : whole_of p (byte_of (cells n)) ≡ id_from mfm cells v.a =
    ap₂ whole_of (v.holds ∙ ap (gathered mfm cells (behind mfm v.a)) five)
    (ap (λ (x : ℕ). byte_of (cells x)) (sym last))
    ∙ whole mfm cells v.a h in
    let same : whole_of p (byte_of (cells n)) ≡ id = cc in
    (v.a, omega arith, h, sym same ∙ says))

grown_whole :
    (mfm : Bool) (cells : ℕ → ℕ) (n run : ℕ) (id : Id) (scan : Scan)
    → Held mfm cells n scan
    → id_cell_step (cells n) run scan ≡ Whole id
    → IdEnds mfm cells n id
unfolding id_cell_step
grown_whole mfm cells n run id (Gap r) v = λ q. never (cc)
grown_whole mfm cells n run id (Field p) v =
    by_cond (λ h. h ≡ Whole id → IdEnds mfm cells n id) (unflagged (cells n))
    (λ e q. added_whole mfm cells n p id v e q)
    (λ e q. never (cc))

pub sound : (mfm : Bool) (cells : ℕ → ℕ) (n : ℕ) (id : Id) → heard_at mfm cells n ≡ Whole id → IdEnds mfm cells n id
unfolding id_step id_mark_step
sound mfm cells n id = by (mark_step mfm (cells n) (run_in (scan_after mfm cells n)))
  where
    by :
        (p : Passed)
        → id_mark_step mfm (cells n) (scan_after mfm cells n) p ≡ Whole id
        → IdEnds mfm cells n id
    by (Passed.Gap run) q = grown_whole mfm cells n run id (scan_after mfm cells n) (held mfm cells n) q
    by (Mark b) q = never (cc)

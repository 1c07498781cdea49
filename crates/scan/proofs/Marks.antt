-- The scanner for marks says that a mark ends at a cell exactly when the 1 (FM) or 4 (MFM) cells that passed last, all since
-- the scan began, are one. Assumes nothing.
use mathlib.Core.Path.{◌≡◌, refl, sym, ap, ◌∙◌}
use mathlib.Core.Bool.{Bool, true, false, cond, ◌&&◌}
use mathlib.Core.Logic.{◌↔◌}
use Prim.Native.Nat.{ℕ, zero, suc, ◌+◌, ◌/◌, ◌%◌, ◌≤◌, ◌<◌}
use native.Mathlib.Nat.{add-zero, mod-eq_of_lt}
use native.Mathlib.Decide.{dec_lt}
use native.Mathlib.Omega.{arith}
use lib.Dec.{ltb, leb, eqb}
use borrow.Author.Tests.{ltb-true, ltb-false, leb-true, eqb-true, eqb-false, lt-ltb, le-leb, eq-eqb, ne_eqb}
use Rattle.common.proofs.Cases.{by_cond, never, both}
use Rattle.scan.specs.declared.Passed.TheVariants.{Mark}
use Rattle.scan.specs.Marks.{byte_of, unflagged, sync, syncs, lead_of, carries_mark, sync_run, mark_step}
use Rattle.scan.specs.Streams.{MarkAt, MarkEnds, run_past, run_after, passed_at}

pub lead_most : (mfm : Bool) → lead_of mfm ≤ syncs
unfolding lead_of
lead_most true = omega arith
lead_most false = omega arith

-- the j cells from a on are flagged A1s
abbrev Syncs : (ℕ → ℕ) → ℕ → ℕ → Type 0
Syncs cells a j = (i : ℕ) → i < j → cells (a + i) ≡ sync

-- MFM: r is how many flagged A1 cells stand last in a row after n cells, at most three
record Run (cells : ℕ → ℕ) (n r : ℕ) : Type 0 where
  a : ℕ
  place : a + r ≡ n
  most : r ≤ 3
  are : Syncs cells a r
  longest : (b j : ℕ) → b + j ≡ n → j ≤ 3 → Syncs cells b j → j ≤ r

-- in MFM a mark's byte is no flagged A1, so it ends the row as any other cell does
run_past_lem : (cell run : ℕ) → run_past (mark_step true cell run) ≡ sync_run cell run
unfolding mark_step run_past carries_mark sync_run
run_past_lem cell run =
    by_cond (λ p. run_past p ≡ sync_run cell run) (leb (lead_of true) run && unflagged cell)
    (λ e.
    let low : cell < 256 = ltb-true cell 256 (both (leb (lead_of true) run) (unflagged cell) e).1 in
    sym (simp (ne_eqb cell sync (omega arith))))
    (λ e. refl)

no_run : (cells : ℕ → ℕ) (n : ℕ) → (cells n ≡ sync → ⊥) → Run cells (suc n) 0
no_run cells n other =
    record {
      a = suc n;
      place = add-zero (suc n);
      most = omega arith;
      are = λ i h. absurd (omega arith);
      longest = none;
    }
  where
    none : (b j : ℕ) → b + j ≡ suc n → j ≤ 3 → Syncs cells b j → j ≤ 0
    none b zero e h s = omega arith
    none b (suc j) e h s =
        let q : b + j ≡ n = omega arith in
        absurd (other (ap cells (sym q) ∙ s j (omega arith)))

-- one more flagged A1
longer : (cells : ℕ → ℕ) (n r : ℕ) → Run cells n r → cells n ≡ sync → Run cells (suc n) (cond (ltb r 3) (r + 1) 3)
longer cells n r v e =
    by_cond (Run cells (suc n)) (ltb r 3)
    (λ t.
    record {
      a = v.a;
      place = omega (arith, v.place);
      most = omega (arith, ltb-true);
      are = λ i h. are_more i (omega arith);
      longest = λ b j p h s. omega (arith, longest_more b j p h s);
    })
    (λ t.
    let full : r ≡ 3 = omega (arith, ltb-false, v.most) in
    record {
      a = suc v.a;
      place = omega (arith, v.place);
      most = omega arith;
      are = λ i h. ap cells (omega arith) ∙ are_more (suc i) (omega arith);
      longest = λ b j p h s. h;
    })
  where
    are_more : (i : ℕ) → i < suc r → cells (v.a + i) ≡ sync
    are_more i h = at (dec_lt i r)
      where
        at : Dec (i < r) → cells (v.a + i) ≡ sync
        at (yes l) = v.are i l
        at (no l) = ap cells (omega (arith, v.place)) ∙ e

    longest_more : (b j : ℕ) → b + j ≡ suc n → j ≤ 3 → Syncs cells b j → j ≤ suc r
    longest_more b zero p h s = omega arith
    longest_more b (suc j) p h s =
        omega (arith, v.longest b j (omega arith) (omega arith) (λ i l. s i (omega arith)))

run_step : (cells : ℕ → ℕ) (n r : ℕ) → Run cells n r → Run cells (suc n) (sync_run (cells n) r)
unfolding sync_run
run_step cells n r v =
    by_cond (Run cells (suc n)) (eqb (cells n) sync)
    (λ e. longer cells n r v (eqb-true (cells n) sync e))
    (λ e. no_run cells n (eqb-false (cells n) sync e))

run_after_lem : (cells : ℕ → ℕ) (n : ℕ) → Run cells n (run_after true cells n)
unfolding run_after
run_after_lem cells zero =
    record {
      a = 0;
      place = refl;
      most = omega arith;
      are = λ i h. absurd (omega arith);
      longest = λ b j p h s. omega arith;
    }
run_after_lem cells (suc n) =
    rw (run_past_lem (cells n) (run_after true cells n))
    (run_step cells n (run_after true cells n) (run_after_lem cells n))

-- what a mark's end asks of the cell and of those before it
pub mark_exactly :
    (mfm : Bool) (cell run b : ℕ)
    → (mark_step mfm cell run ≡ Mark b) ↔ ((lead_of mfm ≤ run) × (carries_mark mfm cell ≡ true) × (byte_of cell ≡ b))
unfolding mark_step
mark_exactly mfm cell run b = (
  by_cond
      (λ p. p ≡ Mark b → (lead_of mfm ≤ run) × (carries_mark mfm cell ≡ true) × (byte_of cell ≡ b)) (leb (lead_of mfm) run && carries_mark mfm cell)
      (λ t e.
      let h = both (leb (lead_of mfm) run) (carries_mark mfm cell) t in
      (leb-true (lead_of mfm) run h.0, h.1, cc))
      (λ t e. never (cc)),
  λ h. simp (le-leb _ _ h.0, h.1) (ap Mark h.2),
)

fm : (cells : ℕ → ℕ) (n b : ℕ) → (passed_at false cells n ≡ Mark b) ↔ MarkEnds false cells n b
unfolding MarkAt lead_of carries_mark
fm cells n b = (there, back)
  where
    there : passed_at false cells n ≡ Mark b → MarkEnds false cells n b
    there e =
        let m = (mark_exactly false (cells n) (run_after false cells n) b).0 e in
        let q : cells n / 256 ≡ 1 = eqb-true _ _ m.1 in
        let k : cells n % 256 ≡ b = m.2 in
        (n, add-zero n, (omega arith, omega arith))

    back : MarkEnds false cells n b → passed_at false cells n ≡ Mark b
    back (a, p, (h, e)) =
        let q : a ≡ n = sym (add-zero a) ∙ p in
        let k : cells n ≡ b + 256 = ap cells (sym q) ∙ e in
        (mark_exactly false (cells n) (run_after false cells n) b).1 (omega arith, eq-eqb (cells n / 256) 1 (omega arith), omega arith)

mfm : (cells : ℕ → ℕ) (n b : ℕ) → (passed_at true cells n ≡ Mark b) ↔ MarkEnds true cells n b
unfolding MarkAt lead_of carries_mark
mfm cells n b = (there, back)
  where
    v : Run cells n (run_after true cells n)
    v = run_after_lem cells n

    there : passed_at true cells n ≡ Mark b → MarkEnds true cells n b
    there e =
        let m = (mark_exactly true (cells n) (run_after true cells n) b).0 e in
        let r : run_after true cells n ≡ 3 = omega (arith, v.most, m.0) in
        let p : v.a + 3 ≡ n = rw (sym r) v.place in
        let low : cells n < 256 = ltb-true _ _ m.1 in
        let k : cells n % 256 ≡ b = m.2 in
        let s : Syncs cells v.a 3 = rw r at v.are in (
          v.a,
          p,
          (
            omega arith,
            ap cells (sym (add-zero v.a)) ∙ s 0 (omega arith),
            s 1 (omega arith),
            s 2 (omega arith),
            ap cells p ∙ omega arith,
          ),
        )

    back : MarkEnds true cells n b → passed_at true cells n ≡ Mark b
    back (a, p, (h, x, y, z, e)) =
        let k : cells n ≡ b = ap cells (sym p) ∙ e in
        let s : Syncs cells a 3 = three in
        (mark_exactly true (cells n) (run_after true cells n) b).1
        (v.longest a 3 p (omega arith) s, lt-ltb (cells n) 256 (omega arith), omega arith)
      where
        three : Syncs cells a 3
        three zero l = ap cells (add-zero a) ∙ x
        three (suc zero) l = y
        three (suc (suc zero)) l = z
        three (suc (suc (suc i))) l = absurd (omega arith)

-- "FM: a mark is one flagged cell; .. MFM: a mark is three flagged A1 cells, then an unflagged byte; .."
pub marks : (density : Bool) (cells : ℕ → ℕ) (n b : ℕ) → (passed_at density cells n ≡ Mark b) ↔ MarkEnds density cells n b
marks false = fm
marks true = mfm

-- the byte of a mark is in its last cell
pub mark_last_byte : (mfm : Bool) (cells : ℕ → ℕ) (a b : ℕ) → MarkAt mfm cells a b → byte_of (cells (a + lead_of mfm)) ≡ b
unfolding MarkAt lead_of
mark_last_byte false cells a b (low, e) = ap (λ (x : ℕ). byte_of (cells x)) (add-zero a) ∙ ap byte_of e ∙ omega arith
mark_last_byte true cells a b (low, x, y, z, e) = ap byte_of e ∙ mod-eq_of_lt low

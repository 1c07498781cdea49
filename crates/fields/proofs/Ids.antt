-- The next ID is the first that stands whole in the cells from one place up to another, and there is none exactly when none
-- does; IDs do not overlap, so whoever goes on after each one meets them all, in order. Assumes nothing.
use mathlib.Core.Path.{◌≡◌, refl, sym, ap, ap₂, ◌∙◌}
use mathlib.Core.Bool.{Bool, true, false}
use mathlib.Core.List.{List}
use mathlib.Core.Logic.{◌↔◌}
use Prim.Native.Nat.{ℕ, zero, suc, ◌+◌, ◌-◌, ◌≤◌, ◌<◌}
use native.Mathlib.Nat.{add-zero, add-suc}
use native.Mathlib.Decide.{dec_lt}
use native.Mathlib.Omega.{arith}
use Rattle.std.specs.Prelude.{Option, None, Some}
use Rattle.common.proofs.Cases.{never}
use Rattle.scan.specs.declared.Id.{Id}
use Rattle.scan.specs.declared.Heard.{Heard}
use Rattle.scan.specs.declared.Heard.TheVariants.{On, Whole}
use Rattle.scan.specs.Marks.{lead_of}
use Rattle.scan.specs.Streams.{MarkAt, behind, IdAt, id_from, id_width, scan_past, scan_after, heard_at}
use Rattle.scan.proofs.Ids.{ids}
use Rattle.fields.specs.declared.Found.{Found}
use Rattle.fields.specs.Rings.{cells_of}
use Rattle.fields.specs.Ids.{found_at, found_by, heard_in, next_id}
use Rattle.fields.specs.Rounds.{IdWithin, FirstId}
use Rattle.fields.proofs.First.{NoneEnds, First, none_of_none, here, none_later, first_later, once}
use Rattle.fields.proofs.Shift as shift

-- ---- the scanner, from a place on

module _ (mfm : Bool) (row : List ℕ) (from : ℕ) where
  abbrev stream : ℕ → ℕ
  stream = shift.from (cells_of row) from

  -- an ID ends at the cell, as the scanner says
  abbrev Ends : ℕ → Id → Type 0
  Ends n id = heard_at mfm stream n ≡ Whole id

  -- what is found in the k cells from cell n on
  abbrev Verdict : ℕ → ℕ → Option Found → Type 0
  Verdict n k None = NoneEnds Ends n k
  Verdict n k (Some found) = (m : ℕ) × (found.behind ≡ suc (from + m)) × First Ends n k m found.id

  later : (n k : ℕ) → ((id : Id) → Ends n id → ⊥) → (f : Option Found) → Verdict (suc n) k f → Verdict n (suc k) f
  later n k nothing None v = none_later Ends n k nothing v
  later n k nothing (Some found) (m, e, v) = (m, e, first_later Ends n k nothing m found.id v)

  abbrev heard_from : ℕ → ℕ → Option Found
  heard_from k n = heard_in mfm row k (from + n) (scan_after mfm stream n)

  step : (k n : ℕ) → Verdict (suc n) k (heard_from k (suc n)) → (h : Heard) → heard_at mfm stream n ≡ h
      → Verdict n (suc k) (found_by h (suc (from + n)) (λ s. heard_in mfm row k (suc (from + n)) s))
  unfolding found_by scan_after scan_past
  step k n v (On s) e =
      let w : Verdict (suc n) k (heard_in mfm row k (suc (from + n)) s) = rw (add-suc from n, e) at v in
      later n k (λ id q. never (cc)) (heard_in mfm row k (suc (from + n)) s) w
  step k n v (Whole id) e = (n, refl, here Ends n k id e)

  verdict : (k n : ℕ) → Verdict n k (heard_from k n)
  unfolding heard_in
  verdict zero n = none_of_none Ends n
  verdict (suc k) n = step k n (verdict k (suc n)) (heard_at mfm stream n) refl

  found : (to : ℕ) → Verdict 0 (to - from) (next_id mfm row from to)
  unfolding next_id scan_after
  found to = rw add-zero at (verdict (to - from) 0)

-- ---- the IDs of the ring

module _ (mfm : Bool) (row : List ℕ) (from to : ℕ) where
  abbrev cells : ℕ → ℕ
  cells = cells_of row

  abbrev Stops : ℕ → Id → Type 0
  Stops = Ends mfm row from

  -- an ID of the ring ends where the scanner says so, and conversely
  to_end : (a n : ℕ) → from + suc n ≡ a + id_width mfm → IdWithin mfm cells from to a → Stops n (id_from mfm cells a)
  to_end a n e w =
      let q : from + (a - from) ≡ a = omega (arith, w.low) in
      let h : IdAt mfm cells (from + (a - from)) = rw q w.stands in
      (ids mfm (stream mfm row from) n (id_from mfm cells a)).1 (
        a - from,
        omega arith,
        shift.id_back cells from mfm (a - from) h,
        sym (shift.id_same cells from mfm (a - from) ∙ ap (id_from mfm cells) q),
      )

  from_end : (n : ℕ) (id : Id) → n < to - from → Stops n id
      → (a : ℕ) × (a + id_width mfm ≡ suc (from + n)) × IdWithin mfm cells from to a × (id ≡ id_from mfm cells a)
  from_end n id l e =
      let (a, p, h, says) = (ids mfm (stream mfm row from) n id).0 e in (
        from + a,
        omega arith,
        record { low = omega arith; high = omega arith; stands = shift.id_there cells from mfm a h },
        says ∙ shift.id_same cells from mfm a,
      )

  first_of : (n : ℕ) (id : Id) → First Stops 0 (to - from) n id
      → (a : ℕ) × (a + id_width mfm ≡ suc (from + n)) × FirstId mfm cells from to a id
  first_of n id f = (a, p, record { within = w; says = says; first = earlier })
    where
      one : (a : ℕ) × (a + id_width mfm ≡ suc (from + n)) × IdWithin mfm cells from to a × (id ≡ id_from mfm cells a)
      one = from_end n id (omega (arith, f.high)) f.ends

      a : ℕ
      a = one.0

      p : a + id_width mfm ≡ suc (from + n)
      p = one.1

      w : IdWithin mfm cells from to a
      w = one.2

      says : id ≡ id_from mfm cells a
      says = one.3

      earlier : (b : ℕ) → b < a → IdWithin mfm cells from to b → ⊥
      earlier b l v =
          let low : from ≤ b = v.low in
          let u = b + id_width mfm - from - 1 in
          let q : from + suc u ≡ b + id_width mfm = omega arith in
          f.before u (omega arith) (omega (arith, p)) (id_from mfm cells b) (to_end b u q v)

  of_first : (a : ℕ) (id : Id) → FirstId mfm cells from to a id
      → (n : ℕ) × (a + id_width mfm ≡ suc (from + n)) × First Stops 0 (to - from) n id
  of_first a id f =
      let low : from ≤ a = f.within.low in
      let high : a + id_width mfm ≤ to = f.within.high in
      let n = a + id_width mfm - from - 1 in
      let q : from + suc n ≡ a + id_width mfm = omega arith in (
        n,
        omega arith,
        record {
          low = omega arith;
          high = omega arith;
          ends = rw f.says (to_end a n q f.within);
          before =
              λ u l h other e.
              let b = from_end u other (omega arith) e in
              f.first b.0 (omega (arith, b.1)) b.2;
        },
      )

  single : (u : ℕ) (x y : Id) → Stops u x → Stops u y → x ≡ y
  single u x y p q = cc

  by_verdict : (f : Option Found) → next_id mfm row from to ≡ f → Verdict mfm row from 0 (to - from) f
  by_verdict f e = rw e at (found mfm row from to)

  -- `next_id` finds the first ID, and says what it says and where it ends
  pub next_id_lem : (id : Id) (behind : ℕ)
      → (next_id mfm row from to ≡ Some (found_at id behind)) ↔ ((a : ℕ) × (a + id_width mfm ≡ behind) × FirstId mfm cells from to a id)
  next_id_lem id behind = (there, back)
    where
      there : next_id mfm row from to ≡ Some (found_at id behind) → (a : ℕ) × (a + id_width mfm ≡ behind) × FirstId mfm cells from to a id
      there e =
          let v = by_verdict (Some (found_at id behind)) e in
          let r = first_of v.0 id v.2 in
          (r.0, r.1 ∙ sym v.1, r.2)

      back : (a : ℕ) × (a + id_width mfm ≡ behind) × FirstId mfm cells from to a id → next_id mfm row from to ≡ Some (found_at id behind)
      back (a, p, f) = by (next_id mfm row from to) refl
        where
          g : (n : ℕ) × (a + id_width mfm ≡ suc (from + n)) × First Stops 0 (to - from) n id
          g = of_first a id f

          by : (r : Option Found) → next_id mfm row from to ≡ r → next_id mfm row from to ≡ Some (found_at id behind)
          by None e =
              absurd (by_verdict None e g.0 g.2.low g.2.high id g.2.ends)
          by (Some other) e =
              let v = by_verdict (Some other) e in
              let s = once Stops single 0 (to - from) v.0 g.0 other.id id v.2 g.2 in
              e ∙ ap₂ (λ (i : Id) (b : ℕ). Some (found_at i b)) s.1 (v.1 ∙ ap (λ (n : ℕ). suc (from + n)) s.0 ∙ sym g.1 ∙ p)

  -- and finds nothing exactly when there is none
  pub no_id : (next_id mfm row from to ≡ None) ↔ ((a : ℕ) → IdWithin mfm cells from to a → ⊥)
  no_id = (there, back)
    where
      there : next_id mfm row from to ≡ None → (a : ℕ) → IdWithin mfm cells from to a → ⊥
      there e a w =
          let low : from ≤ a = w.low in
          let high : a + id_width mfm ≤ to = w.high in
          let n = a + id_width mfm - from - 1 in
          let q : from + suc n ≡ a + id_width mfm = omega arith in
          by_verdict None e n (omega arith) (omega arith) (id_from mfm cells a) (to_end a n q w)

      back : ((a : ℕ) → IdWithin mfm cells from to a → ⊥) → next_id mfm row from to ≡ None
      back none = by (next_id mfm row from to) refl
        where
          by : (r : Option Found) → next_id mfm row from to ≡ r → next_id mfm row from to ≡ None
          by None e = e
          by (Some found) e = let r = (next_id_lem found.id found.behind).0 e in absurd (none r.0 r.2.within)

-- ---- one after another

overlap_fm : (cells : ℕ → ℕ) (a d : ℕ) → IdAt false cells a → IdAt false cells (a + suc d) → d < 6 → ⊥
unfolding MarkAt lead_of
overlap_fm cells a d h g l =
    let p : cells (a + suc d) < 256 = rw (place a d) at (h.plain d l) in
    let q : cells (a + suc d) ≡ 0xFE + 256 = g.mark.1 in
    omega arith
  where
    place : (a d : ℕ) → suc (a + 0) + d ≡ a + suc d
    place a d = omega arith

-- two IDs do not overlap
overlap_mfm : (cells : ℕ → ℕ) (a d : ℕ) → IdAt true cells a → IdAt true cells (a + suc d) → d < 9 → ⊥
unfolding MarkAt lead_of
overlap_mfm cells a zero h g l =
    let p : cells (a + 3) ≡ 0x1A1 = ap cells (omega arith) ∙ g.mark.3 in
    let q : cells (a + 3) ≡ 0xFE = h.mark.4 in
    omega arith
overlap_mfm cells a (suc zero) h g l =
    let p : cells (a + 3) ≡ 0x1A1 = ap cells (omega arith) ∙ g.mark.2 in
    let q : cells (a + 3) ≡ 0xFE = h.mark.4 in
    omega arith
overlap_mfm cells a (suc (suc zero)) h g l =
    let p : cells (a + 3) ≡ 0x1A1 = g.mark.1 in
    let q : cells (a + 3) ≡ 0xFE = h.mark.4 in
    omega arith
overlap_mfm cells a (suc (suc (suc d))) h g l =
    let p : cells (suc (a + 3) + d) < 256 = h.plain d (omega arith) in
    let q : cells (suc (a + 3) + d) ≡ 0x1A1 = ap cells (omega arith) ∙ g.mark.1 in
    omega arith

overlap : (mfm : Bool) (cells : ℕ → ℕ) (a d : ℕ) → IdAt mfm cells a → IdAt mfm cells (a + suc d) → suc d < id_width mfm → ⊥
unfolding lead_of
overlap false cells a d h g l = overlap_fm cells a d h g (omega arith)
overlap true cells a d h g l = overlap_mfm cells a d h g (omega arith)

-- two IDs do not overlap
pub ids_apart : (mfm : Bool) (cells : ℕ → ℕ) (a b : ℕ) → IdAt mfm cells a → IdAt mfm cells b → a < b → a + id_width mfm ≤ b
ids_apart mfm cells a b h g l = by (dec_lt b (a + id_width mfm))
  where
    by : Dec (b < a + id_width mfm) → a + id_width mfm ≤ b
    by (yes near) =
        let q : b ≡ a + suc (b - a - 1) = omega arith in
        absurd (overlap mfm cells a (b - a - 1) h (rw q at g) (omega arith))
    by (no far) = omega arith

-- so whoever goes on from after an ID misses none: every later one stands whole there
pub later_ids :
    (mfm : Bool) (cells : ℕ → ℕ) (from to a b : ℕ)
    → IdAt mfm cells a
    → a < b
    → IdWithin mfm cells from to b
    → IdWithin mfm cells (a + id_width mfm) to b
later_ids mfm cells from to a b h l w =
    record { low = ids_apart mfm cells a b h w.stands l; high = w.high; stands = w.stands }

-- "IDs by cell of FE, round the ring": those that stand whole from the mark's lead before the second round of L cells up to
-- six cells after it are those whose FE stands in that round
pub round :
    (mfm : Bool) (cells : ℕ → ℕ) (size a : ℕ)
    → lead_of mfm ≤ size
    → IdWithin mfm cells (size - lead_of mfm) (size + size + 6) a
    ↔ ((size ≤ a + lead_of mfm) × (a + lead_of mfm < size + size) × IdAt mfm cells a)
round mfm cells size a long = (
  λ w. (omega (arith, w.low), omega (arith, w.high), w.stands),
  λ r. record { low = omega (arith, r.0); high = omega (arith, r.1); stands = r.2 },
)

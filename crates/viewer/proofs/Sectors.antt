-- The search on one side finds the first sector that qualifies, by its ID's first cell, and nothing exactly when none does.
-- Assumes nothing.
use mathlib.Core.Path.{◌≡◌, refl, sym, ap, ap₂, ◌∙◌}
use mathlib.Core.Bool.{Bool, true, ◌&&◌}
use mathlib.Core.List.{List}
use mathlib.Core.Logic.{◌↔◌}
use Prim.Native.Nat.{ℕ, zero, suc, ◌+◌, ◌-◌, ◌≤◌, ◌<◌}
use native.Mathlib.Nat.{add-zero, add-suc}
use native.Mathlib.Decide.{dec_lt}
use native.Mathlib.Omega.{arith}
use lib.Dec.{ltb, eqb}
use lib.ListN.{length}
use borrow.Author.Tests.{ltb-false, le-ltb, eqb-true, eq-eqb}
use Rattle.std.specs.Prelude.{Option, None, Some}
use Rattle.std.specs.Option.{option_or}
use Rattle.common.proofs.Cases.{by_cond, never, both, all}
use Rattle.scan.specs.Marks.{lead_of, mark_crc}
use Rattle.scan.specs.DataMarks.{mark_byte}
use Rattle.scan.specs.declared.Id.{Id}
use Rattle.scan.specs.declared.DataMark.{DataMark}
use Rattle.scan.specs.Streams.{IdAt, id_from, id_width, crc_from}
use Rattle.scan.proofs.IdParts.{mark_crc_lem}
use Rattle.command.specs.Sizes.{size_of}
use Rattle.fields.specs.Rings.{cells_of}
use Rattle.fields.specs.Ids.{found_at, next_id}
use Rattle.fields.specs.DataMarks.{marked_at, mark_behind}
use Rattle.fields.specs.Rounds.{IdWithin, FirstId, MarkWithin}
use Rattle.fields.specs.declared.Found.{Found}
use Rattle.fields.specs.declared.Marked.{Marked}
use Rattle.fields.proofs.Ids.{next_id_lem, no_id, ids_apart}
use Rattle.fields.proofs.DataMarks.{mark_behind_lem}
use Rattle.viewer.specs.declared.Span.{Span}
use Rattle.viewer.specs.Sectors.{register_over, span_of, span_from, span_marked, span_behind, wanted_of, span_in, behind_in, span_among, span_on}
use Rattle.viewer.specs.Plain.{SectorAt, FirstSector, NoSector}
use Rattle.viewer.proofs.Search.{nothing_past}

-- a span is its two cells
pub same_span : {f t from to : ℕ} → span_of f t ≡ span_of from to → (f ≡ from) × (t ≡ to)
same_span e = (ap (λ (s : Span). s.from) e, ap (λ (s : Span). s.to) e)

-- ---- one sector

module _ (mfm : Bool) (row : List ℕ) where
  abbrev cells : ℕ → ℕ
  cells = cells_of row

  register_from : (a n k : ℕ) → register_over row (crc_from cells a n) (a + n) k ≡ crc_from cells a (n + k)
  unfolding register_over crc_from
  register_from a n zero = ap (crc_from cells a) (sym (add-zero n))
  register_from a n (suc k) =
      let q : suc n + k ≡ n + suc k = omega arith in
      ap (λ (p : ℕ). register_over row (crc_from cells a (suc n)) p k) (sym (add-suc a n))
      ∙ register_from a (suc n) k
      ∙ ap (crc_from cells a) q

  -- the register over a data field, from its mark on
  field_register :
      (mark : DataMark) (place at cell from to : ℕ)
      → MarkWithin mfm cells place mark at cell
      → from ≡ place + cell
      → from ≤ to
      → register_over row (mark_crc mfm (mark_byte mark)) from (to + 2 - from)
      ≡ crc_from cells at (lead_of mfm + 1 + (to - from) + 2)
  field_register mark place at cell from to w begins long =
      let p : from ≡ at + suc (lead_of mfm) = omega (arith, w.byte) in
      let q : suc (lead_of mfm) + (to + 2 - from) ≡ lead_of mfm + 1 + (to - from) + 2 = omega arith in
      ap₂ (λ (c p : ℕ). register_over row c p (to + 2 - from)) (sym (mark_crc_lem mfm cells at (mark_byte mark) w.stands)) p
      ∙ register_from at (suc (lead_of mfm)) (to + 2 - from)
      ∙ ap (crc_from cells at) q

  from_cells :
      (mark : DataMark) (f t from to : ℕ)
      → span_from mfm row mark f t ≡ Some (span_of from to)
      → (t + 2 ≤ length row) × (register_over row (mark_crc mfm (mark_byte mark)) f (t + 2 - f) ≡ 0) × (f ≡ from) × (t ≡ to)
  unfolding span_from
  from_cells mark f t from to =
      by_cond
      (λ s. s ≡ Some (span_of from to)
      → (t + 2 ≤ length row) × (register_over row (mark_crc mfm (mark_byte mark)) f (t + 2 - f) ≡ 0) × (f ≡ from) × (t ≡ to))
      (ltb (length row) (t + 2))
      (λ e q. never (cc))
      (λ e.
      by_cond
      (λ s. s ≡ Some (span_of from to)
      → (t + 2 ≤ length row) × (register_over row (mark_crc mfm (mark_byte mark)) f (t + 2 - f) ≡ 0) × (f ≡ from) × (t ≡ to))
      (eqb (register_over row (mark_crc mfm (mark_byte mark)) f (t + 2 - f)) 0)
      (λ z q. let (same_from, same_to) = same_span (cc) in (ltb-false (length row) (t + 2) e, eqb-true _ _ z, same_from, same_to))
      (λ z q. never (cc)))

  cells_from :
      (mark : DataMark) (from to : ℕ)
      → to + 2 ≤ length row
      → register_over row (mark_crc mfm (mark_byte mark)) from (to + 2 - from) ≡ 0
      → span_from mfm row mark from to ≡ Some (span_of from to)
  unfolding span_from
  cells_from mark from to h z = simp (le-ltb (length row) (to + 2) h, eq-eqb _ _ z)

  module _ (track sector a : ℕ) where
    abbrev its : Id
    its = id_from mfm cells a

    -- what comes of the ID from cell a on
    abbrev here : Option Span
    here = span_in mfm row track sector (Some (found_at its (a + id_width mfm)))

    wanted : (from to : ℕ) → here ≡ Some (span_of from to)
        → (its.good ≡ true) × (its.track ≡ track) × (its.sector ≡ sector)
        × (span_behind mfm row its.length (a + id_width mfm) ≡ Some (span_of from to))
    unfolding span_in wanted_of
    wanted from to =
        by_cond
        (λ s. s ≡ Some (span_of from to)
        → (its.good ≡ true) × (its.track ≡ track) × (its.sector ≡ sector)
        × (span_behind mfm row its.length (a + id_width mfm) ≡ Some (span_of from to)))
        (its.good && eqb its.track track && eqb its.sector sector)
        (λ e q.
        let h = both (its.good && eqb its.track track) (eqb its.sector sector) e in
        let g = both its.good (eqb its.track track) h.0 in
        (g.0, eqb-true _ _ g.1, eqb-true _ _ h.1, q))
        (λ e q. never (cc))

    to_sector : IdAt mfm cells a → (from to : ℕ) → here ≡ Some (span_of from to) → SectorAt mfm row track sector a from to
    unfolding span_behind span_marked
    to_sector h from to e = by (mark_behind mfm row (a + id_width mfm)) refl w.3
      where
        w : (its.good ≡ true) × (its.track ≡ track) × (its.sector ≡ sector)
            × (span_behind mfm row its.length (a + id_width mfm) ≡ Some (span_of from to))
        w = wanted from to e

        by : (b : Option Marked) → mark_behind mfm row (a + id_width mfm) ≡ b
            → span_marked mfm row (size_of its.length) (a + id_width mfm) b ≡ Some (span_of from to)
            → SectorAt mfm row track sector a from to
        by None m q = never (cc)
        by (Some marked) m q =
            let mark = marked.mark in
            let cell = marked.cell in
            let (at, f) = (mark_behind_lem mfm row (a + id_width mfm) mark cell).0 m in
            let place = a + id_width mfm + cell in
            let (inside, z, begins, ends) = from_cells mark place (place + size_of its.length) from to q in
            let long : from ≤ to = omega arith in
            let r = field_register mark (a + id_width mfm) at cell from to f.within (sym begins) long in
            record {
              id = h;
              good = w.0;
              of_track = w.1;
              of_sector = w.2;
              mark = mark;
              at = at;
              cell = cell;
              marked = f;
              begins = sym begins;
              ends = omega arith;
              closed =
                  sym r
                  ∙ ap₂ (λ (f t : ℕ). register_over row (mark_crc mfm (mark_byte mark)) f (t + 2 - f)) (sym begins) (sym ends)
                  ∙ z;
              inside = omega arith;
            }

    of_sector : (from to : ℕ) → SectorAt mfm row track sector a from to → here ≡ Some (span_of from to)
    unfolding span_in wanted_of span_behind span_marked
    of_sector from to s =
        let m : mark_behind mfm row (a + id_width mfm) ≡ Some (marked_at s.mark s.cell) =
        (mark_behind_lem mfm row (a + id_width mfm) s.mark s.cell).1 (s.at, s.marked) in
        let t : (its.good && eqb its.track track && eqb its.sector sector) ≡ true =
        all (all s.good (eq-eqb _ _ s.of_track)) (eq-eqb _ _ s.of_sector) in
        let long : from ≤ to = omega (arith, s.ends) in
        let z = field_register s.mark (a + id_width mfm) s.at s.cell from to s.marked.within s.begins long in
        let last : a + id_width mfm + s.cell + size_of its.length ≡ to = omega (arith, s.begins, s.ends) in
        simp (t, m)
        (ap₂ (span_from mfm row s.mark) (sym s.begins) last
        ∙ cells_from s.mark from to s.inside (z ∙ s.closed))

-- ---- one side

module _ (mfm : Bool) (row : List ℕ) (track sector : ℕ) where
  abbrev Sector : ℕ → ℕ → ℕ → Type 0
  Sector = SectorAt mfm row track sector

  -- the ID of a sector stands on the side
  on_side : (from a f t : ℕ) → from ≤ a → Sector a f t → IdWithin mfm (cells_of row) from (length row) a
  on_side from a f t low s =
      record { low = low; high = omega (arith, s.begins, s.ends, s.inside); stands = s.id }

  -- what is found of the sectors whose IDs stand from a cell on
  abbrev Verdict : ℕ → Option Span → Type 0
  Verdict from None = (b c d : ℕ) → from ≤ b → Sector b c d → ⊥
  Verdict from (Some span) =
      (a : ℕ) × (from ≤ a) × Sector a span.from span.to × ((b c d : ℕ) → from ≤ b → b < a → Sector b c d → ⊥)

  -- an ID that is none, and none before it, leaves those after it
  module _ (from a : ℕ) (id : Id) (f : FirstId mfm (cells_of row) from (length row) a id) where
    before : (b c d : ℕ) → from ≤ b → b < a → Sector b c d → ⊥
    before b c d low l s = f.first b l (on_side from b c d low s)

    found_here : (c d : ℕ) → here mfm row track sector a ≡ Some (span_of c d) → Verdict from (Some (span_of c d))
    found_here c d e = (a, f.within.low, to_sector mfm row track sector a f.within.stands c d e, before)

    module _ (none : here mfm row track sector a ≡ None) where
      behind_it : (b c d : ℕ) → from ≤ b → Sector b c d → a + id_width mfm ≤ b
      behind_it b c d low s = by (dec_lt b a) (dec_lt a b)
        where
          by : Dec (b < a) → Dec (a < b) → a + id_width mfm ≤ b
          by (yes l) r = absurd (before b c d low l s)
          by (no l) (yes r) = ids_apart mfm (cells_of row) a b f.within.stands s.id r
          by (no l) (no r) =
              let q : b ≡ a = omega arith in
              let e : here mfm row track sector a ≡ Some (span_of c d) = of_sector mfm row track sector a c d (rw q at s) in
              never (cc)

      later : (s : Option Span) → Verdict (a + id_width mfm) s → Verdict from s
      later None v = λ b c d low s. v b c d (behind_it b c d low s) s
      later (Some span) (b, low, s, lowest) = (
        b,
        omega (arith, f.within.low),
        s,
        λ e g h near l r. lowest e g h (behind_it e g h near r) l r,
      )

    chosen : (rest : Option Span) → Verdict (a + id_width mfm) rest → (s : Option Span) → here mfm row track sector a ≡ s
        → Verdict from (option_or s rest)
    chosen rest v None e = later e rest v
    chosen rest v (Some span) e = found_here span.from span.to e

  at_id : (n from place : ℕ) (id : Id)
      → ((next : ℕ) → length row ≤ n + next → Verdict next (span_among mfm row track sector n next))
      → length row ≤ suc n + from
      → (a : ℕ) → a + id_width mfm ≡ place → FirstId mfm (cells_of row) from (length row) a id
      → Verdict from (option_or (span_in mfm row track sector (Some (found_at id place))) (span_among mfm row track sector n place))
  at_id n from place id rest enough a p f =
      let low : from ≤ a = f.within.low in
      rw (f.says, ← p)
      (chosen from a id f (span_among mfm row track sector n (a + id_width mfm)) (rest (a + id_width mfm) (omega arith))
      (here mfm row track sector a) refl)

  past : (n from : ℕ)
      → option_or (span_in mfm row track sector None) (span_among mfm row track sector n (length row)) ≡ None
  unfolding span_in
  past n from = nothing_past mfm row track sector n (length row) (omega arith)

  -- a turn of the search
  turn : (n from : ℕ) → ((next : ℕ) → length row ≤ n + next → Verdict next (span_among mfm row track sector n next))
      → length row ≤ suc n + from
      → (f : Option Found) → next_id mfm row from (length row) ≡ f
      → Verdict from (option_or (span_in mfm row track sector f) (span_among mfm row track sector n (behind_in f (length row))))
  unfolding behind_in
  turn n from rest enough None e =
      rw (past n from)
      (λ b c d low s. (no_id mfm row from (length row)).0 e b (on_side from b c d low s))
  turn n from rest enough (Some found) e =
      let (a, p, f) = (next_id_lem mfm row from (length row) found.id found.behind).0 e in
      at_id n from found.behind found.id rest enough a p f

  verdict : (n from : ℕ) → length row ≤ n + from → Verdict from (span_among mfm row track sector n from)
  unfolding span_among
  verdict zero from enough = λ b c d low s. absurd (omega (arith, s.begins, s.ends, s.inside))
  verdict (suc n) from enough =
      turn n from (λ next more. verdict n next more) enough (next_id mfm row from (length row)) refl

  on_verdict : (s : Option Span) → span_on mfm row track sector ≡ s → Verdict 0 s
  unfolding span_on
  on_verdict s e = rw e at (verdict (length row) 0 (omega arith))

  single : (a c d f t : ℕ) → Sector a c d → Sector a f t → (c ≡ f) × (d ≡ t)
  single a c d f t r s =
      let p : here mfm row track sector a ≡ Some (span_of c d) = of_sector mfm row track sector a c d r in
      let q : here mfm row track sector a ≡ Some (span_of f t) = of_sector mfm row track sector a f t s in
      same_span (cc)

  -- "lowest cell first"
  pub first_sector : (from to : ℕ)
      → (span_on mfm row track sector ≡ Some (span_of from to)) ↔ ((a : ℕ) × FirstSector mfm row track sector a from to)
  first_sector from to = (there, back)
    where
      there : span_on mfm row track sector ≡ Some (span_of from to) → (a : ℕ) × FirstSector mfm row track sector a from to
      there e =
          let v = on_verdict (Some (span_of from to)) e in
          (v.0, record { is = v.2; lowest = λ b c d l s. v.3 b c d (omega arith) l s })

      back : (a : ℕ) × FirstSector mfm row track sector a from to → span_on mfm row track sector ≡ Some (span_of from to)
      back (a, f) = by (span_on mfm row track sector) refl
        where
          by : (s : Option Span) → span_on mfm row track sector ≡ s → span_on mfm row track sector ≡ Some (span_of from to)
          by None e = absurd (on_verdict None e a from to (omega arith) f.is)
          by (Some span) e =
              let c = span.from in
              let d = span.to in
              let v = on_verdict (Some span) e in
              let q = same v.0 v.2 (λ b c d l s. v.3 b c d (omega arith) l s) in
              let r : Sector a c d = rw q at v.2 in
              let s = single a c d from to r f.is in
              e ∙ ap₂ (λ (f t : ℕ). Some (span_of f t)) s.0 s.1
            where
              same : (b : ℕ) → Sector b span.from span.to → ((g h k : ℕ) → g < b → Sector g h k → ⊥) → b ≡ a
              same b s lowest = at (dec_lt a b) (dec_lt b a)
                where
                  at : Dec (a < b) → Dec (b < a) → b ≡ a
                  at (yes l) r = absurd (lowest a from to l f.is)
                  at (no l) (yes r) = absurd (f.lowest b span.from span.to r s)
                  at (no l) (no r) = omega arith

  pub no_sector : (span_on mfm row track sector ≡ None) ↔ NoSector mfm row track sector
  no_sector = (there, back)
    where
      there : span_on mfm row track sector ≡ None → NoSector mfm row track sector
      there e a from to s = on_verdict None e a from to (omega arith) s

      back : NoSector mfm row track sector → span_on mfm row track sector ≡ None
      back none = by (span_on mfm row track sector) refl
        where
          by : (s : Option Span) → span_on mfm row track sector ≡ s → span_on mfm row track sector ≡ None
          by None e = e
          by (Some span) e = let v = on_verdict (Some span) e in absurd (none v.0 span.from span.to v.2)

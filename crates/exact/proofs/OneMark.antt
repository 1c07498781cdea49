-- The cells after an ID as a Write Sector leaves them: the one mark in them, but for such with the byte 00, is the one that
-- it wrote, if there was none in the cells that it kept. Assumes nothing.
use mathlib.Core.Path.{◌≡◌, refl, sym, ap, ◌∙◌}
use mathlib.Core.Bool.{Bool, true, false}
use Prim.Native.Nat.{ℕ, suc, ◌+◌, ◌-◌, ◌≤◌, ◌<◌}
use native.Mathlib.Decide.{dec_lt, ℕ_discrete}
use native.Mathlib.Omega.{arith}
use Rattle.scan.specs.Marks.{sync, lead_of}
use Rattle.scan.specs.Streams.{MarkAt, IdAt, sought_at}
use Rattle.scan.specs.DataMarks.{mark_byte}
use Rattle.scan.specs.declared.DataMark.{DataMark}
use Rattle.scan.specs.declared.Sought.TheVariants.{Met}
use Rattle.scan.proofs.DataMarks.{mark_byte_lem, data_marks}
use Rattle.writing.specs.Writing.{last_kept, last_zero, mark_place, mark_cell}
use Rattle.exact.specs.Demand2.{NoMark}
use Rattle.exact.proofs.SectorField.{Field, cell_of, field_put, field_reach, numbers, kept, zeros, leads, marked, put, put_plain}

-- a stream that begins with the field
pub record Behind (f : Field) (cells : ℕ → ℕ) : Type 0 where
  pub low : (i : ℕ) → i < f.size → f.bytes i < 256
  pub clear : NoMark f.mfm f.old (last_kept f.mfm)
  pub are : (j : ℕ) → j < field_reach f → cells j ≡ cell_of f j

-- the first 00, the first cell after the 00s, and the first after the mark
abbrev zero : Field → ℕ
zero f = last_kept f.mfm

abbrev lead : Field → ℕ
lead f = last_zero f.mfm

abbrev data_first : Field → ℕ
data_first f = mark_place f.mfm

-- after the mark's cell none is flagged
plain_behind :
    (f : Field) (cells : ℕ → ℕ) → Behind f cells → (j : ℕ) → data_first f ≤ j → j < field_reach f → cells j < 256
plain_behind f cells b j l h =
    let e : data_first f + (j - data_first f) ≡ j = omega arith in
    let q : cells j ≡ field_put f (j - data_first f) = b.are j h ∙ ap (cell_of f) (sym e) ∙ put f (j - data_first f) in
    omega (arith, q, put_plain f b.low (j - data_first f))

-- the one mark in the field
abbrev OneAt : Field → ℕ → ℕ → Type 0
OneAt f a b = (a ≡ lead f) × (b ≡ mark_byte f.data_mark)

one_fm :
    (f : Field) (cells : ℕ → ℕ)
    → f.mfm ≡ false
    → Behind f cells
    → (a b : ℕ)
    → a < field_reach f
    → MarkAt false cells a b
    → OneAt f a b
unfolding MarkAt mark_cell lead_of
one_fm f cells fm v a b inside (byte, e) = by (dec_lt a (zero f)) (dec_lt a (lead f)) (dec_lt a (data_first f))
  where
    by : Dec (a < zero f) → Dec (a < lead f) → Dec (a < data_first f) → OneAt f a b
    by (yes l) y z =
        absurd (v.clear a b (omega (arith, ap lead_of fm)) (rw fm (byte, sym (v.are a inside ∙ kept f a l) ∙ e)))
    by (no l) (yes m) z = absurd (omega (arith, e, v.are a inside, zeros f a (omega arith) m))
    by (no l) (no m) (yes h) =
        let n = numbers f.mfm in
        let none : lead_of f.mfm ≡ 0 = ap lead_of fm in
        let flagged : mark_cell f.mfm (mark_byte f.data_mark) ≡ mark_byte f.data_mark + 256 =
        ap (λ (d : Bool). mark_cell d (mark_byte f.data_mark)) fm in
        let q : cells a ≡ mark_byte f.data_mark + 256 =
        v.are a inside ∙ marked f a (omega (arith, n.mark_last)) ∙ flagged in
        (omega (arith, n.mark_last), omega arith)
    by (no l) (no m) (no h) = absurd (omega (arith, e, plain_behind f cells v a (omega arith) inside))

one_mfm :
    (f : Field) (cells : ℕ → ℕ)
    → f.mfm ≡ true
    → Behind f cells
    → (a b : ℕ)
    → 1 ≤ b
    → a < field_reach f
    → MarkAt true cells a b
    → OneAt f a b
unfolding MarkAt mark_cell lead_of
one_mfm f cells mfm v a b some inside (byte, x, y, z, e) =
    by (dec_lt (a + 3) (zero f)) (dec_lt a (zero f)) (dec_lt a (lead f)) (ℕ_discrete a (lead f)) (dec_lt a (data_first f))
  where
    three : lead_of f.mfm ≡ 3
    three = ap lead_of mfm

    -- the first 00, and the mark's byte
    first : (j : ℕ) → j ≡ zero f → cells j ≡ 0
    first j q =
        let n = numbers f.mfm in
        v.are j (omega (arith, n.kept_first, n.mark_last)) ∙ zeros f j (omega arith) (omega (arith, n.kept_first))

    last : (j : ℕ) → suc j ≡ data_first f → cells j ≡ mark_byte f.data_mark
    last j q = v.are j (omega arith) ∙ marked f j q ∙ ap (λ (d : Bool). mark_cell d (mark_byte f.data_mark)) mfm

    old : (j : ℕ) → j < zero f → f.old j ≡ cells j
    old j l =
        let n = numbers f.mfm in
        sym (v.are j (omega (arith, n.kept_first, n.mark_last)) ∙ kept f j l)

    -- it would have the first 00 in it, or the mark's byte among its A1s
    crosses : Dec (a + 3 ≡ zero f) → Dec (a + 2 ≡ zero f) → a < zero f → (a + 3 < zero f → ⊥) → ⊥
    crosses (yes q) r l m = omega (arith, e, first (a + 3) q)
    crosses (no q) (yes r) l m = omega (arith, z, first (a + 2) r)
    crosses (no q) (no r) l m = omega (arith, y, first (a + 1) (omega arith))

    inward : Dec (suc a ≡ data_first f) → Dec (suc (a + 1) ≡ data_first f) → lead f < a → a < data_first f → ⊥
    inward (yes q) r l m = omega (arith, x, last a q, (mark_byte_lem f.data_mark).1)
    inward (no q) (yes r) l m = omega (arith, y, last (a + 1) r, (mark_byte_lem f.data_mark).1)
    inward (no q) (no r) l m =
        omega (arith, z, last (a + 2) (omega (arith, (numbers f.mfm).mark_last, three)), (mark_byte_lem f.data_mark).1)

    by :
        Dec (a + 3 < zero f)
        → Dec (a < zero f)
        → Dec (a < lead f)
        → Dec (a ≡ lead f)
        → Dec (a < data_first f)
        → OneAt f a b
    by (yes h) l m q p =
        absurd
        (v.clear a b (omega (arith, three))
        (rw mfm
        (byte, old a (omega arith) ∙ x, old (a + 1) (omega arith) ∙ y, old (a + 2) (omega arith) ∙ z, old (a + 3) h ∙ e)))
    by (no h) (yes l) m q p = absurd (crosses (ℕ_discrete (a + 3) (zero f)) (ℕ_discrete (a + 2) (zero f)) l h)
    by (no h) (no l) (yes m) q p = absurd (omega (arith, x, v.are a inside, zeros f a (omega arith) m))
    by (no h) (no l) (no m) (yes q) p = (q, sym e ∙ last (a + 3) (omega (arith, (numbers f.mfm).mark_last, three)))
    by (no h) (no l) (no m) (no q) (yes p) =
        absurd
        (inward (ℕ_discrete (suc a) (data_first f)) (ℕ_discrete (suc (a + 1)) (data_first f)) (omega arith) p)
    by (no h) (no l) (no m) (no q) (no p) = absurd (omega (arith, x, plain_behind f cells v a (omega arith) inside))

-- any mark in the field, but for one with the byte 00, is the one that was written: this alone is shown for each density
pub one_mark :
    (f : Field) (cells : ℕ → ℕ)
    → Behind f cells
    → (a b : ℕ)
    → 1 ≤ b
    → a < field_reach f
    → MarkAt f.mfm cells a b
    → (a ≡ last_zero f.mfm) × (b ≡ mark_byte f.data_mark)
one_mark f cells v a b some inside mark = by f.mfm refl
  where
    by : (mfm : Bool) → f.mfm ≡ mfm → OneAt f a b
    by false e = one_fm f cells e v a b inside (rw e at mark)
    by true e = one_mfm f cells e v a b some inside (rw e at mark)

-- ---- what the scanners make of it

-- "An ID is mark FE ..": none begins in the field
pub no_id : (f : Field) (cells : ℕ → ℕ) → Behind f cells → (a : ℕ) → a < field_reach f → IdAt f.mfm cells a → ⊥
no_id f cells v a inside id =
    let one = one_mark f cells v a 0xFE (omega arith) inside id.mark in
    omega (arith, one.1, (mark_byte_lem f.data_mark).1)

module _ (f : Field) (cells : ℕ → ℕ) (v : Behind f cells) where
  -- no data mark ends before the one that was written
  pub none_before : (j : ℕ) → suc j < mark_place f.mfm → (mark : DataMark) → sought_at f.mfm cells j ≡ Met mark → ⊥
  none_before j h mark e =
      let (has, (a, p, m)) = (data_marks f.mfm cells j mark).0 e in
      let one = one_mark f cells v a (mark_byte mark) (omega (arith, (mark_byte_lem mark).0)) (omega arith) m in
      omega (arith, one.0, (numbers f.mfm).mark_last)

  -- that one stands there
  pub mark_there : (mfm : Bool) → f.mfm ≡ mfm → MarkAt mfm cells (last_zero f.mfm) (mark_byte f.data_mark)
  unfolding MarkAt mark_cell lead_of
  mark_there false e =
      let n = numbers f.mfm in
      let lead : lead_of f.mfm ≡ 0 = ap lead_of e in
      let m = mark_byte_lem f.data_mark in (
        omega (arith, m.1),
        v.are (last_zero f.mfm) (omega (arith, n.mark_last))
            ∙ marked f (last_zero f.mfm) (omega (arith, n.mark_last))
            ∙ ap (λ (d : Bool). mark_cell d (mark_byte f.data_mark)) e,
      )
  mark_there true e =
      let m = mark_byte_lem f.data_mark in (
        omega (arith, m.1),
        lead (last_zero f.mfm) (omega arith) (omega (arith, last)),
        lead (last_zero f.mfm + 1) (omega arith) (omega (arith, last)),
        lead (last_zero f.mfm + 2) (omega arith) (omega (arith, last)),
        v.are (last_zero f.mfm + 3) (omega (arith, last))
            ∙ marked f (last_zero f.mfm + 3) (omega (arith, last))
            ∙ ap (λ (d : Bool). mark_cell d (mark_byte f.data_mark)) e,
      )
    where
      last : last_zero f.mfm + 4 ≡ mark_place f.mfm
      last =
          let three : lead_of f.mfm ≡ 3 = ap lead_of e in
          omega (arith, (numbers f.mfm).mark_last)

      lead : (j : ℕ) → last_zero f.mfm ≤ j → suc j < mark_place f.mfm → cells j ≡ sync
      lead j l h = v.are j (omega arith) ∙ leads f j l h

  -- it ends at its place
  pub met_there : (j : ℕ) → suc j ≡ mark_place f.mfm → sought_at f.mfm cells j ≡ Met f.data_mark
  met_there j e =
      (data_marks f.mfm cells j f.data_mark).1
      (f.of_density, (last_zero f.mfm, omega (arith, (numbers f.mfm).mark_last), mark_there f.mfm refl))

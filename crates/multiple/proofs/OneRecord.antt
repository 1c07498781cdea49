-- There is one record that a search comes to, or none: two of them have the same ID, mark and last cell. Assumes nothing.
use mathlib.Core.Path.{◌≡◌, sym, ap, ap₂, ◌∙◌, subst}
use mathlib.Core.Bool.{Bool}
use Prim.Native.Nat.{ℕ, ◌+◌, ◌<◌}
use native.Mathlib.Decide.{dec_lt}
use native.Mathlib.Omega.{arith}
use Rattle.scan.specs.Marks.{lead_of}
use Rattle.scan.specs.Streams.{id_from, id_width, crc_from}
use Rattle.scan.specs.declared.DataMark.{DataMark}
use Rattle.scan.proofs.Marks.{mark_last_byte}
use Rattle.scan.proofs.DataMarks.{one_byte}
use Rattle.fields.specs.Rounds.{MarkWithin, FirstMark}
use Rattle.hosts.specs.Scenes.{Scene, field_bytes}
use Rattle.multiple.specs.Multiple.{cells_by, GoodMatch, window_from, RecordFrom, field_cells, GoodCrc, passed_by, NoRecord, no_match, no_mark}

-- one first data mark in a window
one_mark :
    (mfm : Bool) (cells : ℕ → ℕ) (place : ℕ) {mark other : DataMark} {a b cell cell' : ℕ}
    → FirstMark mfm cells place mark a cell
    → FirstMark mfm cells place other b cell'
    → (a ≡ b) × (mark ≡ other)
one_mark mfm cells place {mark} {other} {a} {b} {cell} {cell'} f g = by (dec_lt cell cell') (dec_lt cell' cell)
  where
    by : Dec (cell < cell') → Dec (cell' < cell) → (a ≡ b) × (mark ≡ other)
    by (yes l) m = absurd (g.first mark a cell l f.within)
    by (no l) (yes m) = absurd (f.first other b cell' m g.within)
    by (no l) (no m) =
        let same : a ≡ b = omega (arith, f.within.byte, g.within.byte) in
        (same, one_byte mark other (sym (mark_last_byte mfm cells b _ (rw same at f.within.stands)) ∙ mark_last_byte mfm cells b _ g.within.stands))

-- one good match
one_match : {s : Scene} {sector t : ℕ} (m m' : GoodMatch s sector t) → m.cell ≡ m'.cell
one_match m m' = by (dec_lt m.cell m'.cell) (dec_lt m'.cell m.cell)
  where
    by : Dec (m.cell < m'.cell) → Dec (m'.cell < m.cell) → m.cell ≡ m'.cell
    by (yes l) other = absurd (m'.first m.cell m.after l m.stands m.suits)
    by (no l) (yes h) = absurd (m.first m'.cell m'.after h m'.stands m'.suits)
    by (no l) (no h) = omega arith

module _ {s : Scene} {sector t : ℕ} (r r' : RecordFrom s sector t) where
  pub same_marks : (r.mark_at ≡ r'.mark_at) × (r.mark ≡ r'.mark)
  same_marks =
      one_mark s.machine.mfm (cells_by s) (window_from r'.id)
      (subst
      (λ (cell : ℕ).
      FirstMark s.machine.mfm (cells_by s) (cell + id_width s.machine.mfm) r.mark r.mark_at r.place)
      (one_match r.id r'.id) r.marked)
      r'.marked

  same_cells : field_cells r ≡ field_cells r'
  same_cells =
      ap
      (λ (cell : ℕ).
      lead_of s.machine.mfm
      + 1
      + field_bytes s.machine.chip s.byte (id_from s.machine.mfm (cells_by s) cell).length
      + 2)
      (one_match r.id r'.id)

  pub one_end : passed_by r ≡ passed_by r'
  one_end = ap₂ (λ (a b : ℕ). a + b) same_marks.0 same_cells

  pub good_both : GoodCrc r → GoodCrc r'
  good_both good = ap₂ (crc_from (cells_by s)) (sym same_marks.0) (sym same_cells) ∙ good

-- a search that comes to no record comes to none
pub no_other : {s : Scene} {sector t n : ℕ} → NoRecord s sector t n → RecordFrom s sector t → ⊥
no_other (no_match nothing k fifth e) r = nothing r.id
no_other {s} (no_mark m nothing e) r =
    nothing r.mark r.mark_at r.place
    (subst
    (λ (cell : ℕ).
    MarkWithin s.machine.mfm (cells_by s) (cell + id_width s.machine.mfm) r.mark r.mark_at r.place)
    (one_match r.id m) r.marked.within)

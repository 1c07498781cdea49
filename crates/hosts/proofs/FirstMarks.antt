-- The first data mark after an ID, and the register over its field: by document 01's words on the cells, and as a Read Sector meets
-- them in the stream that passes after the ID. Assumes nothing.
use mathlib.Core.Path.{◌≡◌, refl, sym, ap, ap₂, ◌∙◌}
use mathlib.Core.Bool.{Bool, true≢false}
use Prim.Native.Nat.{ℕ, zero, suc, ◌+◌, ◌-◌, ◌≤◌, ◌<◌}
use native.Mathlib.Nat.{add-zero, add-suc}
use native.Mathlib.Omega.{arith}
use Rattle.crc.specs.Crc.{crc_byte}
use Rattle.scan.specs.Marks.{byte_of, lead_of, mark_crc}
use Rattle.scan.specs.DataMarks.{mark_byte, window_of}
use Rattle.scan.specs.Streams.{crc_from, sought_at}
use Rattle.scan.specs.declared.DataMark.{DataMark}
use Rattle.scan.specs.declared.Sought.TheVariants.{Met}
use Rattle.scan.proofs.IdParts.{mark_crc_lem}
use Rattle.scan.proofs.DataMarks.{data_marks}
use Rattle.fields.specs.Rounds.{MarkWithin, FirstMark}
use Rattle.hosts.proofs.RingLaws.{mark_moved}
use Rattle.hosts.proofs.DataFields.{sum_after, sum_same}
use Rattle.hosts.proofs.Windows.{is_met, unmet_by, NoMarkIn, FirstMarkIn}

-- the register over the cells after some
register_from :
    (cells : ℕ → ℕ) (a n k : ℕ)
    → sum_after (crc_from cells a n) (λ i. byte_of (cells (a + n + i))) k ≡ crc_from cells a (n + k)
unfolding sum_after crc_from
register_from cells a n zero = ap (crc_from cells a) (sym (add-zero n))
register_from cells a n (suc k) =
    let e : a + n + k ≡ a + (n + k) = omega arith in
    ap₂ (λ (crc place : ℕ). crc_byte crc (byte_of (cells place))) (register_from cells a n k) e
    ∙ ap (crc_from cells a) (sym (add-suc n k))

-- a stream that is the cells from a place on, with which an ID's window begins
module _ (mfm : Bool) (cells stream : ℕ → ℕ) (place : ℕ) (agree : (j : ℕ) → stream j ≡ cells (place + j)) where
  there : (a b : ℕ) → place + a ≡ b → (i : ℕ) → stream (a + i) ≡ cells (b + i)
  there a b e i = agree (a + i) ∙ ap cells (omega arith)

  -- what is met with cell u of the window is a data mark that stands there
  met_within :
      (mark : DataMark) (u : ℕ)
      → u < window_of mfm
      → sought_at mfm stream u ≡ Met mark
      → (at : ℕ) × MarkWithin mfm cells place mark at (suc u)
  met_within mark u near e =
      let (has, (a, ends, stands)) = (data_marks mfm stream u mark).0 e in (
        place + a,
        record {
          low = omega arith;
          byte = omega arith;
          high = near;
          of_density = has;
          stands = mark_moved mfm stream cells a (place + a) (λ i l. there a (place + a) refl i) (mark_byte mark) stands;
        },
      )

  -- and one that stands there is met
  within_met : (mark : DataMark) (at u : ℕ) → MarkWithin mfm cells place mark at (suc u) → sought_at mfm stream u ≡ Met mark
  within_met mark at u m =
      let a : ℕ = at - place in
      let here : place + a ≡ at = omega (arith, m.low) in
      (data_marks mfm stream u mark).1 (
        m.of_density,
        (a, omega (arith, m.byte), mark_moved mfm cells stream at a (λ i l. sym (there a at here i)) (mark_byte mark) m.stands),
      )

  -- where none is met with the first n cells, none stands there
  pub none_stands :
      (n : ℕ) → NoMarkIn mfm stream n → (mark : DataMark) (at cell : ℕ) → cell ≤ n → MarkWithin mfm cells place mark at cell → ⊥
  unfolding is_met
  none_stands n none mark at zero l m = omega (arith, m.byte, m.low)
  none_stands n none mark at (suc u) l m = true≢false (sym (ap is_met (within_met mark at u m)) ∙ none u (omega arith))

  -- so the first is the first
  pub first_stands :
      (mark : DataMark) (u : ℕ) → FirstMarkIn mfm stream mark u → (at : ℕ) × FirstMark mfm cells place mark at (suc u)
  first_stands mark u f =
      let (at, within) = met_within mark u f.near f.met in
      (at, record { within = within; first = λ other b cell l m. none_stands u f.none other b cell (omega arith) m })

  pub stands_first :
      (mark : DataMark) (at cell : ℕ)
      → FirstMark mfm cells place mark at cell
      → (u : ℕ)
      → suc u ≡ cell
      → FirstMarkIn mfm stream mark u
  stands_first mark at cell f u e =
      record {
        near = omega (arith, f.within.high);
        none = λ k l.
            unmet_by _
            (λ other met.
            let (b, within) = met_within other k (omega (arith, f.within.high)) met in
            f.first other b (suc k) (omega arith) within);
        met = within_met mark at u (rw (sym e) at f.within);
      }

  -- "preset FFFF": the register over the mark, and then k cells after it
  pub field_register :
      (mark : DataMark) (at cell : ℕ)
      → MarkWithin mfm cells place mark at cell
      → (k : ℕ)
      → sum_after (mark_crc mfm (mark_byte mark)) (λ i. byte_of (stream (cell + i))) k ≡ crc_from cells at (suc (lead_of mfm) + k)
  field_register mark at cell m k =
      let behind : ℕ = at + suc (lead_of mfm) in
      let here : place + cell ≡ behind = omega (arith, m.byte) in
      ap (λ (crc : ℕ). sum_after crc (λ i. byte_of (stream (cell + i))) k)
      (sym (mark_crc_lem mfm cells at (mark_byte mark) m.stands))
      ∙ sum_same (crc_from cells at (suc (lead_of mfm))) (λ i. byte_of (stream (cell + i))) (λ i. byte_of (cells (behind + i))) k
      (λ i l. ap byte_of (there cell behind here i))
      ∙ register_from cells at (suc (lead_of mfm)) k

-- The ring: where the head is, which cells pass, where index pulses fall, and what stands on the ring as it passes.
-- Assumes nothing.
use mathlib.Core.Path.{◌≡◌, refl, sym, ap, ap₂, ◌∙◌}
use mathlib.Core.Bool.{Bool, true, false}
use mathlib.Core.List.{List}
use Prim.Native.Nat.{ℕ, zero, suc, ◌+◌, ◌-◌, ◌%◌, ◌≤◌, ◌<◌}
use native.Mathlib.Nat.{add-zero, zero-add, suc-add, mod-eq_of_lt, mod-add-mod, add-mod_right}
use native.Mathlib.Decide.{dec_le}
use native.Mathlib.Omega.{arith}
use lib.Dec.{eqb}
use lib.ListN.{length, get_or}
use Rattle.crc.specs.Crc.{crc_byte}
use Rattle.scan.specs.Marks.{byte_of, lead_of}
use Rattle.scan.specs.Streams.{MarkAt, behind, IdAt, id_width, crc_from, id_from}
use Rattle.registers.specs.declared.Ring.{Ring}
use Rattle.registers.specs.Rings.{ring_next}
use Rattle.fields.specs.Rings.{cells_of}
use Rattle.wd.proofs.Valid.{next_length}
use Rattle.reachable.specs.ByteTimes.{turns_on}
use Rattle.hosts.specs.Tracks.{position_at, passing}

-- ---- the head

-- one byte time more
pub turns_next : (n : ℕ) (r : Ring) → ring_next (turns_on n r) ≡ turns_on (suc n) r
unfolding turns_on
turns_next zero r = refl
turns_next (suc n) r = turns_next n (ring_next r)

pub turns_length : (n : ℕ) (r : Ring) → (turns_on n r).length ≡ r.length
unfolding turns_on
turns_length zero r = refl
turns_length (suc n) r = turns_length n (ring_next r) ∙ next_length r

pub turns_add : (n k : ℕ) (r : Ring) → turns_on k (turns_on n r) ≡ turns_on (n + k) r
unfolding turns_on
turns_add zero k r = ap (λ (x : ℕ). turns_on x r) (sym (zero-add k))
turns_add (suc n) k r = turns_add n k (ring_next r) ∙ ap (λ (x : ℕ). turns_on x r) (sym (suc-add n k))

-- ---- every position passes within a round

module _ (size from : ℕ) (inside : from < size) where
  pub reached : (p : ℕ) → p < size → (n : ℕ) × (n < size) × (position_at size from n ≡ p)
  reached p h = by (dec_le from p)
    where
      by : Dec (from ≤ p) → (n : ℕ) × (n < size) × (position_at size from n ≡ p)
      by (yes k) =
          let e : from + (p - from) ≡ p = omega arith in
          (p - from, omega arith, ap (λ (x : ℕ). x % size) e ∙ mod-eq_of_lt h)
      by (no k) =
          let e : from + (p + size - from) ≡ p + size = omega arith in
          (p + size - from, omega arith, ap (λ (x : ℕ). x % size) e ∙ add-mod_right p size ∙ mod-eq_of_lt h)

-- ---- what stands on the ring

-- two streams that agree from a and b on, as far as an ID reaches
module _ (mfm : Bool) (cells other : ℕ → ℕ) (a b : ℕ)
    (agree : (i : ℕ) → i < id_width mfm → cells (a + i) ≡ other (b + i)) where
  same : cells a ≡ other b
  same = ap cells (sym (add-zero a)) ∙ agree 0 (omega arith) ∙ ap other (add-zero b)

  -- a mark that stands there in the one stands there in the other
  pub mark_moved : (byte : ℕ) → MarkAt mfm cells a byte → MarkAt mfm other b byte
  unfolding MarkAt
  mark_moved byte = by mfm agree
    where
      by :
          (mfm : Bool)
          → ((i : ℕ) → i < id_width mfm → cells (a + i) ≡ other (b + i))
          → MarkAt mfm cells a byte
          → MarkAt mfm other b byte
      by false agree (low, e) = (low, sym same ∙ e)
      by true agree (low, x, y, z, e) = (
        low,
        sym same ∙ x,
        sym (agree 1 (omega arith)) ∙ y,
        sym (agree 2 (omega arith)) ∙ z,
        sym (agree 3 (omega arith)) ∙ e,
      )

  crc_moved : (n : ℕ) → n ≤ id_width mfm → crc_from cells a n ≡ crc_from other b n
  unfolding crc_from
  crc_moved zero l = refl
  crc_moved (suc n) l =
      ap₂ (λ (crc cell : ℕ). crc_byte crc (byte_of cell)) (crc_moved n (omega arith)) (agree n (omega arith))

  -- the cell i places after the mark
  behind_moved : (i : ℕ) → i < 6 → cells (behind mfm a + i) ≡ other (behind mfm b + i)
  behind_moved i l =
      let p : behind mfm a + i ≡ a + (suc (lead_of mfm) + i) = omega arith in
      let q : b + (suc (lead_of mfm) + i) ≡ behind mfm b + i = omega arith in
      ap cells p ∙ agree (suc (lead_of mfm) + i) (omega arith) ∙ ap other q

  -- and so does an ID, which says the same
  pub id_moved : IdAt mfm cells a → IdAt mfm other b
  id_moved h =
      record { mark = mark_moved 0xFE h.mark; plain = λ i l. rw (sym (behind_moved i l)) (h.plain i l) }

  pub says_moved : id_from mfm cells a ≡ id_from mfm other b
  unfolding id_from
  says_moved = λ i.
      record {
        track =
            (ap cells (sym (add-zero (behind mfm a)))
            ∙ behind_moved 0 (omega arith)
            ∙ ap other (add-zero (behind mfm b))) i;
        side = behind_moved 1 (omega arith) i;
        sector = behind_moved 2 (omega arith) i;
        length = behind_moved 3 (omega arith) i;
        good = eqb (crc_moved (id_width mfm) (omega arith) i) 0;
      }

-- what passes n byte times after a position is what stands on the ring there
pub passing_ring :
    (row : List ℕ) (from n i : ℕ) → passing row from (n + i) ≡ cells_of row (position_at (length row) from n + i)
unfolding passing cells_of
passing_ring row from n i =
    ap (λ (x : ℕ). get_or row (x % length row) 0) (omega arith)
    ∙ ap (λ (x : ℕ). get_or row x 0) (sym (mod-add-mod (from + n) (length row) i))

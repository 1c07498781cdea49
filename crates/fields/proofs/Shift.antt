-- A stream of cells looked at from a later cell on: its marks and IDs are those of the stream. Assumes nothing.
use mathlib.Core.Path.{◌≡◌, refl, sym, ap, ap₂, ◌∙◌}
use mathlib.Core.Bool.{Bool, true, false}
use Prim.Native.Nat.{ℕ, zero, suc, ◌+◌}
use native.Mathlib.Omega.{arith}
use lib.Dec.{eqb}
use Rattle.crc.specs.Crc.{crc_byte}
use Rattle.scan.specs.Marks.{byte_of}
use Rattle.scan.specs.Streams.{MarkAt, behind, IdAt, id_width, crc_from, id_from}

module _ (cells : ℕ → ℕ) (p : ℕ) where
  -- the stream from cell p on
  abbrev pub from : ℕ → ℕ
  from n = cells (p + n)

  same : (m n : ℕ) → p + m ≡ n → from m ≡ cells n
  same m n e = ap cells e

  pub mark_there : (mfm : Bool) (a b : ℕ) → MarkAt mfm from a b → MarkAt mfm cells (p + a) b
  unfolding MarkAt
  mark_there false a b h = h
  mark_there true a b (l, x, y, z, e) = (
    l,
    x,
    sym (same (a + 1) (p + a + 1) (omega arith)) ∙ y,
    sym (same (a + 2) (p + a + 2) (omega arith)) ∙ z,
    sym (same (a + 3) (p + a + 3) (omega arith)) ∙ e,
  )

  pub mark_back : (mfm : Bool) (a b : ℕ) → MarkAt mfm cells (p + a) b → MarkAt mfm from a b
  unfolding MarkAt
  mark_back false a b h = h
  mark_back true a b (l, x, y, z, e) = (
    l,
    x,
    same (a + 1) (p + a + 1) (omega arith) ∙ y,
    same (a + 2) (p + a + 2) (omega arith) ∙ z,
    same (a + 3) (p + a + 3) (omega arith) ∙ e,
  )

  behind_same : (mfm : Bool) (a i : ℕ) → from (behind mfm a + i) ≡ cells (behind mfm (p + a) + i)
  behind_same mfm a i = same (behind mfm a + i) (behind mfm (p + a) + i) (omega arith)

  pub id_there : (mfm : Bool) (a : ℕ) → IdAt mfm from a → IdAt mfm cells (p + a)
  id_there mfm a h =
      record {
        mark = mark_there mfm a 0xFE h.mark;
        plain = λ i l. rw (behind_same mfm a i) at (h.plain i l);
      }

  pub id_back : (mfm : Bool) (a : ℕ) → IdAt mfm cells (p + a) → IdAt mfm from a
  id_back mfm a h =
      record {
        mark = mark_back mfm a 0xFE h.mark;
        plain = λ i l. rw (behind_same mfm a i) (h.plain i l);
      }

  crc_same : (a n : ℕ) → crc_from from a n ≡ crc_from cells (p + a) n
  unfolding crc_from
  crc_same a zero = refl
  crc_same a (suc n) =
      ap₂ (λ (c x : ℕ). crc_byte c (byte_of x)) (crc_same a n) (same (a + n) (p + a + n) (omega arith))

  pub id_same : (mfm : Bool) (a : ℕ) → id_from mfm from a ≡ id_from mfm cells (p + a)
  unfolding id_from
  id_same mfm a = λ i.
      record {
        track = same (behind mfm a) (behind mfm (p + a)) (omega arith) i;
        side = behind_same mfm a 1 i;
        sector = behind_same mfm a 2 i;
        length = behind_same mfm a 3 i;
        good = eqb (crc_same a (id_width mfm) i) 0;
      }

-- What has passed of an ID after its mark, and what the whole comes to. Assumes nothing.
use mathlib.Core.Path.{◌≡◌, refl, sym, ap, ap₂, ◌∙◌}
use mathlib.Core.Bool.{Bool, true, false}
use Prim.Native.Nat.{ℕ, zero, suc, ◌+◌, ◌%◌, ◌<◌}
use native.Mathlib.Nat.{add-zero, add-suc, mod-eq_of_lt}
use native.Mathlib.Omega.{arith}
use lib.Dec.{eqb}
use Rattle.crc.specs.Crc.{preset, crc_byte, crc_over}
use Rattle.scan.specs.declared.Part.{Part}
use Rattle.scan.specs.Marks.{byte_of, lead_of, mark_bytes, mark_crc}
use Rattle.scan.specs.Ids.{pushed_of, whole_of}
use Rattle.scan.specs.Streams.{MarkAt, behind, IdAt, id_width, crc_from, id_from}

-- the first j of the six cells after a mark FE, which stand from p on
unfoldable pub gathered : Bool → (ℕ → ℕ) → ℕ → ℕ → Part
gathered mfm cells p zero = record { passed = 0; crc = mark_crc mfm 0xFE; track = 0; side = 0; sector = 0; length = 0 }
gathered mfm cells p (suc j) = pushed_of (gathered mfm cells p j) (byte_of (cells (p + j)))

pub gathered_passed : (mfm : Bool) (cells : ℕ → ℕ) (p j : ℕ) → (gathered mfm cells p j).passed ≡ j
unfolding gathered pushed_of
gathered_passed mfm cells p zero = refl
gathered_passed mfm cells p (suc j) = ap (λ (n : ℕ). n + 1) (gathered_passed mfm cells p j) ∙ omega arith

-- the register after the cells of a mark
pub mark_crc_lem :
    (mfm : Bool) (cells : ℕ → ℕ) (a b : ℕ) → MarkAt mfm cells a b → crc_from cells a (suc (lead_of mfm)) ≡ mark_crc mfm b
unfolding MarkAt lead_of mark_crc mark_bytes crc_from crc_over
mark_crc_lem false cells a b (h, e) =
    ap (λ (x : ℕ). crc_byte preset x) (ap (λ (x : ℕ). cells x % 256) (add-zero a) ∙ omega arith)
mark_crc_lem true cells a b (h, x, y, z, e) =
    simp (add-zero a, x, y, z, e) (ap (crc_byte (crc_byte (crc_byte (crc_byte preset 0xA1) 0xA1) 0xA1)) (omega arith))

-- the register is the one over the mark's cells and the j after them
gathered_crc :
    (mfm : Bool) (cells : ℕ → ℕ) (a : ℕ)
    → MarkAt mfm cells a 0xFE
    → (j : ℕ)
    → crc_from cells a (suc (lead_of mfm) + j) ≡ (gathered mfm cells (behind mfm a) j).crc
unfolding gathered pushed_of crc_from
gathered_crc mfm cells a h zero = rw add-zero (mark_crc_lem mfm cells a 0xFE h)
gathered_crc mfm cells a h (suc j) =
    rw add-suc
    (ap₂ crc_byte (gathered_crc mfm cells a h j) (ap (λ (x : ℕ). byte_of (cells x)) (omega arith)))

-- the sixth cell makes it what the ID says
pub whole :
    (mfm : Bool) (cells : ℕ → ℕ) (a : ℕ)
    → IdAt mfm cells a
    → whole_of (gathered mfm cells (behind mfm a) 5) (byte_of (cells (behind mfm a + 5))) ≡ id_from mfm cells a
unfolding gathered pushed_of whole_of id_from
whole mfm cells a h = λ i.
    record {
      track = (byte 0 (omega arith) ∙ ap cells (add-zero (behind mfm a))) i;
      side = byte 1 (omega arith) i;
      sector = byte 2 (omega arith) i;
      length = byte 3 (omega arith) i;
      good = eqb (register i) 0;
    }
  where
    byte : (j : ℕ) → j < 6 → byte_of (cells (behind mfm a + j)) ≡ cells (behind mfm a + j)
    byte j l = mod-eq_of_lt (h.plain j l)

    register : (gathered mfm cells (behind mfm a) 6).crc ≡ crc_from cells a (id_width mfm)
    register = sym (gathered_crc mfm cells a h.mark 6) ∙ ap (crc_from cells a) (omega arith)

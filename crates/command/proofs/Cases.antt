-- The cases of command bytes, each proved as one statement over one list.
-- Assumes nothing.
use mathlib.Core.Path.{◌≡◌, refl, ap}
use mathlib.Core.Bool.{true, false, cond, not}
use mathlib.Core.List.{List, [], ◌∷◌, map}
use Prim.Native.Nat.{ℕ, ◌<◌, zero-le}
use lib.Dec.{eqb}
use lib.ListN.{length}
use mir.Val.{has_key}
use Rattle.command.specs.Commands.{decoded_by_both, decoded_with_u, decoded_of, decode_refusal}
use Rattle.command.specs.Sizes.{size_of, field_size}
use Rattle.command.specs.declared.Chip.{Chip}
use Rattle.command.specs.declared.Chip.TheVariants.{Wd1793, Wd1797}
use Rattle.std.specs.Prelude.{None}
use Rattle.common.proofs.Arms.{count, range_but}

-- 80, C4 are accepted; 9F, C3 are refused with 7: on both chips
pub accepted_and_refused :
    (chip : Chip) → map (λ byte. decode_refusal (decoded_of chip byte)) (0x80 ∷ 0xC4 ∷ 0x9F ∷ 0xC3 ∷ []) ≡ 0 ∷ 0 ∷ 7 ∷ 7 ∷ []
unfolding decoded_of decoded_by_both decoded_with_u
accepted_and_refused Wd1793 = refl
accepted_and_refused Wd1797 = refl

-- those of a list's bytes that are no command
abbrev pub refused_of : Chip → List ℕ → List ℕ
refused_of chip [] = []
refused_of chip (byte ∷ bytes) =
    let rest = refused_of chip bytes in
    cond (eqb (decode_refusal (decoded_of chip byte)) 7) (byte ∷ rest) rest

-- the bytes that a chip refuses: the odd ones of 80-9F, all of E0-EF, and of C0-CF and F0-FF all but the commands
abbrev pub refused_bytes : Chip → List ℕ
refused_bytes Wd1793 =
    0x81 ∷ 0x83 ∷ 0x85 ∷ 0x87 ∷ 0x89 ∷ 0x8B ∷ 0x8D ∷ 0x8F ∷ 0x91 ∷ 0x93 ∷ 0x95 ∷ 0x97 ∷ 0x99 ∷ 0x9B ∷ 0x9D ∷ 0x9F ∷
    0xC1 ∷ 0xC2 ∷ 0xC3 ∷ 0xC5 ∷ 0xC6 ∷ 0xC7 ∷ 0xC8 ∷ 0xC9 ∷ 0xCA ∷ 0xCB ∷ 0xCC ∷ 0xCD ∷ 0xCE ∷ 0xCF ∷
    0xE0 ∷ 0xE1 ∷ 0xE2 ∷ 0xE3 ∷ 0xE4 ∷ 0xE5 ∷ 0xE6 ∷ 0xE7 ∷ 0xE8 ∷ 0xE9 ∷ 0xEA ∷ 0xEB ∷ 0xEC ∷ 0xED ∷ 0xEE ∷ 0xEF ∷
    0xF1 ∷ 0xF2 ∷ 0xF3 ∷ 0xF5 ∷ 0xF6 ∷ 0xF7 ∷ 0xF8 ∷ 0xF9 ∷ 0xFA ∷ 0xFB ∷ 0xFC ∷ 0xFD ∷ 0xFE ∷ 0xFF ∷ []
refused_bytes Wd1797 =
    0x81 ∷ 0x83 ∷ 0x85 ∷ 0x87 ∷ 0x89 ∷ 0x8B ∷ 0x8D ∷ 0x8F ∷ 0x91 ∷ 0x93 ∷ 0x95 ∷ 0x97 ∷ 0x99 ∷ 0x9B ∷ 0x9D ∷ 0x9F ∷
    0xC1 ∷ 0xC3 ∷ 0xC5 ∷ 0xC7 ∷ 0xC8 ∷ 0xC9 ∷ 0xCA ∷ 0xCB ∷ 0xCC ∷ 0xCD ∷ 0xCE ∷ 0xCF ∷
    0xE0 ∷ 0xE1 ∷ 0xE2 ∷ 0xE3 ∷ 0xE4 ∷ 0xE5 ∷ 0xE6 ∷ 0xE7 ∷ 0xE8 ∷ 0xE9 ∷ 0xEA ∷ 0xEB ∷ 0xEC ∷ 0xED ∷ 0xEE ∷ 0xEF ∷
    0xF1 ∷ 0xF3 ∷ 0xF5 ∷ 0xF7 ∷ 0xF8 ∷ 0xF9 ∷ 0xFA ∷ 0xFB ∷ 0xFC ∷ 0xFD ∷ 0xFE ∷ 0xFF ∷ []

-- "For the 1793 the bytes refused are now 60.": the WD1797 takes C2, C6, F2, F6 of them
abbrev pub refused_count : Chip → ℕ
refused_count Wd1793 = 60
refused_count Wd1797 = 56

pub refused_bytes_lem :
    (chip : Chip) → (refused_of chip (count 0 256) ≡ refused_bytes chip) × (length (refused_bytes chip) ≡ refused_count chip)
unfolding decoded_of decoded_by_both decoded_with_u
refused_bytes_lem Wd1793 = (refl, refl)
refused_bytes_lem Wd1797 = (refl, refl)

-- a byte of the list, and any other byte
pub listed_refused :
    (chip : Chip) {byte : ℕ} → byte < 256 → has_key (refused_bytes chip) byte ≡ true → None ≡ decoded_of chip byte
unfolding decoded_of decoded_by_both decoded_with_u
listed_refused Wd1793 low e = range_but (decoded_of Wd1793) (λ k. not (has_key (refused_bytes Wd1793) k)) 0 256 refl zero-le low (ap not e)
listed_refused Wd1797 low e = range_but (decoded_of Wd1797) (λ k. not (has_key (refused_bytes Wd1797) k)) 0 256 refl zero-le low (ap not e)

pub others_taken :
    (chip : Chip) {byte : ℕ} → byte < 256 → has_key (refused_bytes chip) byte ≡ false → 0 ≡ decode_refusal (decoded_of chip byte)
unfolding decoded_of decoded_by_both decoded_with_u
others_taken Wd1793 = range_but (λ k. decode_refusal (decoded_of Wd1793 k)) (has_key (refused_bytes Wd1793)) 0 256 refl zero-le
others_taken Wd1797 = range_but (λ k. decode_refusal (decoded_of Wd1797 k)) (has_key (refused_bytes Wd1797)) 0 256 refl zero-le

-- the data sheet's table of the length flag, for L 0 and L 1, by the length field of an ID: 00, 01, 10, 11
pub length_flag :
    map (λ flag. map (field_size flag) (0 ∷ 1 ∷ 2 ∷ 3 ∷ [])) (false ∷ true ∷ [])
    ≡ (256 ∷ 512 ∷ 1024 ∷ 128 ∷ []) ∷ (128 ∷ 256 ∷ 512 ∷ 1024 ∷ []) ∷ []
unfolding field_size size_of
length_flag = refl

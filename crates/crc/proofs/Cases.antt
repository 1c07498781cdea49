-- Document 01, "Cases", the CRC line, as one statement over one list. Assumes nothing.
use mathlib.Core.Path.{◌≡◌, refl}
use mathlib.Core.List.{List, [], ◌∷◌, map}
use Prim.Native.Nat.{ℕ}
use Rattle.crc.specs.Crc.{crc_bit, crc_bits, crc_byte, crc_over, preset}

-- "from FFFF": the register after a field
abbrev pub register_of : List ℕ → ℕ
register_of bs = crc_over preset bs

-- FE gives EF21, FB BF84, F8 8FE7; A1 A1 A1 CDB4, then FE B230; FE 00 00 01 00 D2C3
pub cases :
    map register_of
    ((0xFE ∷ [])
    ∷ (0xFB ∷ [])
    ∷ (0xF8 ∷ [])
    ∷ (0xA1 ∷ 0xA1 ∷ 0xA1 ∷ [])
    ∷ (0xA1 ∷ 0xA1 ∷ 0xA1 ∷ 0xFE ∷ [])
    ∷ (0xFE ∷ 0x00 ∷ 0x00 ∷ 0x01 ∷ 0x00 ∷ [])
    ∷ [])
    ≡ 0xEF21 ∷ 0xBF84 ∷ 0x8FE7 ∷ 0xCDB4 ∷ 0xB230 ∷ 0xD2C3 ∷ []
unfolding crc_over crc_byte crc_bits crc_bit
cases = refl

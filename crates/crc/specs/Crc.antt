-- The CRC register of document 01, "Fields", bit by bit. Assumes nothing.
use Rattle.std.specs.Prelude.{List, [], ◌∷◌, ℕ, zero, suc, ◌+◌, ◌*◌, ◌/◌, ◌%◌, ◌^◌}
use Rattle.std.specs.Int.Bits.{bit_xor}

-- "x^16+x^12+x^5+1": x^16 is the bit that leaves a register of 16; these are the others.
abbrev pub polynomial : ℕ
polynomial = 2 ^ 12 + 2 ^ 5 + 1

-- "preset FFFF"
abbrev pub preset : ℕ
preset = 0xFFFF

-- One bit: the register goes up by one place, and where a 1 leaves at the top, the polynomial is added.
unfoldable pub crc_bit : ℕ → ℕ
crc_bit c = bit_xor (c * 2 % 65536) (c / 32768 * polynomial)

unfoldable pub crc_bits : ℕ → ℕ → ℕ
crc_bits zero c = c
crc_bits (suc n) c = crc_bits n (crc_bit c)

-- "high bit first": a byte is added to the high half, and eight bits go by.
unfoldable pub crc_byte : ℕ → ℕ → ℕ
crc_byte c b = crc_bits 8 (bit_xor c (b * 256))

-- The register after the bytes of a field, from the register before them.
unfoldable pub crc_over : ℕ → List ℕ → ℕ
crc_over c [] = c
crc_over c (b ∷ bs) = crc_over (crc_byte c b) bs

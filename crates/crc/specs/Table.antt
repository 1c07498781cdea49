-- The CRC's table. Assumes nothing.
use Rattle.std.specs.Prelude.{ℕ, ◌*◌}
use Rattle.crc.specs.Crc.{crc_bits}

-- word i: what byte i in the high half of an empty register comes to after its eight bits
abbrev pub word : ℕ → ℕ
word i = crc_bits 8 (i * 256)

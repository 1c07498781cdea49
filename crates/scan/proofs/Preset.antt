-- The register after the three A1s of an MFM mark. Assumes nothing.
use mathlib.Core.Path.{◌≡◌, refl}
use Rattle.crc.specs.Crc.{preset, crc_bit, crc_bits, crc_byte}

pub after_syncs : crc_byte (crc_byte (crc_byte preset 0xA1) 0xA1) 0xA1 ≡ 0xCDB4
unfolding crc_byte crc_bits crc_bit
after_syncs = refl

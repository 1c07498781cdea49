-- The data mark that Write Sector writes: its byte, and that both densities have it. Assumes nothing.
use mathlib.Core.Path.{◌≡◌, refl}
use mathlib.Core.Bool.{Bool, true, false, cond}
use Prim.Native.Nat.{ℕ}
use Rattle.common.specs.Bits.{bit_of}
use Rattle.common.proofs.Cases.{by_cond}
use Rattle.scan.specs.DataMarks.{mark_byte, density_has}
use Rattle.scan.specs.declared.DataMark.TheVariants.{Fb, F8}
use Rattle.command.specs.Bits.{mark_written}

-- "Write Sector still writes FB or F8."
pub written_byte : (byte : ℕ) → mark_byte (mark_written byte) ≡ cond (bit_of byte 0) 0xF8 0xFB
unfolding mark_written mark_byte
written_byte byte = by (bit_of byte 0)
  where
    by : (deleted : Bool) → mark_byte (cond deleted F8 Fb) ≡ cond deleted 0xF8 0xFB
    by true = refl
    by false = refl

pub written_had : (mfm : Bool) (byte : ℕ) → density_has mfm (mark_written byte) ≡ true
unfolding mark_written density_has
written_had mfm byte = by_cond (λ mark. density_has mfm mark ≡ true) (bit_of byte 0) (λ e. refl) (λ e. refl)

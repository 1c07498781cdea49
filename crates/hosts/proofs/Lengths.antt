-- How many bytes a length code stands for, by the demands' words and by the order that a command leaves. Assumes nothing.
use mathlib.Core.Path.{◌≡◌, refl}
use mathlib.Core.Bool.{Bool, true, false, cond}
use mathlib.Core.List.{[], ◌∷◌}
use Prim.Native.Nat.{ℕ, zero, suc, ◌%◌, ◌<◌}
use native.Mathlib.Nat.{mod-lt}
use native.Mathlib.Omega.{arith}
use lib.Dec.{eqb}
use lib.ListN.{get_or}
use Rattle.common.specs.Bits.{bit_of}
use Rattle.command.specs.Bits.{ibm_lengths}
use Rattle.command.specs.Sizes.{size_of, other_sizes, field_size}
use Rattle.command.specs.declared.Chip.{Chip}
use Rattle.command.specs.declared.Chip.TheVariants.{Wd1793, Wd1797}
use Rattle.hosts.specs.Scenes.{by_code, field_bytes}

-- the four lengths are a table's
by_table : (a b c d low : ℕ) → low < 4
    → get_or (a ∷ b ∷ c ∷ d ∷ []) low 0 ≡ cond (eqb low 0) a (cond (eqb low 1) b (cond (eqb low 2) c d))
by_table a b c d zero l = refl
by_table a b c d (suc zero) l = refl
by_table a b c d (suc (suc zero)) l = refl
by_table a b c d (suc (suc (suc zero))) l = refl
by_table a b c d (suc (suc (suc (suc low)))) l = absurd (omega arith)

by_code_lem : (a b c d code : ℕ) → get_or (a ∷ b ∷ c ∷ d ∷ []) (code % 4) 0 ≡ by_code a b c d code
unfolding by_code
by_code_lem a b c d code = by_table a b c d (code % 4) (mod-lt code (omega arith))

pub length_bytes : (chip : Chip) (byte code : ℕ) → field_size (ibm_lengths chip byte) code ≡ field_bytes chip byte code
unfolding field_size size_of ibm_lengths field_bytes
length_bytes Wd1793 byte code = by_code_lem 128 256 512 1024 code
length_bytes Wd1797 byte code = by (bit_of byte 3)
  where
    by : (ibm : Bool)
        → cond ibm (size_of code) (get_or other_sizes (code % 4) 0)
        ≡ cond ibm (by_code 128 256 512 1024 code) (by_code 256 512 1024 128 code)
    by true = by_code_lem 128 256 512 1024 code
    by false = by_code_lem 256 512 1024 128 code

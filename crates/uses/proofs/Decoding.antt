-- Which command a byte is, of those that document 01's rows name for Read Sector and Write Sector. Assumes nothing.
use mathlib.Core.Path.{◌≡◌, refl, sym, ap, ◌∙◌}
use mathlib.Core.Bool.{Bool}
use Prim.Native.Nat.{ℕ, ◌+◌, ◌-◌, ◌*◌, ◌/◌, ◌%◌, ◌≤◌}
use native.Mathlib.Omega.{arith}
use Rattle.common.proofs.Arms.{range}
use Rattle.command.specs.Commands.{decoded_by_both, decoded_of}
use Rattle.command.specs.declared.Chip.{Chip}
use Rattle.command.specs.declared.Command.TheVariants.{ReadSector, WriteSector}
use Rattle.std.specs.Prelude.{Some}
use Rattle.uses.specs.Courses.{SectorRead, SingleWrite}

-- "even 80-9E Read Sector"
pub reads_sector : (chip : Chip) (b : ℕ) → 0x80 ≤ b → b ≤ 0x9E → b % 2 ≡ 0 → decoded_of chip b ≡ Some ReadSector
unfolding decoded_of decoded_by_both
reads_sector chip b first last even =
    let half : ℕ = (b - 0x80) / 2 in
    let same : 0x80 + 2 * half ≡ b = omega arith in
    ap (decoded_of chip) (sym same)
    ∙ sym (range (λ (k : ℕ). decoded_of chip (0x80 + 2 * k)) {x = half} 0 16 refl (omega arith) (omega arith))

pub decodes_read : {multiple : Bool} (chip : Chip) (b : ℕ) → SectorRead multiple b → decoded_of chip b ≡ Some ReadSector
decodes_read chip b is = reads_sector chip b is.first is.last is.even

-- "A0-BF Write Sector"
pub writes_sector : (chip : Chip) (b : ℕ) → 0xA0 ≤ b → b ≤ 0xBF → decoded_of chip b ≡ Some WriteSector
unfolding decoded_of decoded_by_both
writes_sector chip b first last = sym (range (decoded_of chip) {x = b} 0xA0 32 refl first (omega arith))

pub decodes_write : (chip : Chip) (b : ℕ) → SingleWrite b → decoded_of chip b ≡ Some WriteSector
decodes_write chip b is = writes_sector chip b is.first is.last

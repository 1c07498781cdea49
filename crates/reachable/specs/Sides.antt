-- The side output, in the words of document 02, i: what sets it, what leaves it, and that a WD1793 has none. Assumes nothing.
use Rattle.std.specs.Prelude.{◌≡◌, false, List, ◌⊎◌, ℕ, ◌≤◌}
use Rattle.common.specs.Bits.{bit_of}
use Rattle.command.specs.declared.Chip.TheVariants.{Wd1793, Wd1797}
use Rattle.registers.specs.declared.Lines.{Lines}
use Rattle.wd.specs.declared.Machine.{Machine}
use Rattle.wd.specs.Reads.{read_register}
use Rattle.wd.specs.Loads.{load_register}
use Rattle.wd.specs.Rows.{byte_time, run_of}
use Rattle.reachable.specs.Growth.{Grown}
use Rattle.refusals.specs.Numbers.{done}

-- the bytes of Types II and III
abbrev pub TypeTwoOrThree : ℕ → Type 0
TypeTwoOrThree b = ((0x80 ≤ b) × (b ≤ 0xCF)) ⊎ ((0xF0 ≤ b) × (b ≤ 0xFF))

-- the bytes of Type I, and Force Interrupt's
abbrev pub TypeOneOrFour : ℕ → Type 0
TypeOneOrFour b = (b ≤ 0x7F) ⊎ ((0xD0 ≤ b) × (b ≤ 0xDF))

pub record SideOutput (m : Machine) : Type 0 where
  -- "U goes to the side output at acceptance": bit 1, whether the drive is ready, the disk protected, or neither
  pub set : (l : Lines) (b : ℕ)
      → m.chip ≡ Wd1797
      → TypeTwoOrThree b
      → (load_register m l 0 b).outcome ≡ done
      → (load_register m l 0 b).machine.sso ≡ bit_of b 1
  -- the other commands leave it, and so does every other call, refused or not
  pub left : (l : Lines) (b : ℕ) → TypeOneOrFour b → (load_register m l 0 b).machine.sso ≡ m.sso
  pub refused : (l : Lines) (b : ℕ) → ((load_register m l 0 b).outcome ≡ done → ⊥) → (load_register m l 0 b).machine.sso ≡ m.sso
  pub loads : (l : Lines) (number b : ℕ) → (number ≡ 0 → ⊥) → (load_register m l number b).machine.sso ≡ m.sso
  pub reads : (l : Lines) (number : ℕ) → (read_register m l number).machine.sso ≡ m.sso
  pub byte_times : (l : Lines) (row : List ℕ) → (byte_time m l row).machine.sso ≡ m.sso
  pub runs : (l : Lines) (limit : ℕ) (row : List ℕ) → (run_of m l limit row).machine.sso ≡ m.sso
  -- "All 1793 answers stay": its output is never on
  pub none : Grown m → m.chip ≡ Wd1793 → m.sso ≡ false

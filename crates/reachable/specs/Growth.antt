-- The machines that a host can come to hold, and what stays the same in all of them. Assumes nothing.
use Rattle.std.specs.Prelude.{◌≡◌, Bool, List, ℕ, ◌<◌}
use Rattle.command.specs.declared.Chip.{Chip}
use Rattle.registers.specs.declared.Lines.{Lines}
use Rattle.wd.specs.declared.Machine.{Machine}
use Rattle.wd.specs.Machines.{power_on}
use Rattle.wd.specs.Reads.{read_register}
use Rattle.wd.specs.Loads.{load_register}
use Rattle.wd.specs.Rows.{byte_time, run_of}

-- "any machine grown from power-on": what power-on hands back, and what any call hands back for a machine grown before,
-- refused or not. A byte is below 256; a length, register number, limit or cell that is too large for its type would grow no
-- machine more, since it is refused or makes byte times like any other.
pub data Grown : Machine → Type 0 where
  power_on_call : (length : ℕ) (mfm : Bool) (chip : Chip) → Grown (power_on length mfm chip).machine
  load : {m : Machine} → Grown m → (l : Lines) (number b : ℕ) → b < 256 → Grown (load_register m l number b).machine
  read : {m : Machine} → Grown m → (l : Lines) (number : ℕ) → Grown (read_register m l number).machine
  byte_time_call : {m : Machine} → Grown m → (l : Lines) (row : List ℕ) → Grown (byte_time m l row).machine
  run : {m : Machine} → Grown m → (l : Lines) (limit : ℕ) (row : List ℕ) → Grown (run_of m l limit row).machine

-- "Power-on is given L and density (FM or MFM), fixed from then on." "Power-on names the chip.": the second machine has those of the
-- first
pub record Fixed (m n : Machine) : Type 0 where
  pub length : n.ring.length ≡ m.ring.length
  pub density : n.mfm ≡ m.mfm
  pub chip : n.chip ≡ m.chip

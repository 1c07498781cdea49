-- The machines that the program tries `Refusal.Machine` with, and what the calls give for them. Assumes nothing.
use Rattle.std.specs.Prelude.{true, false, List, [], ◌∷◌, ℕ}
use Rattle.command.specs.declared.Chip.TheVariants.{Wd1793}
use Rattle.activity.specs.declared.Activity.{Activity}
use Rattle.registers.specs.declared.Lines.{Lines}
use Rattle.registers.specs.declared.Ring.{Ring}
use Rattle.wd.specs.declared.Machine.{Machine}
use Rattle.refusals.specs.Numbers.{number_in}
use Rattle.wd.specs.Machines.{power_on}
use Rattle.wd.specs.Loads.{load_register}
use Rattle.wd.specs.Reads.{read_register}
use Rattle.wd.specs.Rows.{byte_time, byte_time_row, run_of}

-- "The largest ring goes from 6,400 to 10,416 cells.": room for a row one cell longer
abbrev pub room_for_cells : ℕ
room_for_cells = 10417

-- the machine of power-on, but for its ring and its activity
unfoldable pub machine_with : Ring → Activity → Machine
machine_with ring activity =
    let fresh = (power_on 2048 true Wd1793).machine in
    record {
      ring = ring;
      chip = fresh.chip;
      mfm = fresh.mfm;
      sso = fresh.sso;
      regs = fresh.regs;
      wires = fresh.wires;
      flags = fresh.flags;
      head = fresh.head;
      past = fresh.past;
      order = fresh.order;
      activity = activity;
    }

-- "Drive lines Ready, protect, track 0 and head-loaded (HLT)": Ready and HLT are on
abbrev pub ready_lines : Lines
ready_lines = record { ready = true; protect = false; track0 = false; hlt = true }

-- the numbers that load, read, byte time and run give: DR is loaded and read, and the run is of one byte time
unfoldable pub numbers_of : Machine → List ℕ → List ℕ
numbers_of m row =
    number_in (load_register m ready_lines 3 0).outcome
    ∷ number_in (read_register m ready_lines 3).outcome
    ∷ number_in (byte_time m ready_lines row).outcome
    ∷ number_in (run_of m ready_lines 1 (byte_time_row m ready_lines row)).outcome
    ∷ []

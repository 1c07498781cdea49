-- Power-on, and the machines that refusal 2 lets through. Assumes nothing.
use Rattle.std.specs.Prelude.{Bool, true, false, cond, ◌&&◌, ℕ, None}
use Rattle.command.specs.declared.Chip.{Chip}
use Rattle.command.specs.declared.Command.TheVariants.{ForceInterrupt}
use Rattle.activity.specs.Limits.{counts_within}
use Rattle.activity.specs.declared.Activity.TheVariants.{Idle}
use Rattle.registers.specs.declared.Flags.{Flags}
use Rattle.wd.specs.declared.Machine.{Machine}
use Rattle.wd.specs.declared.Called.{Called}
use Rattle.refusals.specs.declared.Refusal.TheVariants as refusal
use Rattle.refusals.specs.Numbers.{Outcome, done, refused}
use Rattle.scan.specs.Rows.{shortest_row, length_within}
use Rattle.registers.specs.Rings.{ring_within}

-- what power-on and a load answer
abbrev pub called : Outcome → Machine → Called
called outcome m = record { outcome = outcome; machine = m }

-- "or a count above the largest its activity holds in any machine grown from power-on"
unfoldable pub valid_of : Machine → Bool
valid_of m = ring_within m.ring && counts_within m.activity

-- "Type I status", with nothing on
abbrev pub clear_flags : Flags
clear_flags = record { type1 = true; protected = false; deleted = false; missing = false; crc = false; lost = false }

-- "It gives: position 0, track register (TR) 0, sector register (SR) 1, data register (DR) 0, direction out, head unloaded,
-- idle, Ready last seen off, DRQ and INTRQ off, Type I status.": and all that it does not name is off. The order is of a Force
-- Interrupt that asks for nothing, which is over as it is accepted. "Power-on names the chip."
unfoldable pub fresh_machine : ℕ → Bool → Chip → Machine
fresh_machine length mfm chip =
    record {
      ring = record { length = length; position = 0 };
      chip = chip;
      mfm = mfm;
      sso = false;
      regs = record { tr = 0; sr = 1; dr = 0 };
      wires = record { drq = false; intrq = false };
      flags = clear_flags;
      head = record { loaded = false; inward = false };
      past = record { ready = false; index = false };
      order = record { command = ForceInterrupt; byte = 0; inward = false; side = None; ibm = true };
      activity = Idle;
    }

-- 1: "a length outside .. at power-on": "power-on FM machine of 2,048", of the chip that was named
unfoldable pub power_on : ℕ → Bool → Chip → Called
power_on length mfm chip =
    cond (length_within length)
    (called done (fresh_machine length mfm chip))
    (called (refused refusal.Length) (fresh_machine shortest_row false chip))

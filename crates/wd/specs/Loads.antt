-- Loading a register, and what an accepted command does at once: document 01, "Registers and commands", and document 02, i. Of all
-- calls the load alone asks the chip. Assumes nothing.
use Rattle.std.specs.Prelude.{cond, not, ◌&&◌, ℕ, eqb, is_ok, Option, Some, None}
use Rattle.command.specs.Commands.{class_of, decoded_of}
use Rattle.command.specs.Orders.{order_of}
use Rattle.command.specs.declared.Command.{Command}
use Rattle.activity.specs.Limits.{busy_in}
use Rattle.registers.specs.declared.Lines.{Lines}
use Rattle.wd.specs.declared.Machine.{Machine}
use Rattle.wd.specs.declared.Called.{Called}
use Rattle.wd.specs.Machines.{valid_of, called}
use Rattle.wd.specs.Reads.{with_bus}
use Rattle.registers.specs.Registers.{load_refusal, load_regs, load_wires}
use Rattle.refusals.specs.declared.Refusal.TheVariants as refusal
use Rattle.refusals.specs.Numbers.{done, refused}
use Rattle.accepting.specs.Accepting.{held_by, ends_at_once, asks_first, begin_regs, begin_wires, begin_flags, begin_head, begin_activity, begin_side}

-- ---- an accepted command

unfoldable pub command_begun : Machine → Lines → ℕ → Command → Machine
command_begun m l b command =
    record {
      ring = m.ring;
      chip = m.chip;
      mfm = m.mfm;
      sso = begin_side m.sso m.chip b (class_of command);
      regs = begin_regs m.regs command;
      wires =
          begin_wires m.wires (asks_first command && not (ends_at_once command l)) (ends_at_once command l) b (class_of command);
      flags = begin_flags m.flags (held_by command l) (busy_in m.activity) (class_of command);
      head = begin_head m.head (ends_at_once command l) b (class_of command);
      past = m.past;
      order = order_of m.chip command b m.head.inward;
      activity = begin_activity (ends_at_once command l) m.mfm b (class_of command);
    }

-- 7: "the byte is no command"
unfoldable pub command_answer : Machine → Lines → ℕ → Option Command → Called
command_answer m l b (Some command) = called done (command_begun m l b command)
command_answer m l b None = called (refused refusal.Command) m

-- a refused load: "as given"
unfoldable pub load_register : Machine → Lines → ℕ → ℕ → Called
load_register m l number b =
    cond (is_ok (load_refusal (valid_of m) (busy_in m.activity) number b))
    (cond (eqb number 0) (command_answer m l b (decoded_of m.chip b))
    (called done (with_bus m (load_regs m.regs number b) (load_wires m.wires number))))
    (called (load_refusal (valid_of m) (busy_in m.activity) number b) m)

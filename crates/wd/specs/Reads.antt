-- Reading a register. Assumes nothing.
use Rattle.std.specs.Prelude.{cond, ◌&&◌, ℕ, is_ok}
use Rattle.registers.specs.declared.Regs.{Regs}
use Rattle.registers.specs.declared.Wires.{Wires}
use Rattle.registers.specs.declared.Lines.{Lines}
use Rattle.wd.specs.declared.Machine.{Machine}
use Rattle.registers.specs.declared.Status.{Status}
use Rattle.wd.specs.declared.Read.{Read}
use Rattle.wd.specs.Machines.{valid_of}
use Rattle.registers.specs.Status.{type1_of, type2_of, status_from}
use Rattle.activity.specs.Limits.{busy_in}
use Rattle.refusals.specs.Numbers.{done}
use Rattle.registers.specs.Registers.{read_refusal, read_byte, read_wires}

-- the status byte of a machine under these lines; looking at it changes nothing
unfoldable pub status_of : Machine → Lines → Status
status_of m l =
    cond m.flags.type1
    (status_from (type1_of (m.head.loaded && l.hlt) m.past.index l) m.flags (busy_in m.activity) l.ready)
    (status_from (type2_of m.flags m.wires.drq) m.flags (busy_in m.activity) l.ready)

-- the machine with other registers and wires
abbrev pub with_bus : Machine → Regs → Wires → Machine
with_bus m r w =
    record {
      ring = m.ring;
      chip = m.chip;
      mfm = m.mfm;
      sso = m.sso;
      regs = r;
      wires = w;
      flags = m.flags;
      head = m.head;
      past = m.past;
      order = m.order;
      activity = m.activity;
    }

-- a refused read: "as given, byte 0"
unfoldable pub read_register : Machine → Lines → ℕ → Read
read_register m l number =
    cond (is_ok (read_refusal (valid_of m) number))
    (record {
      outcome = done;
      byte = read_byte m.regs (status_of m l) number;
      machine = with_bus m m.regs (read_wires m.wires number);
    })
    (record { outcome = read_refusal (valid_of m) number; byte = 0; machine = m })

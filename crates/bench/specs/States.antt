-- The state that a line prints. Assumes nothing.
use Rattle.registers.specs.declared.Lines.{Lines}
use Rattle.wd.specs.declared.Machine.{Machine}
use Rattle.wd.specs.Reads.{read_register}
use Rattle.bench.specs.declared.answers.State.{State}

-- "the status byte that a read would give now under the present drive lines .. TR, SR, DR, DRQ and INTRQ .. and the head
-- position"; "Where the machine is a WD1797", the side output
unfoldable pub state_of : Machine → Lines → State
state_of m lines =
    record {
      status = (read_register m lines 0).byte;
      regs = m.regs;
      wires = m.wires;
      position = m.ring.position;
      chip = m.chip;
      sso = m.sso;
    }

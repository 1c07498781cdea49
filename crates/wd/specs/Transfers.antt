-- The machine after a byte time in which a byte was transferred, and the run that is no more than that. Assumes nothing.
use Rattle.std.specs.Prelude.{Bool, true, cond, ◌||◌, ℕ, ltb, eqb, Option, None}
use Rattle.activity.specs.declared.Activity.{Activity}
use Rattle.registers.specs.declared.Conditions.{Conditions}
use Rattle.registers.specs.declared.Lines.{Lines}
use Rattle.registers.specs.Rings.{ring_next}
use Rattle.effects.specs.Effects.{with_lost}
use Rattle.refusals.specs.Numbers.{done}
use Rattle.transfer.specs.Transfers.{transfer_in}
use Rattle.transfer.specs.declared.Transfer.{Transfer}
use Rattle.wd.specs.declared.Machine.{Machine}
use Rattle.wd.specs.declared.Ran.{Ran}
use Rattle.wd.specs.Turns.{conditions_of, sees_of}

-- a condition of a Force Interrupt is asked
abbrev pub conditions_asked : Conditions → Bool
conditions_asked k = k.on || k.off || k.index

-- what is transferred, where the cell is not refused and no condition can be met
unfoldable pub transfer_now : Machine → Lines → ℕ → Option Transfer
transfer_now m l cell =
    cond (ltb 511 cell) None (cond (conditions_asked (conditions_of m)) None (transfer_in (sees_of m l cell) m.activity))

-- the machine after it: DRQ is on, and Lost Data where it was still on
unfoldable pub after_transfer : Machine → Bool → ℕ → Activity → Machine
after_transfer m ready dr next =
    record {
      ring = ring_next m.ring;
      chip = m.chip;
      mfm = m.mfm;
      sso = m.sso;
      regs = record { tr = m.regs.tr; sr = m.regs.sr; dr = dr };
      wires = record {
        drq = true;
        intrq = m.wires.intrq;
      };
      flags = with_lost m.flags (m.flags.lost || m.wires.drq);
      head = m.head;
      past = record { ready = ready; index = eqb m.ring.position 0 };
      order = m.order;
      activity = next;
    }

-- a run of that one byte time
unfoldable pub one_byte_time : Machine → Ran
one_byte_time m = record { outcome = done; tally = record { passed = 1; inward = 0; outward = 0 }; machine = m }

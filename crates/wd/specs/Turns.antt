-- One byte time over the cell that passes: document 01, "The ring of cells". Assumes nothing.
use Rattle.std.specs.Prelude.{Bool, not, ◌&&◌, ◌||◌, ℕ}
use Rattle.command.specs.Commands.{class_of}
use Rattle.accepting.specs.Accepting.{conditions_for}
use Rattle.activity.specs.Limits.{busy_in}
use Rattle.act.specs.Turns.{act_of}
use Rattle.activity.specs.declared.Act.{Act}
use Rattle.activity.specs.declared.Seen.{Seen}
use Rattle.registers.specs.declared.Conditions.{Conditions}
use Rattle.registers.specs.declared.Lines.{Lines}
use Rattle.wd.specs.declared.Machine.{Machine}
use Rattle.wd.specs.declared.Turn.{Turn}
use Rattle.effects.specs.Effects.{effect_of}
use Rattle.effects.specs.declared.Parts.{Parts}
use Rattle.registers.specs.declared.Pulse.TheVariants as pulse
use Rattle.registers.specs.Rings.{ring_next, seen_of, condition_met}

-- "Any later command drops these.": the conditions are those of the last command
abbrev pub conditions_of : Machine → Conditions
conditions_of m = conditions_for m.order.byte (class_of m.order.command)

-- what a deed can change, with no pulse reported yet
abbrev pub parts_of : Machine → Parts
parts_of m = record { regs = m.regs; drq = m.wires.drq; flags = m.flags; head = m.head; pulse = pulse.Off }

-- "When it ends by itself, Busy goes off and INTRQ on in that byte time."
unfoldable pub act_applied : Machine → Act → Bool → Bool → Turn
act_applied m a ready index =
    record {
      machine = record {
        ring = ring_next m.ring;
        chip = m.chip;
        mfm = m.mfm;
        sso = m.sso;
        regs = (effect_of (parts_of m) a.deed).regs;
        wires = record {
          drq = (effect_of (parts_of m) a.deed).drq;
          intrq =
              m.wires.intrq
              || condition_met (conditions_of m) m.past.ready ready index
              || (busy_in m.activity && not (busy_in a.next));
        };
        flags = (effect_of (parts_of m) a.deed).flags;
        head = (effect_of (parts_of m) a.deed).head;
        past = record { ready = ready; index = index };
        order = m.order;
        activity = a.next;
      };
      cell = a.cell;
      pulse = (effect_of (parts_of m) a.deed).pulse;
    }

-- what the machine sees and does over a cell
abbrev pub sees_of : Machine → Lines → ℕ → Seen
sees_of m l cell = seen_of m.mfm m.ring m.regs m.wires.drq l cell

abbrev pub does_of : Machine → Lines → ℕ → Act
does_of m l cell = act_of m.order (sees_of m l cell) m.activity

unfoldable pub cell_turn : Machine → Lines → ℕ → Turn
cell_turn m l cell = act_applied m (does_of m l cell) l.ready (sees_of m l cell).index

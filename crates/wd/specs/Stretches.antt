-- The machine after a stretch: what byte times come to in which nothing happens but that the ring turns. Assumes nothing.
use Rattle.std.specs.Prelude.{Bool, false, cond, not, ◌&&◌, ◌||◌, List, ℕ, ◌+◌, eqb}
use Rattle.stretch.specs.Stretches.{activity_after, stretch_ahead}
use Rattle.wd.specs.declared.Machine.{Machine}
use Rattle.wd.specs.declared.Ran.{Ran}

-- after so many byte times of one, at least one
unfoldable pub after_stretch : Machine → ℕ → Bool → Machine
after_stretch m passed ready =
    record {
      ring = record { length = m.ring.length; position = m.ring.position + passed };
      chip = m.chip;
      mfm = m.mfm;
      sso = m.sso;
      regs = m.regs;
      wires = m.wires;
      flags = m.flags;
      head = m.head;
      past = record { ready = ready; index = false };
      order = m.order;
      activity = activity_after passed m.activity;
    }

-- how many a run begins with: none where a wire is on, nor where Ready is not as the last byte time saw it
unfoldable pub first_stretch : Machine → Bool → ℕ → List ℕ → ℕ
first_stretch m ready limit row =
    cond (m.wires.drq || m.wires.intrq || (m.past.ready && not ready) || (not m.past.ready && ready)) 0
    (stretch_ahead m.ring m.activity limit row)

-- a run, counting them
unfoldable pub ran_on : Ran → ℕ → Bool → Ran
ran_on ran passed ready =
    cond (eqb passed 0) ran
    (record {
      outcome = ran.outcome;
      tally = record {
        passed = ran.tally.passed + passed;
        inward = ran.tally.inward;
        outward = ran.tally.outward;
      };
      machine = after_stretch ran.machine passed ready;
    })

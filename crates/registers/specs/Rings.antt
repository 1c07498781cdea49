-- The ring, what a byte time sees on it, and when a condition of a Force Interrupt is met: document 01, "The ring of cells".
-- Assumes nothing.
use Rattle.std.specs.Prelude.{Bool, cond, ◌&&◌, not, ◌||◌, ℕ, ◌+◌, ltb, eqb}
use Rattle.scan.specs.Rows.{length_within}
use Rattle.registers.specs.declared.Ring.{Ring}
use Rattle.activity.specs.declared.Seen.{Seen}
use Rattle.registers.specs.declared.Regs.{Regs}
use Rattle.registers.specs.declared.Conditions.{Conditions}
use Rattle.registers.specs.declared.Lines.{Lines}

-- 2: "position not below L, L out of range"
unfoldable pub ring_within : Ring → Bool
ring_within r = length_within r.length && ltb r.position r.length

-- "then the position goes up by one, and from L - 1 to 0"; one that is not below L, which 2 refuses, stays
unfoldable pub ring_next : Ring → Ring
ring_next r =
    cond (ltb r.position r.length)
    (cond (eqb (r.position + 1) r.length)
    (record { length = r.length; position = 0 })
    (record { length = r.length; position = r.position + 1 }))
    r

-- "The byte time in which cell 0 passes is an index pulse"
unfoldable pub seen_of : Bool → Ring → Regs → Bool → Lines → ℕ → Seen
seen_of mfm r regs drq l cell =
    record {
      mfm = mfm;
      index = eqb r.position 0;
      last = eqb (r.position + 1) r.length;
      hlt = l.hlt;
      track0 = l.track0;
      drq = drq;
      tr = regs.tr;
      sr = regs.sr;
      dr = regs.dr;
      cell = cell;
    }

-- Force Interrupt: "bit 2 at each index pulse, bits 0 and 1 when Ready comes on or goes off between byte times"
unfoldable pub condition_met : Conditions → Bool → Bool → Bool → Bool
condition_met k was ready index = (k.on && ready && not was) || (k.off && not ready && was) || (k.index && index)

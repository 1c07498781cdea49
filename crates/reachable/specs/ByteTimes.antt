-- Byte times one after the other, and what a run is in terms of them: document 01, "The ring of cells". Assumes nothing.
use Rattle.std.specs.Prelude.{◌≡◌, Bool, true, false, cond, ◌||◌, List, ℕ, zero, suc, ◌+◌, ◌≤◌, ◌<◌}
use Rattle.registers.specs.declared.Ring.{Ring}
use Rattle.registers.specs.declared.Lines.{Lines}
use Rattle.registers.specs.declared.Pulse.{Pulse}
use Rattle.registers.specs.declared.Pulse.TheVariants as pulse
use Rattle.wd.specs.declared.Machine.{Machine}
use Rattle.wd.specs.declared.Tally.{Tally}
use Rattle.registers.specs.Rings.{ring_next}
use Rattle.refusals.specs.declared.Refusal.TheVariants as refusal
use Rattle.refusals.specs.Numbers.{Outcome, done, refused}
use Rattle.wd.specs.Rows.{byte_time, byte_time_row, Run}

-- "then the position goes up by one, and from L - 1 to 0", n times
unfoldable pub turns_on : ℕ → Ring → Ring
turns_on zero r = r
turns_on (suc n) r = turns_on n (ring_next r)

-- the machine after n byte times, the row after them, and how the byte time after them goes
unfoldable pub machine_after : ℕ → Machine → Lines → List ℕ → Machine
machine_after zero m l row = m
machine_after (suc n) m l row = machine_after n (byte_time m l row).machine l (byte_time_row m l row)

unfoldable pub row_after : ℕ → Machine → Lines → List ℕ → List ℕ
row_after zero m l row = row
row_after (suc n) m l row = row_after n (byte_time m l row).machine l (byte_time_row m l row)

abbrev pub outcome_after : ℕ → Machine → Lines → List ℕ → Outcome
outcome_after n m l row = (byte_time (machine_after n m l row) l (row_after n m l row)).outcome

-- "ends with DRQ or INTRQ on": one of the two wires signals to the host
abbrev pub signals : Machine → Bool
signals m = m.wires.drq || m.wires.intrq

-- what ends a run after n byte times, and its outcome then
pub data Stops (m : Machine) (l : Lines) (limit : ℕ) (row : List ℕ) (n : ℕ) : Outcome → Type 0 where
  by_limit : n ≡ limit → Stops m l limit row n done
  by_wire : 0 < n → signals (machine_after n m l row) ≡ true → Stops m l limit row n done
  by_cell :
      n < limit
      → (0 < n → signals (machine_after n m l row) ≡ false)
      → outcome_after n m l row ≡ refused refusal.Cell
      → Stops m l limit row n (refused refusal.Cell)

-- "A run call makes byte times up to a lent limit .. and stops after the first one that ends with DRQ or INTRQ on.": it makes
-- n, and hands back the machine and the row after them
pub record Makes (m : Machine) (l : Lines) (limit : ℕ) (row : List ℕ) (n : ℕ) (run : Run) : Type 0 where
  pub most : n ≤ limit
  pub accepted : (k : ℕ) → k < n → outcome_after k m l row ≡ done
  pub quiet : (k : ℕ) → suc k < n → signals (machine_after (suc k) m l row) ≡ false
  pub left : run.ran.machine ≡ machine_after n m l row
  pub written : run.row ≡ row_after n m l row
  pub stops : Stops m l limit row n run.ran.outcome

-- whether the pulse of a byte time is one in, and whether it is one out
unfoldable pub is_in : Pulse → Bool
is_in pulse.Off = false
is_in pulse.In = true
is_in pulse.Out = false

unfoldable pub is_out : Pulse → Bool
is_out pulse.Off = false
is_out pulse.In = false
is_out pulse.Out = true

-- how many of n byte times give such a pulse
unfoldable pub pulses : (Pulse → Bool) → ℕ → Machine → Lines → List ℕ → ℕ
pulses such zero m l row = 0
pulses such (suc n) m l row =
    cond (such (byte_time m l row).pulse) 1 0 + pulses such n (byte_time m l row).machine l (byte_time_row m l row)

-- "It reports how many passed. It counts step pulses in and out too.": the counts of n byte times
pub record Counts (m : Machine) (l : Lines) (row : List ℕ) (n : ℕ) (t : Tally) : Type 0 where
  pub passed : t.passed ≡ n
  pub inward : t.inward ≡ pulses is_in n m l row
  pub outward : t.outward ≡ pulses is_out n m l row

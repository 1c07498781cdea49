-- Byte times and runs over a lent row. Assumes nothing.
use Rattle.std.specs.Prelude.{Bool, cond, ◌||◌, List, ℕ, zero, suc, ◌+◌, ltb, eqb, is_ok, is_err, length, get_or, set}
use Rattle.registers.specs.declared.Lines.{Lines}
use Rattle.wd.specs.declared.Machine.{Machine}
use Rattle.wd.specs.declared.Turn.{Turn}
use Rattle.registers.specs.declared.Pulse.{Pulse}
use Rattle.registers.specs.declared.Pulse.TheVariants as pulse
use Rattle.wd.specs.declared.Passed.{Passed}
use Rattle.wd.specs.declared.Tally.{Tally}
use Rattle.wd.specs.declared.Ran.{Ran}
use Rattle.refusals.specs.declared.Refusal.TheVariants as refusal
use Rattle.refusals.specs.Numbers.{Outcome, done, refused}
use Rattle.wd.specs.Machines.{valid_of}
use Rattle.wd.specs.Turns.{cell_turn}

-- 2, and 3: "lent track is not L cells"
unfoldable pub row_refusal : Machine → ℕ → Outcome
row_refusal m size = cond (valid_of m) (cond (eqb size m.ring.length) done (refused refusal.Track)) (refused refusal.Machine)

-- "Each byte time the cell at the head position passes"
abbrev pub under : Machine → List ℕ → ℕ
under m row = get_or row m.ring.position 0

-- a refused byte time: "as given", no pulse
unfoldable pub refused_at : Outcome → Machine → Passed
refused_at outcome m = record { outcome = outcome; pulse = pulse.Off; machine = m }

unfoldable pub done_by : Turn → Passed
done_by t = record { outcome = done; pulse = t.pulse; machine = t.machine }

-- 4: "the cell under the head .. is above 511"
unfoldable pub byte_time : Machine → Lines → List ℕ → Passed
byte_time m l row =
    cond (is_ok (row_refusal m (length row)))
    (cond (ltb 511 (under m row)) (refused_at (refused refusal.Cell) m) (done_by (cell_turn m l (under m row))))
    (refused_at (row_refusal m (length row)) m)

-- the row after it: at most the cell under the head is another, and none in a refused byte time
unfoldable pub byte_time_row : Machine → Lines → List ℕ → List ℕ
byte_time_row m l row =
    cond (is_ok (row_refusal m (length row)))
    (cond (ltb 511 (under m row)) row (set row m.ring.position (cell_turn m l (under m row)).cell))
    row

-- ---- runs

-- "It counts step pulses in and out too."
unfoldable pub tallied : Tally → Pulse → Tally
tallied t pulse.Off = record { passed = t.passed + 1; inward = t.inward; outward = t.outward }
tallied t pulse.In = record { passed = t.passed + 1; inward = t.inward + 1; outward = t.outward }
tallied t pulse.Out = record { passed = t.passed + 1; inward = t.inward; outward = t.outward + 1 }

-- "It reports how many passed": a refused byte time has not
unfoldable pub counted_of : Tally → Outcome → Pulse → Tally
counted_of t outcome p = cond (is_ok outcome) (tallied t p) t

-- "A run stopped by 4 hands back the machine before the refused byte time, with the count passed until then"
unfoldable pub ran_to : Tally → Passed → Ran
ran_to t p = record { outcome = p.outcome; tally = counted_of t p.outcome p.pulse; machine = p.machine }

unfoldable pub empty_run : Outcome → Machine → Ran
empty_run outcome m = record { outcome = outcome; tally = record { passed = 0; inward = 0; outward = 0 }; machine = m }

-- "stops after the first one that ends with DRQ or INTRQ on"
unfoldable pub stops_at : Passed → Bool
stops_at p = is_err p.outcome || p.machine.wires.drq || p.machine.wires.intrq

-- how far a run has come, and the row as it is then
pub record Run : Type 0 where
  pub ran : Ran
  pub row : List ℕ

-- the byte time that comes next in it
abbrev pub next_in : Lines → Run → Passed
next_in l r = byte_time r.ran.machine l r.row

-- one byte time more
unfoldable pub onward : Lines → Run → Run
onward l r =
    record { ran = ran_to r.ran.tally (next_in l r); row = byte_time_row r.ran.machine l r.row }

-- "A run call makes byte times up to a lent limit"
unfoldable pub runs_on : ℕ → Lines → Run → Run
runs_on zero l r = r
runs_on (suc n) l r = cond (stops_at (next_in l r)) (onward l r) (runs_on n l (onward l r))

-- "Limit 0 only makes the checks for 2 and 3."
unfoldable pub run_from : Machine → Lines → ℕ → List ℕ → Run
run_from m l limit row =
    cond (is_ok (row_refusal m (length row)))
    (runs_on limit l (record { ran = empty_run done m; row = row }))
    (record { ran = empty_run (row_refusal m (length row)) m; row = row })

abbrev pub run_of : Machine → Lines → ℕ → List ℕ → Ran
run_of m l limit row = (run_from m l limit row).ran

abbrev pub run_row : Machine → Lines → ℕ → List ℕ → List ℕ
run_row m l limit row = (run_from m l limit row).row

-- a run that has come so far, so many byte times further
abbrev pub further_of : Ran → Lines → ℕ → List ℕ → Run
further_of ran l left row = runs_on left l (record { ran = ran; row = row })

-- What the loop of a run needs: a machine and a row that may pass, and room in its counts. Assumes nothing.
use Rattle.std.specs.Prelude.{◌≡◌, List, ℕ, ◌+◌, ◌≤◌, length}
use Rattle.refusals.specs.Numbers.{done}
use Rattle.wd.specs.declared.Machine.{Machine}
use Rattle.wd.specs.declared.Tally.{Tally}
use Rattle.wd.specs.Rows.{row_refusal}

-- refusals 2 and 3 let the machine and the row pass
abbrev pub MayPass : Machine → List ℕ → Type 0
MayPass m row = row_refusal m (length row) ≡ done

-- so many byte times more can be counted, and no more step pulses are counted than byte times
abbrev pub HasRoom : Tally → ℕ → Type 0
HasRoom t left = (t.passed + left ≤ 65535) × ((t.inward ≤ t.passed) × (t.outward ≤ t.passed))

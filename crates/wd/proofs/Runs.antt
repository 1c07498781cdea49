-- A run, byte time by byte time, as the loop of the code has it. Assumes nothing.
use mathlib.Core.Path.{◌≡◌, refl, sym, ap, ap₂, ◌∙◌}
use mathlib.Core.Bool.{Bool, true, false, cond}
use mathlib.Core.List.{List}
use Prim.Native.Nat.{ℕ, zero, suc, ◌+◌, ◌-◌, ◌≤◌, ◌<◌}
use native.Mathlib.Numerals.{sub-one}
use native.Mathlib.Omega.{arith}
use lib.ListN.{length}
use Rattle.wd.proofs.Valid.{row_length, pass_open}
use Rattle.registers.specs.declared.Lines.{Lines}
use Rattle.wd.specs.declared.Machine.{Machine}
use Rattle.wd.specs.declared.Passed.{Passed}
use Rattle.wd.specs.declared.Ran.{Ran}
use Rattle.wd.specs.Counts.{MayPass, HasRoom}
use Rattle.wd.specs.Rows.{row_refusal, byte_time, byte_time_row, ran_to, empty_run, stops_at, Run, next_in, onward, runs_on, run_from}
use Rattle.refusals.specs.declared.Refusal.{Refusal}
use Rattle.refusals.specs.Numbers.{done, refused}
use Rattle.refusals.proofs.Outcomes.{done-ok}

abbrev pub at : Ran → List ℕ → Run
at ran row = record { ran = ran; row = row }

-- refusals 2 and 3 end a run before its first byte time
pub refused_run :
    (m : Machine) (l : Lines) (limit : ℕ) (row : List ℕ) (r : Refusal)
    → row_refusal m (length row) ≡ refused r
    → run_from m l limit row ≡ at (empty_run (refused r) m) row
unfolding run_from
refused_run m l limit row r h = rw h

pub open_run :
    (m : Machine) (l : Lines) (limit : ℕ) (row : List ℕ)
    → row_refusal m (length row) ≡ done
    → run_from m l limit row ≡ runs_on limit l (at (empty_run done m) row)
unfolding run_from
open_run m l limit row h = simp (done-ok _ h)

pub no_more : (n : ℕ) (l : Lines) (r : Run) → n ≤ 0 → runs_on n l r ≡ r
unfolding runs_on
no_more zero l r h = refl
no_more (suc n) l r h = absurd (omega arith)

-- "Limit 0 only makes the checks for 2 and 3."
pub none_run :
    (m : Machine) (l : Lines) (limit : ℕ) (row : List ℕ)
    → row_refusal m (length row) ≡ done
    → limit ≡ 0
    → run_from m l limit row ≡ at (empty_run done m) row
none_run m l limit row h none = open_run m l limit row h ∙ no_more limit l (at (empty_run done m) row) (omega arith)

pub one_more : (n : ℕ) (l : Lines) (r : Run) → 0 < n → runs_on n l r ≡ cond (stops_at (next_in l r)) (onward l r) (runs_on (n - 1) l (onward l r))
unfolding runs_on
one_more zero l r h = absurd (omega arith)
one_more (suc n) l r h = ap (λ (k : ℕ). cond (stops_at (next_in l r)) (onward l r) (runs_on k l (onward l r))) (sym (sub-one (suc n)))

-- the loop's invariant: what is left to run from here is what was left at the start, the machine and the row may pass, and
-- the counts have room
pub record Along (l : Lines) (whole : ℕ) (start : Run) (left : ℕ) (ran : Ran) (row : List ℕ) : Type 0 where
  pub same : length row ≡ length start.row
  pub passes : MayPass ran.machine row
  pub rest : runs_on whole l start ≡ runs_on left l (at ran row)
  pub room : HasRoom ran.tally left

pub starts :
    (l : Lines) (m : Machine) (limit : ℕ) (ran : Ran) (row : List ℕ)
    → ran ≡ empty_run done m
    → MayPass m row
    → limit < 65536
    → Along l limit (at ran row) limit ran row
unfolding empty_run
starts l m limit ran row e h k =
    record {
      same = refl;
      passes = ap (λ (r : Ran). row_refusal r.machine (length row)) e ∙ h;
      rest = refl;
      room = rw e (omega arith, (omega arith, omega arith));
    }

-- a turn of the loop, as its body's calls say it
module _ (l : Lines) (ran : Ran) (row : List ℕ) (passed : Passed) (row' : List ℕ) (ran' : Ran)
    (hp : passed ≡ byte_time ran.machine l row) (hr : row' ≡ byte_time_row ran.machine l row) (hn : ran' ≡ ran_to ran.tally passed) where
  turned : onward l (at ran row) ≡ at ran' row'
  unfolding onward
  turned = sym (ap₂ at (hn ∙ ap (ran_to ran.tally) hp) hr)

  step : (n : ℕ) (b : Bool) → 0 < n → stops_at passed ≡ b
      → runs_on n l (at ran row) ≡ cond b (onward l (at ran row)) (runs_on (n - 1) l (onward l (at ran row)))
  step n b h e =
      one_more n l (at ran row) h
      ∙ ap (λ (b : Bool). cond b (onward l (at ran row)) (runs_on (n - 1) l (onward l (at ran row)))) (ap stops_at (sym hp) ∙ e)

  -- the last byte time
  pub ends : (whole : ℕ) (start : Run) (left : ℕ) → Along l whole start left ran row → 0 < left → stops_at passed ≡ true
      → runs_on whole l start ≡ at ran' row'
  ends whole start left v h e = v.rest ∙ step left true h e ∙ turned

  row_kept : length row' ≡ length row
  row_kept = ap length hr ∙ row_length ran.machine l row

  still_passes : MayPass ran.machine row → MayPass ran'.machine row'
  unfolding ran_to
  still_passes h =
      ap₂ row_refusal (ap (λ (r : Ran). r.machine) (hn ∙ ap (ran_to ran.tally) hp)) (ap length hr)
      ∙ pass_open ran.machine l row h

  -- one byte time more, and the loop goes on
  pub again : (whole : ℕ) (start : Run) (left : ℕ) → Along l whole start left ran row → 0 < left → stops_at passed ≡ false
      → ((n : ℕ) → HasRoom ran.tally (n + 1) → HasRoom ran'.tally n)
      → Along l whole start (left - 1) ran' row'
  again whole start left v h e k =
      record {
        same = row_kept ∙ v.same;
        passes = still_passes v.passes;
        rest = v.rest ∙ step left false h e ∙ ap (runs_on (left - 1) l) turned;
        room = k (left - 1) (omega (arith, v.room.0), v.room.1);
      }

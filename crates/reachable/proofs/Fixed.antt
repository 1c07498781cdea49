-- "Power-on is given L and density (FM or MFM), fixed from then on", and names the chip: every call, refused or not, hands back a
-- machine with the same three. Assumes nothing.
use mathlib.Core.Path.{◌≡◌, refl, ◌∙◌}
use mathlib.Core.Bool.{Bool}
use mathlib.Core.List.{List}
use Prim.Native.Nat.{ℕ, zero, suc}
use lib.Dec.{ltb, eqb}
use lib.ListN.{length}
use Rattle.common.proofs.Cases.{by_cond}
use Rattle.scan.specs.Rows.{length_within}
use Rattle.command.specs.Commands.{decoded_of}
use Rattle.command.specs.declared.Chip.{Chip}
use Rattle.std.specs.Prelude.{Option, Some, None}
use Rattle.command.specs.declared.Command.{Command}
use Rattle.activity.specs.Limits.{busy_in}
use Rattle.registers.specs.declared.Lines.{Lines}
use Rattle.registers.specs.Registers.{read_refusal, load_refusal}
use Rattle.wd.specs.declared.Machine.{Machine}
use Rattle.wd.specs.declared.Called.{Called}
use Rattle.wd.specs.declared.Read.{Read}
use Rattle.wd.specs.declared.Passed.{Passed}
use Rattle.wd.specs.Machines.{valid_of, fresh_machine, power_on}
use Rattle.wd.specs.Reads.{read_register}
use Rattle.wd.specs.Loads.{command_begun, command_answer, load_register}
use Rattle.wd.specs.Turns.{act_applied, cell_turn}
use Rattle.wd.specs.Rows.{row_refusal, under, refused_at, done_by, byte_time, ran_to, empty_run, stops_at, Run, next_in, onward, runs_on, run_from, run_of}
use Rattle.wd.proofs.Valid.{next_length}
use Rattle.reachable.specs.Growth.{Fixed}
use Rattle.refusals.specs.Numbers.{done}
use Rattle.refusals.proofs.Outcomes.{refused-done}
use Rattle.std.specs.Result.{is_ok}

pub as_given : (m : Machine) → Fixed m m
as_given m = record { length = refl; density = refl; chip = refl }

pub further : {m n o : Machine} → Fixed m n → Fixed n o → Fixed m o
further p q = record { length = q.length ∙ p.length; density = q.density ∙ p.density; chip = q.chip ∙ p.chip }

-- ---- power-on

-- it gives the length and the density that it is given
pub power_on_given :
    (size : ℕ) (mfm : Bool) (chip : Chip)
    → (power_on size mfm chip).outcome ≡ done
    → ((power_on size mfm chip).machine.ring.length ≡ size) × ((power_on size mfm chip).machine.mfm ≡ mfm)
unfolding power_on fresh_machine
power_on_given size mfm chip =
    by_cond (λ (q : Called). q.outcome ≡ done → (q.machine.ring.length ≡ size) × (q.machine.mfm ≡ mfm)) (length_within size)
    (λ e done. (refl, refl))
    (λ e h. absurd (refused-done _ h))

-- and the chip, even where it refuses
pub power_on_chip : (size : ℕ) (mfm : Bool) (chip : Chip) → (power_on size mfm chip).machine.chip ≡ chip
unfolding power_on fresh_machine
power_on_chip size mfm chip = by_cond (λ (q : Called). q.machine.chip ≡ chip) (length_within size) (λ e. refl) (λ e. refl)

-- ---- the calls

commanded_fixed : (m : Machine) (l : Lines) (b : ℕ) (d : Option Command) → Fixed m (command_answer m l b d).machine
unfolding command_answer command_begun
commanded_fixed m l b (Some command) = record { length = refl; density = refl; chip = refl }
commanded_fixed m l b None = as_given m

pub load_fixed : (m : Machine) (l : Lines) (number b : ℕ) → Fixed m (load_register m l number b).machine
unfolding load_register
load_fixed m l number b =
    by_cond (λ (q : Called). Fixed m q.machine) (is_ok (load_refusal (valid_of m) (busy_in m.activity) number b))
    (λ e.
    by_cond (λ (q : Called). Fixed m q.machine) (eqb number 0)
    (λ f. commanded_fixed m l b (decoded_of m.chip b))
    (λ f. record { length = refl; density = refl; chip = refl }))
    (λ e. as_given m)

pub read_fixed : (m : Machine) (l : Lines) (number : ℕ) → Fixed m (read_register m l number).machine
unfolding read_register
read_fixed m l number =
    by_cond (λ (q : Read). Fixed m q.machine) (is_ok (read_refusal (valid_of m) number))
    (λ e. record { length = refl; density = refl; chip = refl })
    (λ e. as_given m)

pub byte_time_fixed : (m : Machine) (l : Lines) (row : List ℕ) → Fixed m (byte_time m l row).machine
unfolding byte_time refused_at done_by cell_turn act_applied
byte_time_fixed m l row =
    by_cond (λ (p : Passed). Fixed m p.machine) (is_ok (row_refusal m (length row)))
    (λ e.
    by_cond (λ (p : Passed). Fixed m p.machine) (ltb 511 (under m row))
    (λ f. as_given m)
    (λ f. record { length = next_length m.ring; density = refl; chip = refl }))
    (λ e. as_given m)

runs_fixed : (n : ℕ) (l : Lines) (r : Run) → Fixed r.ran.machine (runs_on n l r).ran.machine
unfolding runs_on onward ran_to
runs_fixed zero l r = as_given r.ran.machine
runs_fixed (suc n) l r =
    let next = byte_time_fixed r.ran.machine l r.row in
    by_cond (λ (q : Run). Fixed r.ran.machine q.ran.machine) (stops_at (next_in l r))
    (λ e. next)
    (λ e. further next (runs_fixed n l (onward l r)))

pub run_fixed : (m : Machine) (l : Lines) (limit : ℕ) (row : List ℕ) → Fixed m (run_of m l limit row).machine
unfolding run_from empty_run
run_fixed m l limit row =
    by_cond (λ (q : Run). Fixed m q.ran.machine) (is_ok (row_refusal m (length row)))
    (λ e. runs_fixed limit l (record { ran = empty_run done m; row = row }))
    (λ e. as_given m)

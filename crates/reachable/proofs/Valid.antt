-- Every call keeps a valid machine valid, so refusal 2 meets no machine grown from power-on. Assumes nothing.
use mathlib.Core.Path.{◌≡◌, refl}
use mathlib.Core.Bool.{Bool, true, false}
use mathlib.Core.List.{List}
use Prim.Native.Nat.{ℕ, zero, suc}
use native.Mathlib.Omega.{arith}
use lib.Dec.{ltb, eqb}
use lib.ListN.{length}
use Rattle.common.proofs.Cases.{by_cond, both, all}
use Rattle.command.specs.Bits.{settles_first}
use Rattle.command.specs.Commands.{class_of, decoded_of}
use Rattle.command.specs.declared.Chip.{Chip}
use Rattle.std.specs.Prelude.{Option, Some, None}
use Rattle.command.specs.declared.Command.{Command}
use Rattle.command.specs.declared.Class.{Class}
use Rattle.command.specs.declared.Class.TheVariants.{Seeks, Steps, Works, Forces}
use Rattle.activity.specs.Limits.{busy_in, counts_within}
use Rattle.act.proofs.Within.{settle_within}
use Rattle.registers.specs.declared.Lines.{Lines}
use Rattle.wd.specs.declared.Machine.{Machine}
use Rattle.wd.specs.declared.Called.{Called}
use Rattle.wd.specs.declared.Read.{Read}
use Rattle.wd.specs.declared.Passed.{Passed}
use Rattle.scan.specs.Rows.{shortest_row, length_within}
use Rattle.scan.proofs.Rows.{within_least, within_most}
use Rattle.registers.specs.Rings.{ring_within}
use Rattle.wd.specs.Machines.{valid_of, fresh_machine, power_on}
use Rattle.registers.specs.Registers.{read_refusal, load_refusal}
use Rattle.wd.specs.Reads.{read_register}
use Rattle.accepting.specs.Accepting.{ends_at_once, works_from, begin_activity}
use Rattle.wd.specs.Loads.{command_begun, command_answer, load_register}
use Rattle.wd.specs.Rows.{row_refusal, under, refused_at, done_by, byte_time, ran_to, empty_run, stops_at, Run, next_in, onward, runs_on, run_from, run_of}
use Rattle.wd.proofs.Valid.{held_ring, turn_valid}
use Rattle.reachable.specs.Growth.{Grown, power_on_call, load, read, byte_time_call, run}
use Rattle.refusals.specs.Numbers.{done}
use Rattle.std.specs.Result.{is_ok}

-- refusal 2 lets it through
abbrev pub Valid : Machine → Type 0
Valid m = valid_of m ≡ true

-- ---- power-on

fresh_valid : (size : ℕ) (mfm : Bool) (chip : Chip) → length_within size ≡ true → Valid (fresh_machine size mfm chip)
unfolding valid_of fresh_machine counts_within
fresh_valid size mfm chip e =
    let least = within_least size e in
    all
    (held_ring (fresh_machine size mfm chip).ring
    (record { least = least; most = within_most size e; inside = omega (arith, least) }))
    refl

pub power_on_valid : (size : ℕ) (mfm : Bool) (chip : Chip) → Valid (power_on size mfm chip).machine
unfolding power_on length_within
power_on_valid size mfm chip =
    by_cond (λ (s : Called). Valid s.machine) (length_within size)
    (λ e. fresh_valid size mfm chip e)
    (λ e. fresh_valid shortest_row false chip refl)

-- ---- registers

works_within : (ends settles mfm : Bool) → counts_within (works_from ends settles mfm) ≡ true
unfolding works_from counts_within
works_within true settles mfm = refl
works_within false true mfm = settle_within mfm
works_within false false mfm = refl

begins_within : (ends mfm : Bool) (b : ℕ) (class : Class) → counts_within (begin_activity ends mfm b class) ≡ true
unfolding begin_activity counts_within
begins_within ends mfm b Seeks = refl
begins_within ends mfm b Steps = refl
begins_within ends mfm b Works = works_within ends (settles_first b) mfm
begins_within ends mfm b Forces = refl

command_valid : (m : Machine) (l : Lines) (b : ℕ) (d : Option Command) → Valid m → Valid (command_answer m l b d).machine
unfolding command_answer command_begun valid_of
command_valid m l b (Some command) v =
    all (both (ring_within m.ring) (counts_within m.activity) v).0
    (begins_within (ends_at_once command l) m.mfm b (class_of command))
command_valid m l b None v = v

pub load_valid : (m : Machine) (l : Lines) (number b : ℕ) → Valid m → Valid (load_register m l number b).machine
unfolding load_register valid_of
load_valid m l number b v =
    by_cond (λ (q : Called). Valid q.machine)
    (is_ok (load_refusal (valid_of m) (busy_in m.activity) number b))
    (λ e.
    by_cond (λ (q : Called). Valid q.machine) (eqb number 0) (λ z. command_valid m l b (decoded_of m.chip b) v) (λ z. v))
    (λ e. v)

pub read_valid : (m : Machine) (l : Lines) (number : ℕ) → Valid m → Valid (read_register m l number).machine
unfolding read_register valid_of
read_valid m l number v =
    by_cond (λ (q : Read). Valid q.machine) (is_ok (read_refusal (valid_of m) number)) (λ e. v) (λ e. v)

-- ---- byte times and runs

pub byte_time_valid : (m : Machine) (l : Lines) (row : List ℕ) → Valid m → Valid (byte_time m l row).machine
unfolding byte_time refused_at done_by
byte_time_valid m l row v =
    by_cond (λ (p : Passed). Valid p.machine) (is_ok (row_refusal m (length row)))
    (λ e.
    by_cond (λ (p : Passed). Valid p.machine) (ltb 511 (under m row)) (λ f. v) (λ f. turn_valid m l (under m row) v))
    (λ e. v)

onward_valid : (l : Lines) (r : Run) → Valid r.ran.machine → Valid (onward l r).ran.machine
unfolding onward ran_to
onward_valid l r v = byte_time_valid r.ran.machine l r.row v

runs_on_valid : (n : ℕ) (l : Lines) (r : Run) → Valid r.ran.machine → Valid (runs_on n l r).ran.machine
unfolding runs_on
runs_on_valid zero l r v = v
runs_on_valid (suc n) l r v =
    by_cond (λ (q : Run). Valid q.ran.machine) (stops_at (next_in l r))
    (λ e. onward_valid l r v)
    (λ e. runs_on_valid n l (onward l r) (onward_valid l r v))

pub run_valid : (m : Machine) (l : Lines) (limit : ℕ) (row : List ℕ) → Valid m → Valid (run_of m l limit row).machine
unfolding run_from empty_run
run_valid m l limit row v =
    by_cond (λ (q : Run). Valid q.ran.machine) (is_ok (row_refusal m (length row)))
    (λ e. runs_on_valid limit l (record { ran = empty_run done m; row = row }) v)
    (λ e. v)

-- ---- all of them

-- 2: "position not below L, L out of range, or a count above the largest its activity holds in any machine grown from
-- power-on": so it is never a grown machine's number
pub grown_valid : (m : Machine) → Grown m → valid_of m ≡ true
grown_valid m (power_on_call size mfm chip) = power_on_valid size mfm chip
grown_valid m (load {m = before} g l number b h) = load_valid before l number b (grown_valid before g)
grown_valid m (read {m = before} g l number) = read_valid before l number (grown_valid before g)
grown_valid m (byte_time_call {m = before} g l row) = byte_time_valid before l row (grown_valid before g)
grown_valid m (run {m = before} g l limit row) = run_valid before l limit row (grown_valid before g)

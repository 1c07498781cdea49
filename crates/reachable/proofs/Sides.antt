-- The side output: what sets it and what leaves it, of every machine. Assumes nothing.
use mathlib.Core.Path.{◌≡◌, refl, sym, ap, ◌∙◌}
use mathlib.Core.Bool.{Bool, true, false}
use mathlib.Core.List.{List}
use mathlib.Core.Logic.{inl, inr}
use Prim.Native.Nat.{ℕ, zero, suc, zero-le}
use native.Mathlib.Omega.{arith}
use lib.Dec.{ltb, eqb}
use lib.ListN.{length}
use borrow.Author.Tests.{eqb-true}
use Rattle.common.specs.Bits.{bit_of}
use Rattle.common.proofs.Arms.{range}
use Rattle.common.proofs.Cases.{by_cond, never}
use Rattle.scan.specs.Rows.{length_within}
use Rattle.command.specs.Bits.{selects_side}
use Rattle.command.specs.Commands.{class_of, decoded_by_both, decoded_with_u, decoded_of}
use Rattle.command.specs.declared.Chip.{Chip}
use Rattle.command.specs.declared.Chip.TheVariants.{Wd1793, Wd1797}
use Rattle.command.specs.declared.Class.{Class}
use Rattle.command.specs.declared.Class.TheVariants.{Seeks, Steps, Works, Forces}
use Rattle.std.specs.Prelude.{Option, Some, None}
use Rattle.command.specs.declared.Command.{Command}
use Rattle.activity.specs.Limits.{busy_in}
use Rattle.registers.specs.declared.Lines.{Lines}
use Rattle.registers.specs.Registers.{read_refusal, load_refusal}
use Rattle.accepting.specs.Accepting.{begin_side}
use Rattle.wd.specs.declared.Machine.{Machine}
use Rattle.wd.specs.declared.Called.{Called}
use Rattle.wd.specs.declared.Read.{Read}
use Rattle.wd.specs.declared.Passed.{Passed}
use Rattle.wd.specs.Machines.{valid_of, fresh_machine, power_on}
use Rattle.wd.specs.Reads.{read_register}
use Rattle.wd.specs.Loads.{command_begun, command_answer, load_register}
use Rattle.wd.specs.Turns.{act_applied, cell_turn}
use Rattle.wd.specs.Rows.{row_refusal, under, refused_at, done_by, byte_time, ran_to, empty_run, stops_at, Run, next_in, onward, runs_on, run_from, run_of}
use Rattle.reachable.specs.Growth.{Grown, power_on_call, load, read, byte_time_call, run}
use Rattle.reachable.specs.Sides.{TypeTwoOrThree, TypeOneOrFour, SideOutput}
use Rattle.reachable.proofs.AsGiven.{load_machine}
use Rattle.reachable.proofs.Fixed.{load_fixed, read_fixed, byte_time_fixed, run_fixed}
use Rattle.refusals.specs.Numbers.{done}
use Rattle.std.specs.Result.{is_ok}
use Rattle.refusals.proofs.Outcomes.{not_ok-done, refused-done}

-- ---- commands

-- the output that a byte leaves, by what it is
side_by : Bool → Chip → ℕ → Option Command → Bool
side_by sso chip b (Some command) = begin_side sso chip b (class_of command)
side_by sso chip b None = sso

answer_side : (m : Machine) (l : Lines) (b : ℕ) (d : Option Command)
    → (command_answer m l b d).machine.sso ≡ side_by m.sso m.chip b d
unfolding command_answer command_begun side_by
answer_side m l b (Some command) = refl
answer_side m l b None = refl

-- Types II and III are taken up like no other, or are no commands
is_work : Class → Bool
is_work Seeks = false
is_work Steps = false
is_work Works = true
is_work Forces = false

works_if : Option Command → Bool
works_if (Some command) = is_work (class_of command)
works_if None = true

type_two_three : (b : ℕ) → TypeTwoOrThree b → works_if (decoded_of Wd1797 b) ≡ true
unfolding works_if is_work decoded_of decoded_by_both decoded_with_u class_of
type_two_three b (inl (low, high)) = sym (range (λ k. works_if (decoded_of Wd1797 k)) {x = b} 0x80 0x50 refl low (omega arith))
type_two_three b (inr (low, high)) = sym (range (λ k. works_if (decoded_of Wd1797 k)) {x = b} 0xF0 0x10 refl low (omega arith))

work_sets : (sso : Bool) (b : ℕ) (class : Class) → is_work class ≡ true → begin_side sso Wd1797 b class ≡ bit_of b 1
unfolding is_work begin_side selects_side
work_sets sso b Seeks e = never (cc)
work_sets sso b Steps e = never (cc)
work_sets sso b Works e = refl
work_sets sso b Forces e = never (cc)

taken_sets : (m : Machine) (l : Lines) (b : ℕ) (d : Option Command)
    → works_if d ≡ true
    → (command_answer m l b d).outcome ≡ done
    → side_by m.sso Wd1797 b d ≡ bit_of b 1
unfolding works_if side_by command_answer
taken_sets m l b (Some command) works accepted = work_sets m.sso b (class_of command) works
taken_sets m l b None works accepted = absurd (refused-done _ accepted)

sets : (m : Machine) (l : Lines) (b : ℕ)
    → m.chip ≡ Wd1797
    → TypeTwoOrThree b
    → (load_register m l 0 b).outcome ≡ done
    → (load_register m l 0 b).machine.sso ≡ bit_of b 1
unfolding load_register
sets m l b is two =
    by_cond (λ (q : Called). q.outcome ≡ done → q.machine.sso ≡ bit_of b 1)
    (is_ok (load_refusal (valid_of m) (busy_in m.activity) 0 b))
    (λ e accepted.
    answer_side m l b (decoded_of m.chip b)
    ∙ ap (λ (chip : Chip). side_by m.sso chip b (decoded_of m.chip b)) is
    ∙ taken_sets m l b (decoded_of m.chip b) (ap (λ (chip : Chip). works_if (decoded_of chip b)) is ∙ type_two_three b two) accepted)
    (λ e accepted. absurd (not_ok-done _ e accepted))

-- Type I and Force Interrupt
type_one_four : (sso : Bool) (chip : Chip) (b : ℕ) → TypeOneOrFour b → side_by sso chip b (decoded_of chip b) ≡ sso
unfolding side_by decoded_of decoded_by_both class_of begin_side
type_one_four sso chip b (inl high) = sym (range (λ k. side_by sso chip b (decoded_of chip k)) {x = b} 0x00 0x80 refl zero-le (omega arith))
type_one_four sso chip b (inr (low, high)) = sym (range (λ k. side_by sso chip b (decoded_of chip k)) {x = b} 0xD0 0x10 refl low (omega arith))

leaves : (m : Machine) (l : Lines) (b : ℕ) → TypeOneOrFour b → (load_register m l 0 b).machine.sso ≡ m.sso
unfolding load_register
leaves m l b other =
    by_cond (λ (q : Called). q.machine.sso ≡ m.sso) (is_ok (load_refusal (valid_of m) (busy_in m.activity) 0 b))
    (λ e. answer_side m l b (decoded_of m.chip b) ∙ type_one_four m.sso m.chip b other)
    (λ e. refl)

-- ---- other calls

loads_leave : (m : Machine) (l : Lines) (number b : ℕ) → (number ≡ 0 → ⊥) → (load_register m l number b).machine.sso ≡ m.sso
unfolding load_register
loads_leave m l number b other =
    by_cond (λ (q : Called). q.machine.sso ≡ m.sso) (is_ok (load_refusal (valid_of m) (busy_in m.activity) number b))
    (λ e.
    by_cond (λ (q : Called). q.machine.sso ≡ m.sso) (eqb number 0) (λ z. absurd (other (eqb-true number 0 z))) (λ z. refl))
    (λ e. refl)

reads_leave : (m : Machine) (l : Lines) (number : ℕ) → (read_register m l number).machine.sso ≡ m.sso
unfolding read_register
reads_leave m l number =
    by_cond (λ (q : Read). q.machine.sso ≡ m.sso) (is_ok (read_refusal (valid_of m) number)) (λ e. refl) (λ e. refl)

byte_times_leave : (m : Machine) (l : Lines) (row : List ℕ) → (byte_time m l row).machine.sso ≡ m.sso
unfolding byte_time refused_at done_by cell_turn act_applied
byte_times_leave m l row =
    by_cond (λ (p : Passed). p.machine.sso ≡ m.sso) (is_ok (row_refusal m (length row)))
    (λ e. by_cond (λ (p : Passed). p.machine.sso ≡ m.sso) (ltb 511 (under m row)) (λ f. refl) (λ f. refl))
    (λ e. refl)

runs_on_leave : (n : ℕ) (l : Lines) (r : Run) → (runs_on n l r).ran.machine.sso ≡ r.ran.machine.sso
unfolding runs_on onward ran_to
runs_on_leave zero l r = refl
runs_on_leave (suc n) l r =
    let next = byte_times_leave r.ran.machine l r.row in
    by_cond (λ (q : Run). q.ran.machine.sso ≡ r.ran.machine.sso) (stops_at (next_in l r))
    (λ e. next)
    (λ e. runs_on_leave n l (onward l r) ∙ next)

runs_leave : (m : Machine) (l : Lines) (limit : ℕ) (row : List ℕ) → (run_of m l limit row).machine.sso ≡ m.sso
unfolding run_from empty_run
runs_leave m l limit row =
    by_cond (λ (q : Run). q.ran.machine.sso ≡ m.sso) (is_ok (row_refusal m (length row)))
    (λ e. runs_on_leave limit l (record { ran = empty_run done m; row = row }))
    (λ e. refl)

-- ---- a WD1793

fresh_off : (size : ℕ) (mfm : Bool) (chip : Chip) → (power_on size mfm chip).machine.sso ≡ false
unfolding power_on fresh_machine
fresh_off size mfm chip = by_cond (λ (q : Called). q.machine.sso ≡ false) (length_within size) (λ e. refl) (λ e. refl)

class_off : (b : ℕ) (class : Class) → begin_side false Wd1793 b class ≡ false
unfolding begin_side selects_side
class_off b Seeks = refl
class_off b Steps = refl
class_off b Works = refl
class_off b Forces = refl

decoded_off : (b : ℕ) (d : Option Command) → side_by false Wd1793 b d ≡ false
unfolding side_by
decoded_off b (Some command) = class_off b (class_of command)
decoded_off b None = refl

load_off : (m : Machine) (l : Lines) (number b : ℕ) → m.chip ≡ Wd1793 → m.sso ≡ false → (load_register m l number b).machine.sso ≡ false
unfolding load_register
load_off m l number b is off =
    by_cond (λ (q : Called). q.machine.sso ≡ false) (is_ok (load_refusal (valid_of m) (busy_in m.activity) number b))
    (λ e.
    by_cond (λ (q : Called). q.machine.sso ≡ false) (eqb number 0)
    (λ z.
    answer_side m l b (decoded_of m.chip b)
    ∙ (λ i. side_by (off i) (is i) b (decoded_of m.chip b))
    ∙ decoded_off b (decoded_of m.chip b))
    (λ z. off))
    (λ e. off)

grown_off : (m : Machine) → Grown m → m.chip ≡ Wd1793 → m.sso ≡ false
grown_off m (power_on_call size mfm chip) is = fresh_off size mfm chip
grown_off m (load {m = before} g l number b h) is =
    let same = sym (load_fixed before l number b).chip ∙ is in
    load_off before l number b same (grown_off before g same)
grown_off m (read {m = before} g l number) is =
    reads_leave before l number ∙ grown_off before g (sym (read_fixed before l number).chip ∙ is)
grown_off m (byte_time_call {m = before} g l row) is =
    byte_times_leave before l row ∙ grown_off before g (sym (byte_time_fixed before l row).chip ∙ is)
grown_off m (run {m = before} g l limit row) is =
    runs_leave before l limit row ∙ grown_off before g (sym (run_fixed before l limit row).chip ∙ is)

-- ---- all of it

pub side_output : (m : Machine) → SideOutput m
side_output m =
    record {
      set = sets m;
      left = leaves m;
      refused = λ l b refused. ap (λ (n : Machine). n.sso) (load_machine m l 0 b refused);
      loads = loads_leave m;
      reads = reads_leave m;
      byte_times = byte_times_leave m;
      runs = runs_leave m;
      none = grown_off m;
    }

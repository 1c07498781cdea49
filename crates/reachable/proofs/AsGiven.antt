-- What is refused is handed back as it was given. Assumes nothing.
use mathlib.Core.Path.{◌≡◌, refl}
use mathlib.Core.List.{List}
use Prim.Native.Nat.{ℕ}
use lib.Dec.{ltb, eqb}
use lib.ListN.{length}
use Rattle.common.proofs.Cases.{by_cond}
use Rattle.command.specs.Commands.{decoded_of}
use Rattle.std.specs.Prelude.{Option, Some, None}
use Rattle.command.specs.declared.Command.{Command}
use Rattle.activity.specs.Limits.{busy_in}
use Rattle.registers.specs.declared.Lines.{Lines}
use Rattle.wd.specs.declared.Machine.{Machine}
use Rattle.wd.specs.declared.Called.{Called}
use Rattle.wd.specs.declared.Read.{Read}
use Rattle.wd.specs.declared.Passed.{Passed}
use Rattle.wd.specs.Machines.{valid_of}
use Rattle.registers.specs.Registers.{read_refusal, load_refusal}
use Rattle.wd.specs.Reads.{read_register}
use Rattle.wd.specs.Loads.{command_answer, load_register}
use Rattle.wd.specs.Rows.{row_refusal, under, refused_at, done_by, byte_time, byte_time_row}
use Rattle.refusals.specs.Numbers.{refused, done}
use Rattle.std.specs.Result.{is_ok}

-- 2, 3, 4: "as given, track untouched"
module _ (m : Machine) (l : Lines) (row : List ℕ) (refused : (byte_time m l row).outcome ≡ done → ⊥) where
  pub byte_time_machine : (byte_time m l row).machine ≡ m
  unfolding byte_time refused_at done_by
  byte_time_machine =
      by_cond (λ (p : Passed). (p.outcome ≡ done → ⊥) → p.machine ≡ m) (is_ok (row_refusal m (length row)))
      (λ e.
      by_cond (λ (p : Passed). (p.outcome ≡ done → ⊥) → p.machine ≡ m) (ltb 511 (under m row))
      (λ f h. refl)
      (λ f h. absurd (h refl)))
      (λ e h. refl)
      refused

  pub byte_time_row_lem : byte_time_row m l row ≡ row
  unfolding byte_time done_by byte_time_row
  byte_time_row_lem =
      by_cond (λ (q : List ℕ). q ≡ row) (is_ok (row_refusal m (length row)))
      (λ e. by_cond (λ (q : List ℕ). q ≡ row) (ltb 511 (under m row)) (λ f. refl) (λ f. absurd (refused (simp (e, f)))))
      (λ e. refl)

commanded : (m : Machine) (l : Lines) (b : ℕ) (d : Option Command)
    → ((command_answer m l b d).outcome ≡ done → ⊥)
    → (command_answer m l b d).machine ≡ m
unfolding command_answer
commanded m l b (Some command) refused = absurd (refused refl)
commanded m l b None refused = refl

-- 2, 5, 6, 7: "as given"
pub load_machine :
    (m : Machine) (l : Lines) (number b : ℕ)
    → ((load_register m l number b).outcome ≡ done → ⊥)
    → (load_register m l number b).machine ≡ m
unfolding load_register
load_machine m l number b =
    by_cond (λ (q : Called). (q.outcome ≡ done → ⊥) → q.machine ≡ m)
    (is_ok (load_refusal (valid_of m) (busy_in m.activity) number b))
    (λ e.
    by_cond (λ (q : Called). (q.outcome ≡ done → ⊥) → q.machine ≡ m) (eqb number 0)
    (λ z. commanded m l b (decoded_of m.chip b))
    (λ z refused. absurd (refused refl)))
    (λ e refused. refl)

-- 2, 5: "as given, byte 0"
pub read_machine_and_byte :
    (m : Machine) (l : Lines) (number : ℕ)
    → ((read_register m l number).outcome ≡ done → ⊥)
    → ((read_register m l number).machine ≡ m) × ((read_register m l number).byte ≡ 0)
unfolding read_register
read_machine_and_byte m l number =
    by_cond (λ (q : Read). (q.outcome ≡ done → ⊥) → (q.machine ≡ m) × (q.byte ≡ 0))
    (is_ok (read_refusal (valid_of m) number))
    (λ e refused. absurd (refused refl))
    (λ e refused. (refl, refl))

-- Of one bad input of each call: its condition is met, and no earlier one. Assumes nothing.
use mathlib.Core.Path.{◌≡◌, refl, sym, ap, ◌∙◌}
use mathlib.Core.Bool.{Bool, true, false, true≢false}
use mathlib.Core.List.{[]}
use mathlib.Core.Logic.{inl, inr}
use Prim.Native.Nat.{ℕ, ◌<◌}
use native.Mathlib.Omega.{arith}
use lib.ListN.{length-replicate, get_or-replicate}
use mir.Val.{has_key}
use Rattle.common.proofs.Cases.{never}
use Rattle.scan.specs.Rows.{length_within}
use Rattle.command.specs.Commands.{decoded_by_both, decoded_with_u, decoded_of, decode_refusal}
use Rattle.command.proofs.Cases.{refused_bytes, listed_refused, others_taken}
use Rattle.command.specs.declared.Chip.TheVariants.{Wd1793, Wd1797}
use Rattle.std.specs.Prelude.{Option, None}
use Rattle.command.specs.declared.Command.{Command}
use Rattle.activity.specs.Limits.{busy_in}
use Rattle.activity.specs.declared.Activity.TheVariants.{Idle}
use Rattle.registers.specs.declared.Lines.{Lines}
use Rattle.wd.specs.declared.Machine.{Machine}
use Rattle.wd.specs.Machines.{fresh_machine, power_on}
use Rattle.reachable.proofs.Samples.{sample_length}
use Rattle.reachable.proofs.Valid.{Valid, power_on_valid}
use Rattle.reachable.proofs.StatusBits.{status_busy}
use Rattle.safe.specs.Demand1.{Invalid, AboveFlagged, WhileBusy, IsCommand, Given, AtPowerOn, power_on_1, AtLoad, load_2, load_5, load_6, load_7, AtRead, read_2, read_5, AtByteTime, byte_time_2, byte_time_3, byte_time_4, AtRun, run_2, run_3, run_4}
use Rattle.safe.specs.Viewer.{AtViewer, viewer_1, viewer_4, viewer_11}
use Rattle.safe.proofs.Refusals.{valid, Takes, takes, refuses, named}
use Rattle.command.specs.declared.Chip.{Chip}
use Rattle.in_time.proofs.Scenes.{fresh}
use Rattle.applied.specs.Refusals.{high, NoLonger}

-- the number whose condition is met, and no earlier one's
pub first_row : {Row : ℕ → Type 0} {number : ℕ} (k : ℕ)
    → 0 < k
    → Given Row number
    → Row k
    → ((j : ℕ) → j < k → Row j → ⊥)
    → (number ≡ k) × (number ≡ 0 → ⊥)
first_row k some given row earlier =
    let is = (given.exactly k some).1 (k, refl, row, earlier) in
    (is, λ none. omega (arith, is, none))

-- ---- the bytes

refused : {X : Type 0} {d : Option Command} → Takes X d → d ≡ None → X → ⊥
refused (takes c x) e = never (cc)
refused (refuses none) e = none

pub is_none : (chip : Chip) → IsCommand chip 0x9F → ⊥
unfolding decoded_of decoded_by_both decoded_with_u
is_none Wd1793 = refused (named Wd1793 0x9F) refl
is_none Wd1797 = refused (named Wd1797 0x9F) refl

pub is_one : (chip : Chip) → IsCommand chip 0x80
is_one chip = inl (inr (inr (inr (inr (inr (inl ((omega arith, omega arith), refl)))))))

-- none of the four is
none_at : (chip : Chip) {b is : ℕ} → b ≡ is → decoded_of chip is ≡ None → IsCommand chip b → ⊥
none_at chip e none = refused (named chip _) (ap (decoded_of chip) e ∙ none)

pub no_longer : (chip : Chip) (b : ℕ) → NoLonger b → IsCommand chip b → ⊥
unfolding decoded_of decoded_by_both decoded_with_u
no_longer Wd1793 b (inl e) = none_at Wd1793 e refl
no_longer Wd1793 b (inr (inl e)) = none_at Wd1793 e refl
no_longer Wd1793 b (inr (inr (inl e))) = none_at Wd1793 e refl
no_longer Wd1793 b (inr (inr (inr e))) = none_at Wd1793 e refl
no_longer Wd1797 b (inl e) = none_at Wd1797 e refl
no_longer Wd1797 b (inr (inl e)) = none_at Wd1797 e refl
no_longer Wd1797 b (inr (inr (inl e))) = none_at Wd1797 e refl
no_longer Wd1797 b (inr (inr (inr e))) = none_at Wd1797 e refl

-- of the 256 bytes, those of the list and no others
pub listed_none : (chip : Chip) (b : ℕ) → b < 256 → has_key (refused_bytes chip) b ≡ true → IsCommand chip b → ⊥
listed_none chip b low e = refused (named chip b) (sym (listed_refused chip low e))

is_taken : {X : Type 0} {d : Option Command} → Takes X d → 0 ≡ decode_refusal d → X
is_taken (takes c x) e = x
is_taken (refuses none) e = absurd (omega (arith, e))

pub none_listed : (chip : Chip) (b : ℕ) → b < 256 → (IsCommand chip b → ⊥) → has_key (refused_bytes chip) b ≡ true
none_listed chip b low none = by (has_key (refused_bytes chip) b) refl
  where
    by : (c : Bool) → has_key (refused_bytes chip) b ≡ c → has_key (refused_bytes chip) b ≡ true
    by true e = e
    by false e = absurd (none (is_taken (named chip b) (others_taken chip low e)))

pub no_seven : {m : Machine} {l : Lines} {number b t : ℕ} → AtLoad m l number b t → t ≡ 7 → IsCommand m.chip b → ⊥
no_seven (load_2 c) e = absurd (omega (arith, e))
no_seven (load_5 c) e = absurd (omega (arith, e))
no_seven (load_6 c) e = absurd (omega (arith, e))
no_seven (load_7 z none) e = none

-- C2 has U
pub none_without_u : IsCommand Wd1793 0xC2 → ⊥
unfolding decoded_of decoded_by_both decoded_with_u
none_without_u = refused (named Wd1793 0xC2) refl

pub one_with_u : IsCommand Wd1797 0xC2
one_with_u = inr (inl (inl refl))

-- ---- no earlier condition is met

pub before_one : {size : ℕ} (j : ℕ) → j < 1 → AtPowerOn size j → ⊥
before_one j low (power_on_1 c) = omega arith

-- the cell under the head at power-on
pub cell_high : (mfm : Bool) (chip : Chip) → AboveFlagged (fresh mfm chip) high
unfolding power_on length_within fresh_machine
cell_high mfm chip = omega (arith, get_or-replicate {A = ℕ} sample_length 0 512 0 (omega arith))

-- an idle machine accepts a command
module _ (m : Machine) (l : Lines) (holds : Valid m) (rests : m.activity ≡ Idle) where
  not_busy : (number b : ℕ) → WhileBusy m l number b → ⊥
  unfolding busy_in
  not_busy number b c = true≢false (sym c.busy ∙ status_busy m l holds ∙ ap busy_in rests)

  pub accepts : (b : ℕ) → IsCommand m.chip b → (j : ℕ) → AtLoad m l 0 b j → ⊥
  accepts b is j (load_2 c) = valid m holds c
  accepts b is j (load_5 c) = omega (arith, c)
  accepts b is j (load_6 c) = not_busy 0 b c
  accepts b is j (load_7 z c) = c is

module _ (mfm : Bool) (chip : Chip) (l : Lines) where
  sound : Invalid (fresh mfm chip) → ⊥
  sound = valid (fresh mfm chip) (power_on_valid sample_length mfm chip)

  idle : (number b : ℕ) → WhileBusy (fresh mfm chip) l number b → ⊥
  unfolding power_on length_within fresh_machine
  idle = not_busy (fresh mfm chip) l (power_on_valid sample_length mfm chip) refl

  pub taken : (b : ℕ) → IsCommand chip b → (j : ℕ) → AtLoad (fresh mfm chip) l 0 b j → ⊥
  unfolding power_on length_within fresh_machine
  taken = accepts (fresh mfm chip) l (power_on_valid sample_length mfm chip) refl

  pub before_seven : (b j : ℕ) → j < 7 → AtLoad (fresh mfm chip) l 0 b j → ⊥
  before_seven b j low (load_2 c) = sound c
  before_seven b j low (load_5 c) = omega (arith, c)
  before_seven b j low (load_6 c) = idle 0 b c
  before_seven b j low (load_7 z c) = omega arith

  pub before_five : (j : ℕ) → j < 5 → AtRead (fresh mfm chip) 4 j → ⊥
  before_five j low (read_2 c) = sound c
  before_five j low (read_5 c) = omega arith

  pub before_four : (j : ℕ) → j < 4 → AtByteTime (fresh mfm chip) high j → ⊥
  unfolding power_on length_within fresh_machine
  before_four j low (byte_time_2 c) = sound c
  before_four j low (byte_time_3 c) = c (length-replicate {A = ℕ} sample_length 512)
  before_four j low (byte_time_4 c) = omega arith

  pub before_three : (limit j : ℕ) → j < 3 → AtRun (fresh mfm chip) l limit [] j → ⊥
  before_three limit j low (run_2 c) = sound c
  before_three limit j low (run_3 c) = omega arith
  before_three limit j low (run_4 n comes c) = omega arith

  pub before_stopped : (limit j : ℕ) → j < 4 → AtRun (fresh mfm chip) l limit high j → ⊥
  unfolding power_on length_within fresh_machine
  before_stopped limit j low (run_2 c) = sound c
  before_stopped limit j low (run_3 c) = c (length-replicate {A = ℕ} sample_length 512)
  before_stopped limit j low (run_4 n comes c) = omega arith

pub before_viewer : {mfm : Bool} {track sector : ℕ} (j : ℕ) → j < 1 → AtViewer [] [] mfm track sector j → ⊥
before_viewer j low (viewer_1 c) = omega arith
before_viewer j low (viewer_4 c) = omega arith
before_viewer j low (viewer_11 c) = omega arith

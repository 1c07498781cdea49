-- Demand 1 for one bad input of each call, from `demand_1` alone: its condition is met, and none before it. Assumes nothing.
use mathlib.Core.Path.{◌≡◌, refl}
use mathlib.Core.Bool.{Bool, false}
use mathlib.Core.List.{[]}
use mathlib.Core.Logic.{inl, inr}
use Prim.Native.Nat.{ℕ}
use native.Mathlib.Omega.{arith}
use lib.ListN.{length}
use Rattle.scan.specs.Rows.{length_within}
use Rattle.wd.specs.Machines.{fresh_machine, power_on}
use Rattle.safe.specs.Demand1.{OutOfRange, IsCommand, power_on_1, load_7, read_5, run_3}
use Rattle.safe.specs.Pictures.{empty}
use Rattle.safe.specs.Viewer.{viewer_1}
use Rattle.command.specs.declared.Chip.{Chip}
use Rattle.command.specs.declared.Chip.TheVariants.{Wd1793, Wd1797}
use Rattle.registers.specs.declared.Lines.{Lines}
use Rattle.wd.specs.declared.Called.{Called}
use Rattle.uses.specs.CallContracts.{PowerOnCall, LoadCall}
use Rattle.in_time.proofs.Scenes.{fresh}
use Rattle.demands.proofs.Demand1.{demand_1}
use Rattle.applied.specs.Refusals.{Refusals}
use Rattle.applied.proofs.Conditions.{first_row, is_none, is_one, no_longer, listed_none, none_listed, no_seven, none_without_u, one_with_u, before_one, taken, before_seven, before_five, before_three, before_viewer}
use Rattle.applied.proofs.HighCells.{above, stopped}
use Rattle.refusals.specs.Numbers.{number_in}
use Rattle.refusals.proofs.Outcomes.{number_done, nonzero-done}

-- a byte that is no command of the chip
no_command : (mfm : Bool) (chip : Chip) (l : Lines) (b : ℕ)
    → (IsCommand chip b → ⊥)
    → (r : Called)
    → LoadCall (fresh mfm chip) l 0 b r
    → (number_in r.outcome ≡ 7) × (r.machine ≡ fresh mfm chip)
unfolding power_on length_within fresh_machine
no_command mfm chip l b none r call =
    let safe = demand_1.load (fresh mfm chip) l 0 b r call in
    let (is, some) = first_row 7 (omega arith) safe.given (load_7 refl none) (before_seven mfm chip l b) in
    (is, safe.refused (nonzero-done _ some))

-- a length out of range
no_power_on : (size : ℕ)
    → OutOfRange size
    → (mfm : Bool) (chip : Chip) (r : Called)
    → PowerOnCall size mfm chip r
    → (number_in r.outcome ≡ 1) × (r.machine ≡ fresh false chip)
no_power_on size out mfm chip r call =
    let safe = demand_1.power_on_call size mfm chip r call in
    let (is, some) = first_row 1 (omega arith) safe.given (power_on_1 out) before_one in
    (is, safe.refused (nonzero-done _ some))

pub refusals : Refusals
unfolding power_on length_within fresh_machine
refusals =
    record {
      short = no_power_on 2047 (λ (least, most). omega arith);
      long = no_power_on 10417 (λ (least, most). omega arith);
      command = λ mfm chip l r call.
          number_done _ ((demand_1.load (fresh mfm chip) l 0 0x80 r call).given.done.1 (taken mfm chip l 0x80 (is_one chip)));
      no_command = λ mfm chip l. no_command mfm chip l 0x9F (is_none chip);
      no_longer = λ mfm chip l b is. no_command mfm chip l b (no_longer chip b is);
      listed = λ mfm chip l b low r call.
          let given = (demand_1.load (fresh mfm chip) l 0 b r call).given in (
            λ is. let (t, at, row, earlier) = (given.exactly 7 (omega arith)).0 is in none_listed chip b low (no_seven row at),
            λ e. (no_command mfm chip l b (listed_none chip b low e) r call).0,
          );
      with_u = λ mfm l r call.
          number_done _ ((demand_1.load (fresh mfm Wd1797) l 0 0xC2 r call).given.done.1 (taken mfm Wd1797 l 0xC2 one_with_u));
      without_u = λ mfm l. no_command mfm Wd1793 l 0xC2 none_without_u;
      no_register = λ mfm chip l r call.
          let safe = demand_1.read (fresh mfm chip) l 4 r call in
          let (is, some) = first_row 5 (omega arith) safe.given (read_5 (omega arith)) (before_five mfm chip l) in
          let (machine, byte) = safe.refused (nonzero-done _ some) in
          (is, machine, byte);
      above = above;
      no_track = λ mfm chip l limit r row call.
          let safe = demand_1.run (fresh mfm chip) l limit [] r row call in
          let none : length {A = ℕ} [] ≡ 2048 → ⊥ = λ same. omega (arith, same) in
          let (is, some) = first_row 3 (omega arith) safe.given (run_3 none) (before_three mfm chip l limit) in
          let left = safe.refused (inr is) in (
            is,
            left.machine,
            left.untouched,
            λ i. record { passed = left.passed i; inward = left.inward i; outward = left.outward i },
          );
      stopped = stopped;
      no_picture = λ room r room' call.
          let safe = demand_1.picture [] room r room' call in
          let is = (safe.given.exactly 9 (omega arith)).1 (0, refl, empty refl, λ s low turn. omega arith) in
          let (track, side, left) = safe.refused (λ none. omega (arith, is, none)) in
          (is, track, side, left);
      no_sides = λ p0 mfm track sector part start number shown numbered.
          let safe = demand_1.view [] [] p0 mfm track sector part start number shown numbered in
          let none : OutOfRange (length {A = ℕ} []) = λ (least, most). omega arith in
          let (is, some) = first_row 1 (omega arith) safe.given (viewer_1 (inl none)) before_viewer in
          let (nothing, start) = safe.refused some in
          (is, nothing, start);
    }

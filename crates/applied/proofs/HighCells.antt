-- Demand 1 for a cell above 511 under the head, in a byte time and in a run, from `demand_1` alone. Assumes nothing.
use mathlib.Core.Path.{◌≡◌, ap, ◌∙◌}
use mathlib.Core.Bool.{Bool}
use mathlib.Core.List.{List}
use Prim.Native.Nat.{ℕ, ◌<◌}
use native.Mathlib.Decide.{dec_lt}
use native.Mathlib.Omega.{arith}
use Rattle.registers.specs.declared.Lines.{Lines}
use Rattle.wd.specs.declared.Passed.{Passed}
use Rattle.wd.specs.declared.Ran.{Ran}
use Rattle.reachable.specs.ByteTimes.{machine_after, row_after, is_in, is_out, pulses}
use Rattle.safe.specs.Demand1.{ComesTo, byte_time_4, run_4, SafeRun}
use Rattle.command.specs.declared.Chip.{Chip}
use Rattle.in_time.proofs.Scenes.{fresh}
use Rattle.uses.specs.CallContracts.{ByteTimeCall, RunCall}
use Rattle.uses.proofs.Calls.{a_byte_time}
use Rattle.demands.proofs.Demand1.{demand_1}
use Rattle.applied.specs.Refusals.{high}
use Rattle.applied.proofs.Conditions.{first_row, cell_high, before_stopped, before_four}
use Rattle.refusals.specs.Numbers.{number_in}
use Rattle.refusals.proofs.Outcomes.{nonzero-done, done_number}

pub above : (mfm : Bool) (chip : Chip) (l : Lines) (r : Passed) (row : List ℕ)
    → ByteTimeCall (fresh mfm chip) l high r row
    → (number_in r.outcome ≡ 4) × (r.machine ≡ fresh mfm chip) × (row ≡ high)
above mfm chip l r row call =
    let safe = demand_1.byte_time_call (fresh mfm chip) l high r row call in
    let (is, some) = first_row 4 (omega arith) safe.given (byte_time_4 (cell_high mfm chip)) (before_four mfm chip l) in
    let (machine, left) = safe.refused (nonzero-done _ some) in
    (is, machine, left)

module _ (mfm : Bool) (chip : Chip) (l : Lines) (limit : ℕ) (r : Ran) (row : List ℕ) (some : 0 < limit)
    (call : RunCall (fresh mfm chip) l limit high r row) where
  safe : SafeRun (fresh mfm chip) l limit high (record { ran = r; row = row })
  safe = demand_1.run (fresh mfm chip) l limit high r row call

  comes : ComesTo (fresh mfm chip) l limit high 0
  comes = record { below = some; done = λ k low. absurd (omega arith); quiet = λ k low. absurd (omega arith) }

  four : number_in r.outcome ≡ 4
  unfolding machine_after row_after
  four = (first_row 4 (omega arith) safe.given (run_4 0 comes (cell_high mfm chip)) (before_stopped mfm chip l limit)).0

  -- its first byte time is the one that is refused
  none_passed : r.tally.passed ≡ 0
  unfolding machine_after row_after
  none_passed = by (dec_lt 0 r.tally.passed)
    where
      by : Dec (0 < r.tally.passed) → r.tally.passed ≡ 0
      by (yes more) =
          absurd
          (omega (arith, done_number _ ((safe.stopped four).comes.done 0 more), (above mfm chip l _ _ (a_byte_time (fresh mfm chip) l high)).0))
      by (no none) = omega arith

  pub stopped :
      (number_in r.outcome ≡ 4)
      × (r.machine ≡ fresh mfm chip)
      × (row ≡ high)
      × (r.tally ≡ record { passed = 0; inward = 0; outward = 0 })
  unfolding machine_after row_after pulses
  stopped =
      let left = safe.stopped four in (
        four,
        left.machine ∙ ap (λ (n : ℕ). machine_after n (fresh mfm chip) l high) none_passed,
        left.writes ∙ ap (λ (n : ℕ). row_after n (fresh mfm chip) l high) none_passed,
        λ i. record {
          passed = none_passed i;
          inward = (left.counts.inward ∙ ap (λ (n : ℕ). pulses is_in n (fresh mfm chip) l high) none_passed) i;
          outward = (left.counts.outward ∙ ap (λ (n : ℕ). pulses is_out n (fresh mfm chip) l high) none_passed) i;
        },
      )

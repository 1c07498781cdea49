-- A run's count is tied to the position that the head is left at; and a run of none. Assumes nothing.
use mathlib.Core.Path.{◌≡◌, refl, sym, ap, ◌∙◌}
use mathlib.Core.List.{List}
use Prim.Native.Nat.{ℕ, zero, suc, ◌+◌, ◌%◌, ◌≤◌, ◌<◌}
use native.Mathlib.Nat.{add-zero, zero-add, mod-eq_of_lt, add-mod_left}
use native.Mathlib.Omega.{arith}
use lib.Dec.{ltb, eqb}
use lib.ListN.{length}
use borrow.Author.Tests.{eqb-true, ltb-false}
use Rattle.common.proofs.Cases.{by_cond}
use Rattle.registers.specs.declared.Ring.{Ring}
use Rattle.registers.specs.declared.Lines.{Lines}
use Rattle.wd.specs.declared.Machine.{Machine}
use Rattle.wd.specs.declared.Passed.{Passed}
use Rattle.registers.specs.Rings.{ring_next}
use Rattle.wd.specs.Turns.{act_applied, cell_turn}
use Rattle.wd.specs.Rows.{row_refusal, under, refused_at, done_by, byte_time, byte_time_row, empty_run, Run, runs_on, run_from, run_of}
use Rattle.wd.proofs.Valid.{next_length, next_inside, open_row, valid_ring}
use Rattle.wd.proofs.Runs.{at}
use Rattle.reachable.specs.ByteTimes.{turns_on, machine_after, row_after, outcome_after}
use Rattle.reachable.proofs.Runs.{run_makes}
use Rattle.refusals.specs.Numbers.{Outcome, done}
use Rattle.refusals.proofs.Outcomes.{ok-done, not_ok-done, refused-done}
use Rattle.std.specs.Result.{is_ok}

-- ---- the ring

-- a byte time that is done takes the head one cell on
passed_ring :
    (m : Machine) (l : Lines) (row : List ℕ)
    → (byte_time m l row).outcome ≡ done
    → (byte_time m l row).machine.ring ≡ ring_next m.ring
unfolding byte_time refused_at done_by cell_turn act_applied
passed_ring m l row =
    by_cond (λ (p : Passed). p.outcome ≡ done → p.machine.ring ≡ ring_next m.ring) (is_ok (row_refusal m (length row)))
    (λ e.
    by_cond (λ (p : Passed). p.outcome ≡ done → p.machine.ring ≡ ring_next m.ring) (ltb 511 (under m row))
    (λ f h. absurd (refused-done _ h))
    (λ f h. refl))
    (λ e h. absurd (not_ok-done _ e h))

ring_after :
    (n : ℕ) (m : Machine) (l : Lines) (row : List ℕ)
    → ((k : ℕ) → k < n → outcome_after k m l row ≡ done)
    → (machine_after n m l row).ring ≡ turns_on n m.ring
unfolding machine_after row_after turns_on
ring_after zero m l row accepted = refl
ring_after (suc n) m l row accepted =
    ring_after n (byte_time m l row).machine l (byte_time_row m l row) (λ k h. accepted (suc k) (omega arith))
    ∙ ap (turns_on n) (passed_ring m l row (accepted 0 (omega arith)))

next_mod : (n : ℕ) (r : Ring)
    → r.position < r.length
    → ((ring_next r).position + n) % r.length ≡ (r.position + suc n) % r.length
unfolding ring_next
next_mod n r h =
    by_cond (λ (q : Ring). (q.position + n) % r.length ≡ (r.position + suc n) % r.length) (ltb r.position r.length)
    (λ low.
    by_cond (λ (q : Ring). (q.position + n) % r.length ≡ (r.position + suc n) % r.length)
    (eqb (r.position + 1) r.length)
    (λ e.
    let full : r.position + 1 ≡ r.length = eqb-true _ _ e in
    let round : r.position + suc n ≡ r.length + n = omega arith in
    rw (round, add-mod_left, zero-add))
    (λ e. let on : r.position + suc n ≡ r.position + 1 + n = omega arith in rw on))
    (λ high. let above : r.length ≤ r.position = ltb-false _ _ high in absurd (omega arith))

pub turns_position : (n : ℕ) (r : Ring) → r.position < r.length → (turns_on n r).position ≡ (r.position + n) % r.length
unfolding turns_on
turns_position zero r h = rw (add-zero, mod-eq_of_lt h)
turns_position (suc n) r h =
    turns_position n (ring_next r) (rw next_length (next_inside r h))
    ∙ ap (λ (size : ℕ). ((ring_next r).position + n) % size) (next_length r)
    ∙ next_mod n r h

-- ---- the run

-- "It reports how many passed."
abbrev pub reports : Machine → Lines → ℕ → List ℕ → ℕ
reports m l limit row = (run_of m l limit row).tally.passed

module _ (m : Machine) (l : Lines) (limit : ℕ) (row : List ℕ) (opens : row_refusal m (length row) ≡ done) where
  -- "up to a lent limit"
  pub run_count : reports m l limit row ≤ limit
  run_count = (run_makes m l limit row opens).most

  -- "then the position goes up by one, and from L - 1 to 0"
  pub run_ring : (run_of m l limit row).machine.ring ≡ turns_on (reports m l limit row) m.ring
  run_ring =
      let made = run_makes m l limit row opens in
      ap (λ (q : Machine). q.ring) made.left ∙ ring_after (reports m l limit row) m l row made.accepted

  pub run_position :
      (run_of m l limit row).machine.ring.position ≡ (m.ring.position + reports m l limit row) % m.ring.length
  run_position =
      ap (λ (r : Ring). r.position) run_ring
      ∙ turns_position (reports m l limit row) m.ring (valid_ring m (open_row m (length row) opens).0).inside

-- "Limit 0 only makes the checks for 2 and 3."
pub run_none :
    (m : Machine) (l : Lines) (row : List ℕ) → run_from m l 0 row ≡ at (empty_run (row_refusal m (length row)) m) row
unfolding run_from runs_on
run_none m l row =
    by_cond (λ (q : Run). q ≡ at (empty_run (row_refusal m (length row)) m) row) (is_ok (row_refusal m (length row)))
    (λ e. ap (λ (o : Outcome). at (empty_run o m) row) (sym (ok-done _ e)))
    (λ e. refl)

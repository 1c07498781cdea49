-- A byte time that is refused once is refused for ever, so a command that ends by itself has met no refusal. Assumes nothing.
use mathlib.Core.Path.{◌≡◌, refl, sym, ap, ◌∙◌}
use mathlib.Core.Bool.{Bool, true, false, cond}
use mathlib.Core.List.{List}
use Prim.Native.Nat.{ℕ, zero, suc, ◌+◌, ◌-◌, ◌≤◌, ◌<◌}
use native.Mathlib.Nat.{add-zero, add-suc}
use native.Mathlib.Omega.{arith}
use lib.Dec.{ltb}
use lib.ListN.{length}
use Rattle.common.proofs.Cases.{by_cond, never}
use Rattle.activity.specs.Limits.{busy_in}
use Rattle.registers.specs.declared.Lines.{Lines}
use Rattle.wd.specs.declared.Machine.{Machine}
use Rattle.wd.specs.Machines.{valid_of}
use Rattle.wd.specs.Turns.{cell_turn}
use Rattle.wd.specs.Rows.{row_refusal, under, refused_at, done_by, byte_time}
use Rattle.reachable.proofs.AsGiven.{byte_time_machine, byte_time_row_lem}
use Rattle.hosts.specs.Hosts.{Host, Desk, called_all, served_at, passes_under, at, AloneUntil, EndsAt}
use Rattle.hosts.proofs.QuietCalls.{bus_from, calls_bus}
use Rattle.hosts.proofs.Views.{DoneAt}
use Rattle.refusals.specs.declared.Refusal.TheVariants as refusal
use Rattle.refusals.specs.Numbers.{refused, Outcome, done}
use Rattle.refusals.proofs.Outcomes.{ok-done, done_decided}
use Rattle.std.specs.Result.{is_ok}

-- how a byte time goes, by the machine and the row
unfoldable outcome_of : Machine → List ℕ → Outcome
outcome_of m row =
    cond (is_ok (row_refusal m (length row))) (cond (ltb 511 (under m row)) (refused refusal.Cell) done) (row_refusal m (length row))

outcome_is : (m : Machine) (l : Lines) (row : List ℕ) → (byte_time m l row).outcome ≡ outcome_of m row
unfolding byte_time outcome_of refused_at done_by
outcome_is m l row = by (is_ok (row_refusal m (length row))) (ltb 511 (under m row))
  where
    by : (a b : Bool)
        → (cond a (cond b (refused_at (refused refusal.Cell) m) (done_by (cell_turn m l (under m row)))) (refused_at (row_refusal m (length row)) m)
        ).outcome
        ≡ cond a (cond b (refused refusal.Cell) done) (row_refusal m (length row))
    by true true = refl
    by true false = refl
    by false b = refl

-- registers and wires do not come into it
outcome_bus : (m other : Machine) (row : List ℕ) → m ≡ bus_from other m → outcome_of m row ≡ outcome_of other row
unfolding outcome_of row_refusal valid_of
outcome_bus m other row same = ap (λ (n : Machine). outcome_of n row) same

module _ (h : Host) (d : Desk) (n : ℕ) (alone : AloneUntil h d n) where
  -- what byte time k finds
  abbrev finds : ℕ → Machine
  finds k = called_all (at h d k).machine (h.calls k)

  bus : (k : ℕ) → k < n → finds k ≡ bus_from (at h d k).machine (finds k)
  bus k l = calls_bus (at h d k).machine (h.calls k) (alone k l)

  abbrev outcome_at : ℕ → Outcome
  outcome_at k = outcome_of (at h d k).machine (at h d k).row

  told_outcome : (k : ℕ) → k < n → (byte_time (finds k) (h.lines k) (at h d k).row).outcome ≡ outcome_at k
  told_outcome k l =
      outcome_is (finds k) (h.lines k) (at h d k).row ∙ outcome_bus (finds k) (at h d k).machine (at h d k).row (bus k l)

  -- the byte time after a refused one finds the same row and activity, and is refused
  stays : (k : ℕ) → k < n → (outcome_at k ≡ done → ⊥)
      → (outcome_at (suc k) ≡ outcome_at k) × ((at h d (suc k)).machine.activity ≡ (at h d k).machine.activity)
  unfolding at served_at passes_under
  stays k l stopped =
      let no : (byte_time (finds k) (h.lines k) (at h d k).row).outcome ≡ done → ⊥ = λ e. stopped (sym (told_outcome k l) ∙ e) in
      let machine = byte_time_machine (finds k) (h.lines k) (at h d k).row no in
      let row = byte_time_row_lem (finds k) (h.lines k) (at h d k).row no in (
        (λ i. outcome_of (machine i) (row i)) ∙ outcome_bus (finds k) (at h d k).machine (at h d k).row (bus k l),
        ap (λ (m : Machine). m.activity) (machine ∙ bus k l),
      )

  stuck : (j k : ℕ)
      → k + j ≤ n
      → (outcome_at k ≡ done → ⊥)
      → (outcome_at (k + j) ≡ outcome_at k) × ((at h d (k + j)).machine.activity ≡ (at h d k).machine.activity)
  stuck zero k l stopped = rw (add-zero k) (refl, refl)
  stuck (suc j) k l stopped =
      let before = stuck j k (omega arith) stopped in
      let here = stays (k + j) (omega arith) (λ e. stopped (sym before.0 ∙ e)) in
      rw (add-suc k j) (here.0 ∙ before.0, here.1 ∙ before.1)

  -- a command that ends by itself has met no refusal
  pub ends_done : EndsAt h d n → (k : ℕ) → k < n → DoneAt h d k
  unfolding served_at
  ends_done ends k l = by (done_decided (outcome_at k))
    where
      by : Dec (outcome_at k ≡ done) → DoneAt h d k
      by (yes e) = told_outcome k l ∙ e
      by (no e) =
          let q : k + (n - k) ≡ n = omega arith in
          let same : (at h d n).machine.activity ≡ (at h d k).machine.activity = rw q at (stuck (n - k) k (omega arith) e).1 in
          let z : true ≡ false = sym (ends.busy k l) ∙ ap busy_in (sym same) ∙ ends.over in
          never (cc)

  -- a byte time that is done was lent a row of the ring's length
  pub done_open : (k : ℕ) → k < n → DoneAt h d k → row_refusal (at h d k).machine (length (at h d k).row) ≡ done
  unfolding served_at outcome_of
  done_open k l on =
      by_cond (λ (x : Outcome). x ≡ done → row_refusal (at h d k).machine (length (at h d k).row) ≡ done)
      (is_ok (row_refusal (at h d k).machine (length (at h d k).row)))
      (λ e none. ok-done _ e)
      (λ e none. none)
      (sym (told_outcome k l) ∙ on)

-- A run makes byte times, and counts those that it makes. Assumes nothing.
use mathlib.Core.Path.{◌≡◌, refl, sym, ap, subst}
use mathlib.Core.Bool.{Bool, true, false, cond}
use mathlib.Core.List.{List}
use Prim.Native.Nat.{ℕ, zero, suc, ◌+◌, ◌<◌}
use native.Mathlib.Omega.{arith}
use lib.Dec.{ltb}
use lib.ListN.{length}
use Rattle.common.proofs.Cases.{by_cond}
use Rattle.registers.specs.declared.Lines.{Lines}
use Rattle.wd.specs.declared.Machine.{Machine}
use Rattle.registers.specs.declared.Pulse.{Pulse}
use Rattle.registers.specs.declared.Pulse.TheVariants as pulse
use Rattle.wd.specs.declared.Passed.{Passed}
use Rattle.wd.specs.declared.Tally.{Tally}
use Rattle.wd.specs.Rows.{row_refusal, under, refused_at, done_by, byte_time, byte_time_row, tallied, counted_of, ran_to, empty_run, stops_at, Run, next_in, onward, runs_on, run_from, run_of}
use Rattle.wd.proofs.Valid.{pass_open}
use Rattle.wd.proofs.Runs.{at, open_run}
use Rattle.wd.proofs.Stretches.{goes_on}
use Rattle.reachable.specs.ByteTimes.{machine_after, row_after, outcome_after, signals, Stops, by_limit, by_wire, by_cell, Makes, is_in, is_out, pulses, Counts}
use Rattle.reachable.proofs.AsGiven.{byte_time_machine, byte_time_row_lem}
use Rattle.refusals.specs.declared.Refusal.TheVariants as refusal
use Rattle.refusals.specs.Numbers.{refused, Outcome, done}
use Rattle.refusals.proofs.Outcomes.{done-ok, not_done-ok, not_err-done, err-done}
use Rattle.std.specs.Result.{is_ok, is_err}

-- ---- one byte time of a run

-- in a run only 4 refuses
only_four :
    (m : Machine) (l : Lines) (row : List ℕ)
    → row_refusal m (length row) ≡ done
    → ((byte_time m l row).outcome ≡ done → ⊥)
    → (byte_time m l row).outcome ≡ refused refusal.Cell
unfolding byte_time refused_at done_by
only_four m l row opens =
    by_cond (λ (p : Passed). (p.outcome ≡ done → ⊥) → p.outcome ≡ refused refusal.Cell) (is_ok (row_refusal m (length row)))
    (λ e.
    by_cond (λ (p : Passed). (p.outcome ≡ done → ⊥) → p.outcome ≡ refused refusal.Cell) (ltb 511 (under m row))
    (λ f h. refl)
    (λ f h. absurd (h refl)))
    (λ e h. absurd (h opens))

-- a byte time that is done adds one to the count of those that passed, and its pulse to the count of its kind
tallied_adds : (t : Tally) (p : Pulse)
    → ((tallied t p).passed ≡ t.passed + 1)
    × ((tallied t p).inward ≡ t.inward + cond (is_in p) 1 0)
    × ((tallied t p).outward ≡ t.outward + cond (is_out p) 1 0)
unfolding tallied is_in is_out
tallied_adds t pulse.Off = (refl, omega arith, omega arith)
tallied_adds t pulse.In = (refl, refl, omega arith)
tallied_adds t pulse.Out = (refl, omega arith, refl)

counted_done : (t : Tally) (o : Outcome) (p : Pulse) → o ≡ done → counted_of t o p ≡ tallied t p
unfolding counted_of
counted_done t o p on = simp (done-ok _ on)

counted_none : (t : Tally) (o : Outcome) (p : Pulse) → (o ≡ done → ⊥) → counted_of t o p ≡ t
unfolding counted_of
counted_none t o p stopped = simp (not_done-ok _ stopped)

-- counts that are those of n byte times more
record Adds (m : Machine) (l : Lines) (row : List ℕ) (n : ℕ) (t t' : Tally) : Type 0 where
  passed : t'.passed ≡ t.passed + n
  inward : t'.inward ≡ t.inward + pulses is_in n m l row
  outward : t'.outward ≡ t.outward + pulses is_out n m l row

adds_none : (m : Machine) (l : Lines) (row : List ℕ) {t t' : Tally} → t' ≡ t → Adds m l row 0 t t'
unfolding pulses
adds_none m l row {t} same = rw same (record { passed = omega arith; inward = omega arith; outward = omega arith })

-- one that is done, and n after it
adds_more : (m : Machine) (l : Lines) (row : List ℕ) (n : ℕ) (t t' : Tally)
    → (byte_time m l row).outcome ≡ done
    → let p = byte_time m l row in
    Adds p.machine l (byte_time_row m l row) n (counted_of t p.outcome p.pulse) t'
    → Adds m l row (suc n) t t'
unfolding pulses
adds_more m l row n t t' on rest =
    let now = tallied_adds t (byte_time m l row).pulse in
    let behind = rw (counted_done t _ (byte_time m l row).pulse on) at rest in
    record {
      passed = omega (arith, now.0, behind.passed);
      inward = omega (arith, now.1, behind.inward);
      outward = omega (arith, now.2, behind.outward);
    }

-- ---- all of them

-- no wire is on after n byte times, none of them counted in
still : (n : ℕ) (m : Machine) (l : Lines) (row : List ℕ)
    → signals m ≡ false
    → (0 < n → signals (machine_after n m l row) ≡ false)
    → signals (machine_after n m l row) ≡ false
unfolding machine_after
still zero m l row first rest = first
still (suc n) m l row first rest = rest (omega arith)

-- one byte time more in front
later : {m : Machine} {l : Lines} {limit : ℕ} {row : List ℕ} {n : ℕ} {outcome : Outcome}
    → signals (byte_time m l row).machine ≡ false
    → Stops (byte_time m l row).machine l limit (byte_time_row m l row) n outcome
    → Stops m l (suc limit) row (suc n) outcome
unfolding machine_after row_after
later quiet (by_limit e) = by_limit (ap suc e)
later quiet (by_wire some e) = by_wire (omega arith) e
later {m} {l} {limit} {row} {n} quiet (by_cell below off e) =
    by_cell (omega arith) (λ _. still n (byte_time m l row).machine l (byte_time_row m l row) quiet off) e

front : (P : ℕ → Type 0) (n : ℕ) → P 0 → ((k : ℕ) → suc k < n → P (suc k)) → (k : ℕ) → k < n → P k
front P n first rest zero h = first
front P n first rest (suc k) h = rest k h

-- how far a run comes from there, in so many byte times
abbrev MakesSome : ℕ → Lines → Run → Run → Type 0
MakesSome limit l from to =
    (n : ℕ)
    × Adds from.ran.machine l from.row n from.ran.tally to.ran.tally
    × Makes from.ran.machine l limit from.row n to

makes_none : (limit : ℕ) (l : Lines) (r : Run) → r.ran.outcome ≡ done → limit ≡ 0 → MakesSome limit l r r
unfolding machine_after row_after
makes_none limit l r z e = (
  0,
  adds_none r.ran.machine l r.row refl,
  record {
    most = omega arith;
    accepted = λ k h. absurd (omega arith);
    quiet = λ k h. absurd (omega arith);
    left = refl;
    written = refl;
    stops = rw z (by_limit (sym e));
  },
)

module _ (limit : ℕ) (l : Lines) (r : Run) (opens : row_refusal r.ran.machine (length r.row) ≡ done) where
  makes_last : stops_at (next_in l r) ≡ true → MakesSome (suc limit) l r (onward l r)
  unfolding stops_at onward ran_to machine_after row_after
  makes_last e = by (is_err (next_in l r).outcome) refl
    where
      by : (b : Bool) → is_err (next_in l r).outcome ≡ b → MakesSome (suc limit) l r (onward l r)
      by false d =
          let on : (next_in l r).outcome ≡ done = not_err-done _ d in (
            1,
            adds_more r.ran.machine l r.row 0 r.ran.tally _ on (adds_none _ l _ refl),
            record {
              most = omega arith;
              accepted =
                  front (λ (k : ℕ). outcome_after k r.ran.machine l r.row ≡ done) 1 on (λ k h. absurd (omega arith));
              quiet = λ k h. absurd (omega arith);
              left = refl;
              written = refl;
              stops = rw on (by_wire (omega arith) (rw d at e));
            },
          )
      by true d =
          let stopped : (next_in l r).outcome ≡ done → ⊥ = err-done _ d in
          let four : (next_in l r).outcome ≡ refused refusal.Cell = only_four r.ran.machine l r.row opens stopped in (
            0,
            adds_none r.ran.machine l r.row (counted_none r.ran.tally _ _ stopped),
            record {
              most = omega arith;
              accepted = λ k h. absurd (omega arith);
              quiet = λ k h. absurd (omega arith);
              left = byte_time_machine r.ran.machine l r.row stopped;
              written = byte_time_row_lem r.ran.machine l r.row stopped;
              stops = rw four (by_cell (omega arith) (λ h. absurd (omega arith)) four);
            },
          )

  makes_more : (to : Run) → (next_in l r).outcome ≡ done → signals (next_in l r).machine ≡ false
      → MakesSome limit l (onward l r) to
      → MakesSome (suc limit) l r to
  unfolding onward ran_to machine_after row_after
  makes_more to on quiet (n, c, made) = (
    suc n,
    adds_more r.ran.machine l r.row n r.ran.tally to.ran.tally on c,
    record {
      most = omega (arith, made.most);
      accepted =
          front (λ (k : ℕ). outcome_after k r.ran.machine l r.row ≡ done) (suc n) on
          (λ k h. made.accepted k (omega arith));
      quiet =
          λ k h.
          front (λ (k : ℕ). signals (machine_after (suc k) r.ran.machine l r.row) ≡ false) n quiet made.quiet k
          (omega arith);
      left = made.left;
      written = made.written;
      stops = later quiet made.stops;
    },
  )

makes : (limit : ℕ) (l : Lines) (r : Run)
    → row_refusal r.ran.machine (length r.row) ≡ done
    → r.ran.outcome ≡ done
    → MakesSome limit l r (runs_on limit l r)
unfolding runs_on onward ran_to
makes zero l r opens z = makes_none 0 l r z refl
makes (suc limit) l r opens z =
    by_cond (MakesSome (suc limit) l r) (stops_at (next_in l r))
    (makes_last limit l r opens)
    (λ e.
    let on = goes_on (next_in l r) e in
    makes_more limit l r opens (runs_on limit l (onward l r)) on.0 (simp (on.1, on.2))
    (makes limit l (onward l r) (pass_open r.ran.machine l r.row opens) on.0))

-- a run that begins with no count reports how many it makes, and how many pulses they give
from_none :
    (limit : ℕ) (l : Lines) (m : Machine) (row : List ℕ) (to : Run)
    → MakesSome limit l (at (empty_run done m) row) to
    → Makes m l limit row to.ran.tally.passed to × Counts m l row to.ran.tally.passed to.ran.tally
unfolding empty_run
from_none limit l m row to (n, c, made) =
    let told : n ≡ to.ran.tally.passed = omega (arith, c.passed) in (
      subst (λ (n : ℕ). Makes m l limit row n to) told made,
      subst (λ (n : ℕ). Counts m l row n to.ran.tally) told
          (record { passed = sym told; inward = omega (arith, c.inward); outward = omega (arith, c.outward) }),
    )

module _ (m : Machine) (l : Lines) (limit : ℕ) (row : List ℕ) (opens : row_refusal m (length row) ≡ done) where
  made_and_counted :
      Makes m l limit row (run_of m l limit row).tally.passed (run_from m l limit row)
      × Counts m l row (run_of m l limit row).tally.passed (run_of m l limit row).tally
  unfolding empty_run
  made_and_counted =
      let start = at (empty_run done m) row in
      subst
      (λ (r : Run). Makes m l limit row r.ran.tally.passed r × Counts m l row r.ran.tally.passed r.ran.tally)
      (sym (open_run m l limit row opens))
      (from_none limit l m row (runs_on limit l start) (makes limit l start opens refl))

  -- "A run call makes byte times up to a lent limit (0 to 65,535) and stops after the first one that ends with DRQ or INTRQ
  -- on. It reports how many passed."
  pub run_makes : Makes m l limit row (run_of m l limit row).tally.passed (run_from m l limit row)
  run_makes = made_and_counted.0

  -- "It counts step pulses in and out too."
  pub run_counts : Counts m l row (run_of m l limit row).tally.passed (run_of m l limit row).tally
  run_counts = made_and_counted.1

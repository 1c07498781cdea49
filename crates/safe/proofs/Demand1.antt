-- Demand 1, "Safe on every input": each call gives a number of document 01's table exactly when the table says, and hands
-- back what it says. Assumes nothing.
use mathlib.Core.Path.{◌≡◌, refl, sym, ◌∙◌, ap}
use mathlib.Core.Bool.{Bool, true, false, ◌&&◌}
use mathlib.Core.List.{List}
use mathlib.Core.Logic.{⊎_elim}
use Prim.Native.Nat.{ℕ, zero, suc, ◌≤◌, ◌<◌}
use native.Mathlib.Omega.{arith}
use lib.Dec.{leb, ltb, eqb}
use lib.ListN.{length}
use borrow.Author.Tests.{leb-true, leb-false, ltb-true, ltb-false, eqb-true, eqb-false}
use Rattle.common.proofs.Cases.{by_cond, never, both, all}
use Rattle.command.specs.declared.Chip.{Chip}
use Rattle.std.specs.Prelude.{Option}
use Rattle.command.specs.declared.Command.{Command}
use Rattle.activity.specs.Limits.{busy_in}
use Rattle.registers.specs.declared.Lines.{Lines}
use Rattle.scan.specs.Rows.{length_within}
use Rattle.registers.specs.Registers.{read_refusal, guarded, load_refusal}
use Rattle.wd.specs.declared.Machine.{Machine}
use Rattle.wd.specs.Machines.{valid_of, power_on}
use Rattle.wd.specs.Reads.{read_register}
use Rattle.wd.specs.Loads.{command_answer, load_register}
use Rattle.wd.specs.Rows.{row_refusal, under, refused_at, done_by, byte_time, byte_time_row, empty_run, Run, run_from}
use Rattle.wd.proofs.Valid.{row_open}
use Rattle.wd.proofs.Runs.{at}
use Rattle.reachable.specs.Growth.{Grown}
use Rattle.reachable.specs.ByteTimes.{machine_after, row_after, outcome_after, signals, Stops, by_limit, by_wire, by_cell, Makes, Counts}
use Rattle.reachable.proofs.Valid.{Valid, grown_valid}
use Rattle.reachable.proofs.AsGiven.{byte_time_machine, byte_time_row_lem, load_machine, read_machine_and_byte}
use Rattle.reachable.proofs.StatusBits.{status_busy}
use Rattle.reachable.proofs.Runs.{run_makes, run_counts}
use Rattle.refusals.specs.declared.Refusal.{Refusal}
use Rattle.refusals.specs.Numbers.{number_of, refused, Outcome, number_in, done}
use Rattle.safe.specs.Demand1.{OutOfRange, Invalid, NotItsLength, AboveFlagged, NoSuchRegister, WhileBusy, IsCommand, NoCommand, ComesTo, AtPowerOn, power_on_1, AtLoad, load_2, load_5, load_6, load_7, AtRead, read_2, read_5, AtByteTime, byte_time_2, byte_time_3, byte_time_4, AtRun, run_2, run_3, run_4, Given, SafePowerOn, SafeLoad, SafeRead, SafeByteTime, SafeRun}
use Rattle.safe.proofs.Refusals.{lowest, nothing, in_range, out_of_range, invalid, valid, guards, is_guarded, Takes, takes, given_row, refuses, named}
use Rattle.refusals.specs.declared.Refusal.TheVariants as refusal
use Rattle.refusals.proofs.Outcomes.{refused-done, done_number}

-- ---- power-on

power_on_rows : {size : ℕ} (P : ℕ → Type 0) → (OutOfRange size → P 1) → (j : ℕ) → AtPowerOn size j → P j
power_on_rows P one j (power_on_1 out) = one out

pub power_on_safe : (size : ℕ) (mfm : Bool) (chip : Chip) → SafePowerOn size chip (power_on size mfm chip)
unfolding number_in number_of power_on length_within
power_on_safe size mfm chip =
    by_cond (SafePowerOn size chip) (length_within size)
    (λ e.
    record {
      given = nothing (AtPowerOn size) (power_on_rows (λ j. ⊥) (in_range size e));
      refused = λ h. absurd (h refl);
    })
    (λ e.
    record {
      given =
          lowest (AtPowerOn size) 1 (omega arith) (power_on_1 (out_of_range size e))
          (power_on_rows (λ j. 1 ≤ j) (λ out. omega arith));
      refused = λ h. refl;
    })

-- ---- registers

module _ (m : Machine) (l : Lines) (number b : ℕ) where
  load_rows : (P : ℕ → Type 0)
      → (Invalid m → P 2)
      → (NoSuchRegister number → P 5)
      → (WhileBusy m l number b → P 6)
      → (number ≡ 0 → NoCommand m.chip b → P 7)
      → (j : ℕ)
      → AtLoad m l number b j
      → P j
  load_rows P two five six seven j (load_2 c) = two c
  load_rows P two five six seven j (load_5 c) = five c
  load_rows P two five six seven j (load_6 c) = six c
  load_rows P two five six seven j (load_7 z c) = seven z c

  commanded : {d : Option Command} → Takes (IsCommand m.chip b) d → number ≡ 0
      → (Invalid m → ⊥) → (NoSuchRegister number → ⊥) → (WhileBusy m l number b → ⊥)
      → Given (AtLoad m l number b) (number_in (command_answer m l b d).outcome)
  unfolding number_in number_of command_answer
  commanded (takes c is) z two five six = nothing (AtLoad m l number b) (load_rows (λ j. ⊥) two five six (λ e none. none is))
  commanded (refuses none) z two five six =
      lowest (AtLoad m l number b) 7 (omega arith) (load_7 z none)
      (load_rows (λ j. 7 ≤ j) (λ c. absurd (two c)) (λ c. absurd (five c)) (λ c. absurd (six c)) (λ z c. omega arith))

  load_given : Given (AtLoad m l number b) (number_in (load_register m l number b).outcome)
  unfolding number_in number_of load_register load_refusal
  load_given =
      by (valid_of m) refl (leb number 3) refl (busy_in m.activity && guarded number b) refl (eqb number 0) refl
    where
      some : NoSuchRegister number → leb number 3 ≡ true → ⊥
      some high r = let h = leb-true number 3 r in omega arith

      busy : Valid m → (busy_in m.activity && guarded number b) ≡ true → WhileBusy m l number b
      busy v g =
          let h = both (busy_in m.activity) (guarded number b) g in
          record { busy = status_busy m l v ∙ h.0; guarded = guards number b h.1 }

      free : Valid m → (busy_in m.activity && guarded number b) ≡ false → WhileBusy m l number b → ⊥
      free v g w =
          let h = all (sym (status_busy m l v) ∙ w.busy) (is_guarded number b w.guarded) in
          never (cc)

      by : (fits : Bool) → valid_of m ≡ fits → (low : Bool) → leb number 3 ≡ low
          → (held : Bool) → (busy_in m.activity && guarded number b) ≡ held → (first : Bool) → eqb number 0 ≡ first
          → Given (AtLoad m l number b) (number_in (load_register m l number b).outcome)
      by false v low r held g first z =
          rw v
          (lowest (AtLoad m l number b) 2 (omega arith) (load_2 (invalid m v))
          (load_rows (λ j. 2 ≤ j) (λ c. omega arith) (λ c. omega arith) (λ c. omega arith) (λ z c. omega arith)))
      by true v false r held g first z =
          rw (v, r)
          (lowest (AtLoad m l number b) 5 (omega arith) (load_5 (leb-false number 3 r))
          (load_rows (λ j. 5 ≤ j) (λ c. absurd (valid m v c)) (λ c. omega arith) (λ c. omega arith) (λ z c. omega arith)))
      by true v true r true g first z =
          rw (v, r, g)
          (lowest (AtLoad m l number b) 6 (omega arith) (load_6 (busy v g))
          (load_rows (λ j. 6 ≤ j) (λ c. absurd (valid m v c)) (λ c. absurd (some c r)) (λ c. omega arith)
          (λ z c. omega arith)))
      by true v true r false g true z =
          rw (v, r, g, z) (commanded (named m.chip b) (eqb-true number 0 z) (valid m v) (λ c. some c r) (free v g))
      by true v true r false g false z =
          rw (v, r, g, z)
          (nothing (AtLoad m l number b)
          (load_rows (λ j. ⊥) (valid m v) (λ c. some c r) (free v g) (λ e c. eqb-false number 0 z e)))

  pub load_safe : SafeLoad m l number b (load_register m l number b)
  load_safe = record { given = load_given; refused = load_machine m l number b }

module _ (m : Machine) (l : Lines) (number : ℕ) where
  read_rows : (P : ℕ → Type 0) → (Invalid m → P 2) → (NoSuchRegister number → P 5) → (j : ℕ) → AtRead m number j → P j
  read_rows P two five j (read_2 c) = two c
  read_rows P two five j (read_5 c) = five c

  read_given : Given (AtRead m number) (number_in (read_register m l number).outcome)
  unfolding number_in number_of read_register read_refusal
  read_given = by (valid_of m) refl (leb number 3) refl
    where
      by : (fits : Bool) → valid_of m ≡ fits → (low : Bool) → leb number 3 ≡ low
          → Given (AtRead m number) (number_in (read_register m l number).outcome)
      by false v low r =
          rw v
          (lowest (AtRead m number) 2 (omega arith) (read_2 (invalid m v))
          (read_rows (λ j. 2 ≤ j) (λ c. omega arith) (λ c. omega arith)))
      by true v false r =
          rw (v, r)
          (lowest (AtRead m number) 5 (omega arith) (read_5 (leb-false number 3 r))
          (read_rows (λ j. 5 ≤ j) (λ c. absurd (valid m v c)) (λ c. omega arith)))
      by true v true r =
          rw (v, r)
          (nothing (AtRead m number)
          (read_rows (λ j. ⊥) (valid m v) (λ c. let h = leb-true number 3 r in omega arith)))

  pub read_safe : SafeRead m number (read_register m l number)
  read_safe = record { given = read_given; refused = read_machine_and_byte m l number }

-- ---- byte times

module _ (m : Machine) (l : Lines) (row : List ℕ) where
  byte_time_rows : (P : ℕ → Type 0)
      → (Invalid m → P 2)
      → (NotItsLength m row → P 3)
      → (AboveFlagged m row → P 4)
      → (j : ℕ)
      → AtByteTime m row j
      → P j
  byte_time_rows P two three four j (byte_time_2 c) = two c
  byte_time_rows P two three four j (byte_time_3 c) = three c
  byte_time_rows P two three four j (byte_time_4 c) = four c

  byte_time_given : Given (AtByteTime m row) (number_in (byte_time m l row).outcome)
  unfolding number_in number_of byte_time row_refusal refused_at done_by
  byte_time_given = by (valid_of m) refl (eqb (length row) m.ring.length) refl (ltb 511 (under m row)) refl
    where
      by : (fits : Bool) → valid_of m ≡ fits → (same : Bool) → eqb (length row) m.ring.length ≡ same
          → (above : Bool) → ltb 511 (under m row) ≡ above
          → Given (AtByteTime m row) (number_in (byte_time m l row).outcome)
      by false v same e above f =
          rw v
          (lowest (AtByteTime m row) 2 (omega arith) (byte_time_2 (invalid m v))
          (byte_time_rows (λ j. 2 ≤ j) (λ c. omega arith) (λ c. omega arith) (λ c. omega arith)))
      by true v false e above f =
          rw (v, e)
          (lowest (AtByteTime m row) 3 (omega arith) (byte_time_3 (eqb-false _ _ e))
          (byte_time_rows (λ j. 3 ≤ j) (λ c. absurd (valid m v c)) (λ c. omega arith) (λ c. omega arith)))
      by true v true e true f =
          rw (v, e, f)
          (lowest (AtByteTime m row) 4 (omega arith) (byte_time_4 (ltb-true _ _ f))
          (byte_time_rows (λ j. 4 ≤ j) (λ c. absurd (valid m v c)) (λ c. absurd (c (eqb-true _ _ e))) (λ c. omega arith)))
      by true v true e false f =
          rw (v, e, f)
          (nothing (AtByteTime m row)
          (byte_time_rows (λ j. ⊥) (valid m v) (λ c. c (eqb-true _ _ e))
          (λ c. let h = ltb-false 511 (under m row) f in omega arith)))

  pub byte_time_safe : SafeByteTime m row (byte_time m l row) (byte_time_row m l row)
  byte_time_safe =
      record {
        given = byte_time_given;
        refused = λ h. (byte_time_machine m l row h, byte_time_row_lem m l row h);
      }

  -- 4 is given for the cell
  four_above : (byte_time m l row).outcome ≡ refused refusal.Cell → AboveFlagged m row
  unfolding number_in number_of
  four_above e =
      byte_time_rows (λ j. j ≡ 4 → AboveFlagged m row) (λ c z. absurd (omega arith)) (λ c z. absurd (omega arith)) (λ c z. c)
      4 (given_row byte_time_given 4 (omega arith) (ap number_in e)) refl

  done_below : (byte_time m l row).outcome ≡ done → AboveFlagged m row → ⊥
  done_below e above = byte_time_given.done.0 (done_number _ e) 4 (byte_time_4 above)

-- ---- runs

module _ (m : Machine) (l : Lines) (limit : ℕ) (row : List ℕ) where
  run_rows : (P : ℕ → Type 0)
      → (Invalid m → P 2)
      → (NotItsLength m row → P 3)
      → ((n : ℕ) → ComesTo m l limit row n → AboveFlagged (machine_after n m l row) (row_after n m l row) → P 4)
      → (j : ℕ)
      → AtRun m l limit row j
      → P j
  run_rows P two three four j (run_2 c) = two c
  run_rows P two three four j (run_3 c) = three c
  run_rows P two three four j (run_4 n comes c) = four n comes c

  -- refused before its first byte time
  refused_safe : (r : Refusal) → number_of r < 4
      → Given (AtRun m l limit row) (number_of r)
      → SafeRun m l limit row (at (empty_run (refused r) m) row)
  unfolding empty_run number_in
  refused_safe r early given =
      record {
        given = given;
        refused = λ h. record { machine = refl; untouched = refl; passed = refl; inward = refl; outward = refl };
        done = λ e. absurd (refused-done r e);
        stopped = λ e. absurd (omega arith);
      }

  module _ (v : Valid m) (same : length row ≡ m.ring.length) where
    -- a run that makes n byte times does not come to a cell above 511 before them
    module _ (n : ℕ) (accepted : (k : ℕ) → k < n → outcome_after k m l row ≡ done)
        (quiet : (k : ℕ) → suc k < n → signals (machine_after (suc k) m l row) ≡ false) where
      passed : (k : ℕ) → k < n → AboveFlagged (machine_after k m l row) (row_after k m l row) → ⊥
      passed k low = done_below (machine_after k m l row) l (row_after k m l row) (accepted k low)

      silent : (0 < n → signals (machine_after n m l row) ≡ false)
          → (k : ℕ) → k < n → signals (machine_after (suc k) m l row) ≡ false
      silent last k low = by (ltb (suc k) n) refl
        where
          by : (b : Bool) → ltb (suc k) n ≡ b → signals (machine_after (suc k) m l row) ≡ false
          by true e = quiet k (ltb-true _ _ e)
          by false e =
              let h = ltb-false (suc k) n e in
              let here : suc k ≡ n = omega arith in
              rw here (last (omega arith))

      -- where 4 stops it
      halted : {o : Outcome} → Stops m l limit row n o → number_in o ≡ 4
          → ComesTo m l limit row n × AboveFlagged (machine_after n m l row) (row_after n m l row)
      unfolding number_in
      halted (by_limit e) z = absurd (omega arith)
      halted (by_wire some e) z = absurd (omega arith)
      halted (by_cell below last e) z = (
        record { below = below; done = accepted; quiet = silent last },
        four_above (machine_after n m l row) l (row_after n m l row) e,
      )

      -- DRQ or INTRQ is off after each byte time before the one that a run comes to
      unstopped : (j k : ℕ) → 0 < j → j ≤ k → ComesTo m l limit row k → signals (machine_after j m l row) ≡ false
      unstopped zero k some low comes = absurd (omega arith)
      unstopped (suc j) k some low comes = comes.quiet j (omega arith)

      makes_given : {o : Outcome} → Stops m l limit row n o → Given (AtRun m l limit row) (number_in o)
      unfolding number_in number_of
      makes_given (by_limit e) =
          nothing (AtRun m l limit row)
          (run_rows (λ j. ⊥) (valid m v) (λ c. c same)
          (λ k comes above. let h = comes.below in passed k (omega arith) above))
      makes_given (by_wire some e) =
          nothing (AtRun m l limit row)
          (run_rows (λ j. ⊥) (valid m v) (λ c. c same) (λ k comes above. by k comes above (ltb k n) refl))
        where
          by : (k : ℕ) → ComesTo m l limit row k → AboveFlagged (machine_after k m l row) (row_after k m l row)
              → (b : Bool) → ltb k n ≡ b → ⊥
          by k comes above true f = passed k (ltb-true k n f) above
          by k comes above false f = let off = unstopped n k some (ltb-false k n f) comes in never (cc)
      makes_given (by_cell below last e) =
          let h = halted (by_cell below last e) refl in
          lowest (AtRun m l limit row) 4 (omega arith) (run_4 n h.0 h.1)
          (run_rows (λ j. 4 ≤ j) (λ c. absurd (valid m v c)) (λ c. absurd (c same)) (λ k comes c. omega arith))

    makes_safe : (r : Run)
        → Makes m l limit row r.ran.tally.passed r
        → Counts m l row r.ran.tally.passed r.ran.tally
        → SafeRun m l limit row r
    makes_safe r made counts =
        record {
          given = given;
          refused =
              ⊎_elim (λ e. absurd (not 2 (omega arith) (omega arith) e)) (λ e. absurd (not 3 (omega arith) (omega arith) e));
          done = λ e. (made, counts);
          stopped =
              λ e.
              let h = halted r.ran.tally.passed made.accepted made.quiet made.stops e in
              record { comes = h.0; cell = h.1; machine = made.left; writes = made.written; counts = counts };
        }
      where
        given : Given (AtRun m l limit row) (number_in r.ran.outcome)
        given = makes_given r.ran.tally.passed made.accepted made.quiet made.stops

        not : (k : ℕ) → 0 < k → k < 4 → number_in r.ran.outcome ≡ k → ⊥
        not k some low e =
            run_rows (λ j. j < 4 → ⊥) (λ c h. valid m v c) (λ c h. c same) (λ n comes c h. absurd (omega arith)) k
            (given_row given k some e) low

  pub run_safe : SafeRun m l limit row (run_from m l limit row)
  unfolding number_of run_from row_refusal
  run_safe = by (valid_of m) refl (eqb (length row) m.ring.length) refl
    where
      by : (fits : Bool) → valid_of m ≡ fits → (same : Bool) → eqb (length row) m.ring.length ≡ same
          → SafeRun m l limit row (run_from m l limit row)
      by false v same e =
          rw v
          (refused_safe refusal.Machine (omega arith)
          (lowest (AtRun m l limit row) 2 (omega arith) (run_2 (invalid m v))
          (run_rows (λ j. 2 ≤ j) (λ c. omega arith) (λ c. omega arith) (λ n comes c. omega arith))))
      by true v false e =
          rw (v, e)
          (refused_safe refusal.Track (omega arith)
          (lowest (AtRun m l limit row) 3 (omega arith) (run_3 (eqb-false _ _ e))
          (run_rows (λ j. 3 ≤ j) (λ c. absurd (valid m v c)) (λ c. omega arith) (λ n comes c. omega arith))))
      by true v true e =
          let same = eqb-true (length row) m.ring.length e in
          let opens = row_open m (length row) v same in
          makes_safe v same (run_from m l limit row) (run_makes m l limit row opens) (run_counts m l limit row opens)

-- ---- machines grown from power-on

-- "a count above the largest its activity holds in any machine grown from power-on": 2 is the number of none of them
pub grown_never_two : (m : Machine) → Grown m → Invalid m → ⊥
grown_never_two m g = valid m (grown_valid m g)

-- A stretch is the byte times that it stands for: a run that passes them at once comes to where it comes by passing each.
-- Assumes nothing.
use mathlib.Core.Path.{◌≡◌, refl, sym, ap, ap₂, subst, ◌∙◌}
use mathlib.Core.Bool.{Bool, true, false, cond, not, ◌&&◌, ◌||◌, and-false, and-not_self, or-false}
use mathlib.Core.List.{List}
use Prim.Native.Nat.{ℕ, zero, suc, ◌+◌, ◌-◌, ◌≤◌, ◌<◌}
use native.Mathlib.Omega.{arith}
use lib.Dec.{ltb, eqb}
use lib.ListN.{length, get_or}
use lib.Seq.{set-get_or}
use borrow.Author.Tests.{ne_eqb, lt-ltb, le-ltb}
use Rattle.common.proofs.Cases.{by_cond, neither}
use Rattle.activity.specs.Acts.{pass}
use Rattle.activity.specs.Limits.{busy_in}
use Rattle.activity.specs.declared.Act.{Act}
use Rattle.activity.specs.declared.Activity.{Activity}
use Rattle.activity.specs.declared.Deed.TheVariants.{Nothing}
use Rattle.effects.specs.Effects.{effect_of}
use Rattle.registers.specs.Rings.{ring_next, seen_of, condition_met}
use Rattle.registers.specs.declared.Conditions.{Conditions}
use Rattle.registers.specs.declared.Lines.{Lines}
use Rattle.registers.specs.declared.Pulse.TheVariants as pulse
use Rattle.registers.specs.declared.Ring.{Ring}
use Rattle.act.specs.Turns.{act_of}
use Rattle.stretch.specs.Stretches.{activity_after, stretch_ahead}
use Rattle.stretch.proofs.Passing.{Passes, ahead_passes}
use Rattle.stretch.proofs.Stretching.{busy_later, later_none}
use Rattle.wd.specs.declared.Machine.{Machine}
use Rattle.wd.specs.declared.Passed.{Passed}
use Rattle.wd.specs.declared.Ran.{Ran}
use Rattle.wd.specs.Turns.{conditions_of, act_applied, sees_of, does_of, cell_turn}
use Rattle.wd.specs.Rows.{row_refusal, under, refused_at, done_by, byte_time, byte_time_row, tallied, counted_of, ran_to, empty_run, stops_at, Run, onward, runs_on}
use Rattle.wd.specs.Stretches.{after_stretch, first_stretch, ran_on}
use Rattle.wd.proofs.Valid.{Held, valid_ring, open_row, pass_open}
use Rattle.wd.proofs.Runs.{at, no_more, Along, starts, again}
use Rattle.wd.specs.Counts.{HasRoom}
use Rattle.refusals.specs.Numbers.{Outcome, done}
use Rattle.refusals.proofs.Outcomes.{done-ok, not_err-done, not_ok-done, refused-done}
use Rattle.std.specs.Result.{is_ok, is_err}

-- ---- one byte time

-- with no edge of Ready and no pulse no condition is met
told_none : (k : Conditions) (ready : Bool) → condition_met k ready ready false ≡ false
unfolding condition_met
told_none k true = simp (and-false, or-false)
told_none k false = simp (and-false, or-false)

-- the machine after a byte time in which the activity alone is another
abbrev moved_of : Machine → Bool → Activity → Machine
moved_of m ready a =
    record {
      ring = record { length = m.ring.length; position = m.ring.position + 1 };
      chip = m.chip;
      mfm = m.mfm;
      sso = m.sso;
      regs = m.regs;
      wires = m.wires;
      flags = m.flags;
      head = m.head;
      past = record { ready = ready; index = false };
      order = m.order;
      activity = a;
    }

next_plain : (r : Ring) → r.position + 1 < r.length → ring_next r ≡ record { length = r.length; position = r.position + 1 }
unfolding ring_next
next_plain r h =
    let apart : (r.position + 1 ≡ r.length) → ⊥ = λ z. absurd (omega arith) in
    rw (lt-ltb r.position r.length (omega arith), ne_eqb (r.position + 1) r.length apart)

module _ (m : Machine) (l : Lines) (cell : ℕ) (a : Activity)
    (some : 0 < m.ring.position) (inside : m.ring.position + 1 < m.ring.length) (seen : m.past.ready ≡ l.ready)
    (busy : busy_in a ≡ busy_in m.activity) where
  no_pulse : eqb m.ring.position 0 ≡ false
  no_pulse = ne_eqb m.ring.position 0 (λ z. absurd (omega arith))

  no_wire :
      (m.wires.intrq
      || condition_met (conditions_of m) m.past.ready l.ready (eqb m.ring.position 0)
      || (busy_in m.activity && not (busy_in a)))
      ≡ m.wires.intrq
  no_wire =
      rw (busy, no_pulse, seen) (simp (told_none (conditions_of m) l.ready, and-not_self (busy_in m.activity), or-false))

  turned_still : does_of m l cell ≡ pass (sees_of m l cell) a Nothing
      → cell_turn m l cell ≡ record { machine = moved_of m l.ready a; cell = cell; pulse = pulse.Off }
  unfolding cell_turn seen_of act_applied effect_of
  turned_still does =
      ap (λ (act : Act). act_applied m act l.ready (sees_of m l cell).index) does
      ∙ rw (next_plain m.ring inside, no_wire, no_pulse) refl

-- ---- a byte time of a run

-- what a stretch asks of the run that it comes in: no refusal, no wire, and the Ready that is seen has been seen
pub record Quiet (l : Lines) (ran : Ran) (row : List ℕ) : Type 0 where
  pub opens : row_refusal ran.machine (length row) ≡ done
  pub done : ran.outcome ≡ done
  pub drq : ran.machine.wires.drq ≡ false
  pub intrq : ran.machine.wires.intrq ≡ false
  pub seen : ran.machine.past.ready ≡ l.ready

-- one byte time more, with the machine after it
abbrev stepped : Ran → Machine → Ran
stepped ran m =
    record {
      outcome = done;
      tally = record { passed = ran.tally.passed + 1; inward = ran.tally.inward; outward = ran.tally.outward };
      machine = m;
    }

module _ (l : Lines) (ran : Ran) (row : List ℕ) (quiet : Quiet l ran row) (a : Activity)
    (some : 0 < ran.machine.ring.position) (inside : ran.machine.ring.position + 1 < ran.machine.ring.length)
    (busy : busy_in a ≡ busy_in ran.machine.activity) (taken : under ran.machine row < 512)
    (does : does_of ran.machine l (under ran.machine row) ≡ pass (sees_of ran.machine l (under ran.machine row)) a Nothing) where
  abbrev m : Machine
  m = ran.machine

  turns : cell_turn m l (under m row) ≡ record { machine = moved_of m l.ready a; cell = under m row; pulse = pulse.Off }
  turns = turned_still m l (under m row) a some inside quiet.seen busy does

  low : ltb 511 (under m row) ≡ false
  low = le-ltb 511 (under m row) (omega (arith, taken))

  passed_still : byte_time m l row ≡ record { outcome = done; pulse = pulse.Off; machine = moved_of m l.ready a }
  unfolding byte_time done_by
  passed_still = rw (done-ok _ quiet.opens, low, turns) refl

  row_still : byte_time_row m l row ≡ row
  unfolding byte_time_row
  row_still = rw (done-ok _ quiet.opens, low, turns) (set-get_or row m.ring.position 0)

  stops_still : stops_at (byte_time m l row) ≡ false
  unfolding stops_at
  stops_still = rw passed_still (rw (quiet.drq, quiet.intrq) refl)

  onward_still : onward l (at ran row) ≡ at (stepped ran (moved_of m l.ready a)) row
  unfolding onward ran_to counted_of tallied
  onward_still =
      ap₂ at
      (ap (λ (p : Passed). ran_to ran.tally p) passed_still)
      row_still

  run_still : (n : ℕ) → runs_on (suc n) l (at ran row) ≡ runs_on n l (at (stepped ran (moved_of m l.ready a)) row)
  unfolding runs_on
  run_still n = rw stops_still (ap (runs_on n l) onward_still)

-- ---- the stretch

module _ (l : Lines) (ran : Ran) (row : List ℕ) (quiet : Quiet l ran row) (limit k : ℕ)
    (passes : Passes ran.machine.ring ran.machine.activity limit row k) where
  abbrev base : Machine
  base = ran.machine

  -- the machine and the run after i byte times of the stretch
  machine_behind : ℕ → Machine
  machine_behind zero = base
  machine_behind (suc i) = after_stretch base (suc i) l.ready

  abbrev behind : ℕ → Ran
  behind i =
      record {
        outcome = done;
        tally = record { passed = ran.tally.passed + i; inward = ran.tally.inward; outward = ran.tally.outward };
        machine = machine_behind i;
      }

  behind_is : (i : ℕ) → ran_on ran i l.ready ≡ behind i
  unfolding ran_on machine_behind
  behind_is zero =
      ap₂
      (λ (outcome : Outcome) (passed : ℕ). record {
        outcome = outcome;
        tally = record { passed = passed; inward = ran.tally.inward; outward = ran.tally.outward };
        machine = base;
      })
      quiet.done
      (omega arith)
  behind_is (suc i) = rw (ne_eqb (suc i) 0 (λ z. absurd (omega arith)), quiet.done) refl

  ring_behind : (i : ℕ) → (machine_behind i).ring ≡ record { length = base.ring.length; position = base.ring.position + i }
  unfolding after_stretch machine_behind
  ring_behind zero =
      let none : base.ring.position ≡ base.ring.position + 0 = omega arith in
      ap (λ (p : ℕ). record { length = base.ring.length; position = p }) none
  ring_behind (suc i) = refl

  activity_behind : (i : ℕ) → (machine_behind i).activity ≡ activity_after i base.activity
  unfolding after_stretch machine_behind
  activity_behind zero = sym (later_none base.activity)
  activity_behind (suc i) = refl

  abbrev moved : ℕ → Machine
  moved i = moved_of (machine_behind i) l.ready (activity_after (suc i) base.activity)

  moves : (i : ℕ) → moved i ≡ machine_behind (suc i)
  unfolding after_stretch machine_behind
  moves zero = refl
  moves (suc i) =
      let one : base.ring.position + suc i + 1 ≡ base.ring.position + suc (suc i) = omega arith in
      ap
      (λ (p : ℕ). record {
        ring = record { length = base.ring.length; position = p };
        chip = base.chip;
        mfm = base.mfm;
        sso = base.sso;
        regs = base.regs;
        wires = base.wires;
        flags = base.flags;
        head = base.head;
        past = record { ready = l.ready; index = false };
        order = base.order;
        activity = activity_after (suc (suc i)) base.activity;
      })
      one

  steps : (i : ℕ) → stepped (behind i) (moved i) ≡ behind (suc i)
  steps i =
      ap₂
      (λ (passed : ℕ) (m : Machine). record {
        outcome = done;
        tally = record { passed = passed; inward = ran.tally.inward; outward = ran.tally.outward };
        machine = m;
      })
      (omega arith)
      (moves i)

  module _ (i : ℕ) (less : i < k) (still : Quiet l (behind i) row) where
    abbrev here : Machine
    here = machine_behind i

    place : here.ring.position ≡ base.ring.position + i
    place = ap (λ (r : Ring). r.position) (ring_behind i)

    some : 0 < here.ring.position
    some = rw place (omega (arith, passes.some))

    inside : here.ring.position + 1 < here.ring.length
    inside = rw (ring_behind i) (omega (arith, passes.inside))

    busy : busy_in (activity_after (suc i) base.activity) ≡ busy_in here.activity
    busy =
        busy_later (suc i) base.activity ∙ sym (busy_later i base.activity) ∙ ap busy_in (sym (activity_behind i))

    cell : under here row ≡ get_or row (base.ring.position + i) 0
    cell = ap (λ (p : ℕ). get_or row p 0) place

    does : does_of here l (under here row) ≡ pass (sees_of here l (under here row)) (activity_after (suc i) base.activity) Nothing
    unfolding seen_of
    does =
        ap (act_of here.order (sees_of here l (under here row))) (activity_behind i)
        ∙ passes.still here.order (sees_of here l (under here row)) i less
        (ne_eqb here.ring.position 0 (λ z. absurd (omega (arith, some))))
        cell

    on : (n : ℕ) → runs_on (suc n) l (at (behind i) row) ≡ runs_on n l (at (behind (suc i)) row)
    on n =
        run_still l (behind i) row still (activity_after (suc i) base.activity) some inside busy (rw cell (passes.taken i less)) does n
        ∙ ap (λ (r : Ran). runs_on n l (at r row)) (steps i)

    opens : row_refusal (moved i) (length row) ≡ done
    opens =
        let p = passed_still l (behind i) row still (activity_after (suc i) base.activity) some inside busy (rw cell (passes.taken i less)) does in
        let r = row_still l (behind i) row still (activity_after (suc i) base.activity) some inside busy (rw cell (passes.taken i less)) does in
        ap₂ (λ (p : Passed) (r : List ℕ). row_refusal p.machine (length r)) (sym p) (sym r) ∙ pass_open here l row still.opens

    quiet_on : Quiet l (behind (suc i)) row
    quiet_on =
        subst (λ (r : Ran). Quiet l r row) (steps i)
        (record { opens = opens; done = refl; drq = still.drq; intrq = still.intrq; seen = refl })

  along : (i : ℕ) → i ≤ k → Quiet l (behind i) row × ((n : ℕ) → runs_on (n + i) l (at ran row) ≡ runs_on n l (at (behind i) row))
  unfolding ran_on
  along zero h = (
    subst (λ (r : Ran). Quiet l r row) (behind_is 0) quiet,
    λ n. ap₂ (λ (n : ℕ) (r : Ran). runs_on n l (at r row)) (omega arith) (behind_is 0),
  )
  along (suc i) h =
      let before = along i (omega arith) in (
        quiet_on i (omega arith) before.0,
        λ n.
            ap (λ (n : ℕ). runs_on n l (at ran row)) (omega arith) ∙ before.1 (suc n) ∙ on i (omega arith) before.0 n,
      )

  -- a run passes a stretch at once
  pub stretch_runs : (n : ℕ) → runs_on (n + k) l (at ran row) ≡ runs_on n l (at (ran_on ran k l.ready) row)
  stretch_runs n = (along k (omega arith)).1 n ∙ ap (λ (r : Ran). runs_on n l (at r row)) (sym (behind_is k))

  -- and may go on after it
  pub stretch_opens : row_refusal (ran_on ran k l.ready).machine (length row) ≡ done
  stretch_opens = ap (λ (r : Ran). row_refusal r.machine (length row)) (behind_is k) ∙ (along k (omega arith)).0.opens

-- ---- the loop

tally_on :
    (ran : Ran) (k : ℕ) (ready : Bool)
    → (ran_on ran k ready).tally
    ≡ record { passed = ran.tally.passed + k; inward = ran.tally.inward; outward = ran.tally.outward }
unfolding ran_on
tally_on ran zero ready =
    let none : ran.tally.passed ≡ ran.tally.passed + 0 = omega arith in
    ap (λ (n : ℕ). record { passed = n; inward = ran.tally.inward; outward = ran.tally.outward }) none
tally_on ran (suc k) ready = rw (ne_eqb (suc k) 0 (λ z. absurd (omega arith)))

-- after a byte time that has not stopped the run
after_pass :
    (m : Machine) (l : Lines) (row : List ℕ)
    → (byte_time m l row).outcome ≡ done
    → (byte_time m l row).machine.past.ready ≡ l.ready
unfolding byte_time refused_at done_by cell_turn act_applied
after_pass m l row =
    by_cond (λ (p : Passed). p.outcome ≡ done → p.machine.past.ready ≡ l.ready) (is_ok (row_refusal m (length row)))
    (λ e.
    by_cond (λ (p : Passed). p.outcome ≡ done → p.machine.past.ready ≡ l.ready) (ltb 511 (under m row))
    (λ f h. absurd (refused-done _ h))
    (λ f h. refl))
    (λ e h. absurd (not_ok-done _ e h))

pub goes_on : (p : Passed) → stops_at p ≡ false → (p.outcome ≡ done) × (p.machine.wires.drq ≡ false) × (p.machine.wires.intrq ≡ false)
unfolding stops_at
goes_on p e =
    let h = neither (is_err p.outcome || p.machine.wires.drq) p.machine.wires.intrq e in
    let g = neither (is_err p.outcome) p.machine.wires.drq h.0 in
    (not_err-done p.outcome g.0, g.1, h.1)

-- so nothing keeps a stretch from coming next
pub quiet_after :
    (l : Lines) (ran : Ran) (row : List ℕ) (passed : Passed) (next : Ran) (row' : List ℕ)
    → passed ≡ byte_time ran.machine l row
    → next ≡ ran_to ran.tally passed
    → stops_at passed ≡ false
    → row_refusal next.machine (length row') ≡ done
    → Quiet l next row'
unfolding ran_to
quiet_after l ran row passed next row' hp hn on opens =
    let g = goes_on passed on in
    let told = after_pass ran.machine l row (sym (ap (λ (p : Passed). p.outcome) hp) ∙ g.0) in
    record {
      opens = opens;
      done = ap (λ (r : Ran). r.outcome) hn ∙ g.0;
      drq = ap (λ (r : Ran). r.machine.wires.drq) hn ∙ g.1;
      intrq = ap (λ (r : Ran). r.machine.wires.intrq) hn ∙ g.2;
      seen = ap (λ (r : Ran). r.machine.past.ready) hn ∙ ap (λ (p : Passed). p.machine.past.ready) hp ∙ told;
    }

-- what lets a run begin with one
begins :
    (drq intrq was ready : Bool) (k n : ℕ)
    → k ≡ cond (drq || intrq || (was && not ready) || (not was && ready)) 0 n
    → 0 < k
    → (drq ≡ false) × (intrq ≡ false) × (was ≡ ready) × (k ≡ n)
begins true intrq was ready k n e more = absurd (omega (arith, e, more))
begins false true was ready k n e more = absurd (omega (arith, e, more))
begins false false true true k n e more = (refl, refl, refl, e)
begins false false true false k n e more = absurd (omega (arith, e, more))
begins false false false true k n e more = absurd (omega (arith, e, more))
begins false false false false k n e more = (refl, refl, refl, e)

pub quiet_first :
    (l : Lines) (m : Machine) (limit : ℕ) (row : List ℕ) (k : ℕ)
    → row_refusal m (length row) ≡ done
    → k ≡ first_stretch m l.ready limit row
    → 0 < k
    → Quiet l (empty_run done m) row × (k ≡ stretch_ahead m.ring m.activity limit row)
unfolding first_stretch empty_run
quiet_first l m limit row k opens hk more =
    let b = begins m.wires.drq m.wires.intrq m.past.ready l.ready k (stretch_ahead m.ring m.activity limit row) hk more in
    (record { opens = opens; done = refl; drq = b.0; intrq = b.1; seen = b.2 }, b.3)

-- a run that a stretch comes next in, or none
module _ (l : Lines) (next : Ran) (row' : List ℕ) (whole : ℕ) (start : Run) (left : ℕ) (v : Along l whole start left next row')
    (k : ℕ) (comes : 0 < k → Quiet l next row' × (k ≡ stretch_ahead next.machine.ring next.machine.activity left row')) where
  passes_next : 0 < k → Passes next.machine.ring next.machine.activity left row' k
  passes_next more =
      let hk = (comes more).1 in
      subst (λ (k : ℕ). Passes next.machine.ring next.machine.activity left row' k) (sym hk)
      (ahead_passes next.machine.ring next.machine.activity left row' (rw hk at more))

  -- the position does not run over
  pub stretch_fits : next.machine.ring.position + k < 65536
  stretch_fits = by k refl (valid_ring next.machine (open_row next.machine (length row') v.passes).0)
    where
      by : (n : ℕ) → k ≡ n → Held next.machine.ring → next.machine.ring.position + k < 65536
      by zero e held = omega (arith, held.inside, held.most)
      by (suc n) e held = omega (arith, (passes_next (omega arith)).inside, held.most)

  abbrev after : Ran
  after = ran_on next k l.ready

  opens_after : row_refusal after.machine (length row') ≡ done
  unfolding ran_on
  opens_after = by k refl
    where
      by : (n : ℕ) → k ≡ n → row_refusal after.machine (length row') ≡ done
      by zero e = rw e v.passes
      by (suc n) e = stretch_opens l next row' (comes (omega arith)).0 left k (passes_next (omega arith))

  rest_after : k ≤ left → runs_on left l (at next row') ≡ runs_on (left - k) l (at after row')
  unfolding ran_on
  rest_after most = by k refl
    where
      by : (n : ℕ) → k ≡ n → runs_on left l (at next row') ≡ runs_on (left - k) l (at after row')
      by zero e = let all : left ≡ left - 0 = omega arith in rw e (ap (λ (n : ℕ). runs_on n l (at next row')) all)
      by (suc n) e =
          let all : left ≡ left - k + k = omega arith in
          ap (λ (n : ℕ). runs_on n l (at next row')) all
          ∙ stretch_runs l next row' (comes (omega arith)).0 left k (passes_next (omega arith)) (left - k)

  -- the run goes on after the stretch as it would have gone on byte time by byte time
  pub stretch_along : k ≤ left → (ran'' : Ran) → ran'' ≡ after → Along l whole start (left - k) ran'' row'
  stretch_along most ran'' h =
      subst (λ (r : Ran). Along l whole start (left - k) r row') (sym h)
      (record {
        same = v.same;
        passes = opens_after;
        rest = v.rest ∙ rest_after most;
        room = rw (tally_on next k l.ready) (omega (arith, v.room.0), (omega (arith, v.room.1.0), omega (arith, v.room.1.1)));
      })

-- after a byte time that has not stopped the run: there is room for the stretch that comes next, and the run goes on after it
module _ (l : Lines) (ran : Ran) (row : List ℕ) (passed : Passed) (row' : List ℕ) (next : Ran)
    (hp : passed ≡ byte_time ran.machine l row) (hr : row' ≡ byte_time_row ran.machine l row) (hn : next ≡ ran_to ran.tally passed)
    (whole : ℕ) (start : Run) (left : ℕ) (v : Along l whole start left ran row) (more : 0 < left) (on : stops_at passed ≡ false)
    (room : (n : ℕ) → HasRoom ran.tally (n + 1) → HasRoom next.tally n)
    (k : ℕ) (hk : k ≡ stretch_ahead next.machine.ring next.machine.activity (left - 1) row') (most : k ≤ left - 1) where
  one : Along l whole start (left - 1) next row'
  one = again l ran row passed row' next hp hr hn whole start left v more on room

  still : 0 < k → Quiet l next row' × (k ≡ stretch_ahead next.machine.ring next.machine.activity (left - 1) row')
  still some = (quiet_after l ran row passed next row' hp hn on one.passes, hk)

  pub turn_fits : (next.tally.passed + k < 65536) × (next.machine.ring.position + k < 65536)
  turn_fits = (omega (arith, one.room.0, most), stretch_fits l next row' whole start (left - 1) one k still)

  pub turn_along : (ran'' : Ran) → ran'' ≡ ran_on next k l.ready → Along l whole start (left - 1 - k) ran'' row'
  turn_along = stretch_along l next row' whole start (left - 1) one k still most

-- ---- where a run begins

module _ (l : Lines) (m : Machine) (limit : ℕ) (row : List ℕ) (opens : row_refusal m (length row) ≡ done) (fits : limit < 65536)
    (ran : Ran) (e : ran ≡ empty_run done m) (k : ℕ) (hk : k ≡ first_stretch m l.ready limit row) (most : k ≤ limit) where
  begun : Along l limit (at ran row) limit ran row
  begun = starts l m limit ran row e opens fits

  comes : 0 < k → Quiet l ran row × (k ≡ stretch_ahead ran.machine.ring ran.machine.activity limit row)
  unfolding empty_run
  comes more = rw e (quiet_first l m limit row k opens hk more)

  -- there is room for the stretch
  pub first_fits : (ran.tally.passed + k < 65536) × (ran.machine.ring.position + k < 65536)
  first_fits = (omega (arith, begun.room.0, most), stretch_fits l ran row limit (at ran row) limit begun k comes)

  pub first_along : (ran' : Ran) → ran' ≡ ran_on ran k l.ready → Along l limit (at ran row) (limit - k) ran' row
  first_along = stretch_along l ran row limit (at ran row) limit begun k comes most

  -- the run goes on after it
  pub first_run : (ran' : Ran) → ran' ≡ ran_on ran k l.ready → runs_on limit l (at (empty_run done m) row) ≡ runs_on (limit - k) l (at ran' row)
  first_run ran' h = ap (λ (r : Ran). runs_on limit l (at r row)) (sym e) ∙ (first_along ran' h).rest

  -- or is over with it
  pub first_whole : (ran' : Ran) → ran' ≡ ran_on ran k l.ready → k ≡ limit → runs_on limit l (at (empty_run done m) row) ≡ at ran' row
  first_whole ran' h all = first_run ran' h ∙ no_more (limit - k) l (at ran' row) (omega (arith, all))

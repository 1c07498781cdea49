-- The course of a command, as a host's: it ends in the byte time that the last of its calls ends with. Assumes nothing.
use mathlib.Core.Path.{◌≡◌, refl, sym, ap, ap₂, ◌∙◌, subst}
use mathlib.Core.Bool.{Bool, true, false, not, ◌&&◌, ◌||◌, true≢false}
use mathlib.Core.List.{[], ◌∷◌}
use mathlib.Core.Logic.{inl, inr}
use Prim.Native.Nat.{ℕ, zero, suc, ◌+◌, ◌-◌, ◌≤◌, ◌<◌}
use native.Mathlib.Nat.{zero-add, add-zero, add-suc, add_assoc}
use native.Mathlib.Decide.{dec_lt}
use native.Mathlib.Omega.{arith}
use lib.Dec.{eqb}
use lib.ListN.{length}
use Rattle.common.proofs.Cases.{never, by_cond, not_on}
use Rattle.command.specs.Commands.{decoded_of}
use Rattle.command.specs.declared.Command.{Command}
use Rattle.command.specs.declared.Command.TheVariants.{ForceInterrupt}
use Rattle.std.specs.Prelude.{Some}
use Rattle.activity.specs.Limits.{busy_in}
use Rattle.registers.specs.declared.Lines.{Lines}
use Rattle.wd.specs.declared.Machine.{Machine}
use Rattle.wd.specs.declared.Called.{Called}
use Rattle.wd.specs.declared.Read.{Read}
use Rattle.wd.specs.Loads.{load_register}
use Rattle.wd.specs.declared.Ran.{Ran}
use Rattle.wd.specs.Rows.{row_refusal, empty_run, Run, run_of}
use Rattle.reachable.specs.ByteTimes.{machine_after, row_after, signals}
use Rattle.reachable.proofs.Runs.{run_makes}
use Rattle.hosts.specs.Hosts.{Call, loads, reads, called_of, called_all, commands, none, more, Host, Desk, served_at, passes_under, at, AloneUntil, EndsAt}
use Rattle.hosts.specs.Scenes.{loaded}
use Rattle.hosts.proofs.Firsts.{FirstOrNone, first}
use Rattle.hosts.proofs.Idling.{stays_over}
use Rattle.hosts.proofs.Intrq.{ends_told}
use Rattle.hosts.proofs.QuietCalls.{calls_activity}
use Rattle.uses.specs.Uses.{Made, load, read, byte_time_call, run, Use, over, next, no_command, passed_in, passed, passes_then, calls_then, made_then, host_of, due_at}
use Rattle.uses.specs.Courses.{Accepted, since, Course, silent, scene_of, course_then}
use Rattle.uses.proofs.QuietUse.{Quiet, quiet_made, quiet_use}
use Rattle.uses.proofs.Statuses.{made_valid, use_valid, since_valid, busy_showed}
use Rattle.uses.proofs.EveryUse.{desk_of, called_at, turned, at_time, byte_time_turns, run_turns, lines_times, every_use, run_told, empty_run_lem}
use Rattle.refusals.specs.Numbers.{refused, done}
use Rattle.refusals.proofs.Outcomes.{done_decided}
use Rattle.std.specs.Result.{is_ok}

-- ---- inside a call

module _ (l : Lines) (h : Host) where
  -- the byte times of a run come one after another, with no call in between
  pub within_times : (n : ℕ) (d : Desk) (i : ℕ) → i ≤ n → at (passes_then n l h) d i ≡ turned i l d
  unfolding at machine_after row_after passes_under
  within_times n d zero most = refl
  within_times zero d (suc i) most = absurd (omega arith)
  within_times (suc n) d (suc i) most = at_time l h n d i ∙ within_times n (passes_under l d) i (omega arith)

-- a run has no byte time but its last that ends with DRQ or INTRQ on
pub quiet_run :
    (d : Desk) (l : Lines) (limit i : ℕ)
    → suc i < (run_of d.machine l limit d.row).tally.passed
    → signals (machine_after (suc i) d.machine l d.row) ≡ false
unfolding empty_run
quiet_run d l limit i before = by (done_decided (row_refusal d.machine (length d.row)))
  where
    by : Dec (row_refusal d.machine (length d.row) ≡ done) → signals (machine_after (suc i) d.machine l d.row) ≡ false
    by (yes opens) = (run_makes d.machine l limit d.row opens).quiet i before
    by (no refused) =
        absurd (omega (arith, subst (λ (q : Run). suc i < q.ran.tally.passed) (empty_run_lem d l limit refused) before))

-- nor has any call
pub quiet_within :
    {d e : Desk} (made : Made d e) (h : Host) (i : ℕ)
    → suc i < passed_in made
    → signals (at (made_then made h) d (suc i)).machine ≡ false
unfolding passed_in made_then
quiet_within (load l number b byte r told) h i before = absurd (omega arith)
quiet_within (read l number r told) h i before = absurd (omega arith)
quiet_within (byte_time_call l r row told) h i before =
    absurd (by_cond (λ (n : ℕ). suc i < n → ⊥) (is_ok r.outcome) (λ e x. omega arith) (λ e x. omega arith) before)
quiet_within {d} (run l limit r row told) h i before =
    ap (λ (e : Desk). signals e.machine) (within_times l h r.tally.passed d (suc i) (omega arith))
    ∙ quiet_run d l limit i (subst (λ (q : Ran). suc i < q.tally.passed) (run_told told).0 before)

-- ---- after a use

lines_made : {d e : Desk} (made : Made d e) (h : Host) (k : ℕ) → (made_then made h).lines (passed_in made + k) ≡ h.lines k
unfolding made_then passed_in calls_then
lines_made (load l number b byte r told) h k = ap h.lines (zero-add k)
lines_made (read l number r told) h k = ap h.lines (zero-add k)
lines_made (byte_time_call l r row told) h k = lines_times l h _ k
lines_made (run l limit r row told) h k = lines_times l h _ k

lines_use : {d e : Desk} (u : Use d e) (h : Host) (k : ℕ) → (host_of u h).lines (passed u + k) ≡ h.lines k
unfolding host_of passed
lines_use over h k = ap h.lines (zero-add k)
lines_use (next made rest) h k =
    ap (made_then made (host_of rest h)).lines (add_assoc (passed_in made) (passed rest) k)
    ∙ lines_made made (host_of rest h) (passed rest + k)
    ∙ lines_use rest h k

-- each byte time after it is one of the other host's
pub at_use : {d e : Desk} (u : Use d e) (h : Host) (k : ℕ) → at (host_of u h) d (passed u + suc k) ≡ at h e (suc k)
unfolding at
at_use {d} {e} u h k =
    ap (at (host_of u h) d) (add-suc (passed u) k)
    ∙ ap₂ passes_under (lines_use u h k) (every_use u h k)

-- ---- a call that ends a command

-- it makes byte times, and leaves what the last of them leaves
module _ (h : Host) (d e : Desk) (on : busy_in d.machine.activity ≡ true) (off : busy_in e.machine.activity ≡ false) where
  times_end : (n : ℕ) (l : Lines) → e ≡ turned n l d → (0 < n) × (at (passes_then n l h) d n ≡ e)
  unfolding machine_after row_after
  times_end zero l same =
      absurd (true≢false (sym on ∙ sym (ap (λ (f : Desk). busy_in f.machine.activity) same) ∙ off))
  times_end (suc n) l same = (omega arith, within_times l h (suc n) d (suc n) (omega arith) ∙ sym same)

  -- a register call that is no command ends none
  call_ends_none : (c : Call) → commands d.machine c ≡ false → e ≡ called_at c d → ⊥
  unfolding called_all
  call_ends_none c refused same =
      true≢false
      (sym on
      ∙ sym (ap busy_in (calls_activity d.machine (c ∷ []) (more refused none)))
      ∙ sym (ap (λ (f : Desk). busy_in f.machine.activity) same)
      ∙ off)

pub ends_by_time : {d e : Desk} (made : Made d e) (h : Host)
    → no_command d e made ≡ true
    → busy_in d.machine.activity ≡ true
    → busy_in e.machine.activity ≡ false
    → (0 < passed_in made) × (at (made_then made h) d (passed_in made) ≡ e)
unfolding made_then passed_in no_command commands called_of
ends_by_time {d} {e} (load l number b byte r told) h alone on off =
    absurd
    (call_ends_none h d e on off (loads l number b byte)
    (ap (λ (q : Called). eqb number 0 && is_ok q.outcome) (sym told.told) ∙ not_on _ alone)
    (ap (λ (q : Called). desk_of q.machine d.row) told.told))
ends_by_time {d} {e} (read l number r told) h alone on off =
    absurd
    (call_ends_none h d e on off (reads l number) refl (ap (λ (q : Read). desk_of q.machine d.row) told.told))
ends_by_time {d} {e} (byte_time_call l r row told) h alone on off = times_end h d e on off _ l (byte_time_turns d l r row told)
ends_by_time {d} {e} (run l limit r row told) h alone on off = times_end h d e on off _ l (run_turns d l limit r row told)

-- ---- the course of a command

not_off : (b : Bool) → not b ≡ false → b ≡ true
not_off true e = refl
not_off false e = never (cc)

no_intrq : (m : Machine) → signals m ≡ false → m.wires.intrq ≡ false
no_intrq m = by m.wires.drq
  where
    by : (drq : Bool) → (drq || m.wires.intrq) ≡ false → m.wires.intrq ≡ false
    by true e = never (cc)
    by false e = e

-- a call that is no accepted command leaves a command under way, or none
pub busy_due : (h : Host) (d : Desk) → Quiet h d → (k : ℕ) → busy_in (due_at h d k).machine.activity ≡ busy_in (at h d k).machine.activity
unfolding served_at
busy_due h d quiet k = ap busy_in (calls_activity (at h d k).machine (h.calls k) (quiet k))

-- what a read of the status shows before and after its last call is what the machine holds
module _ (c : Accepted) (course : Course c) where
  busy_before : busy_in course.before.machine.activity ≡ true
  busy_before = busy_showed course.before true (use_valid course.calls (since_valid c)) course.under_way

  idle_after : busy_in course.after.machine.activity ≡ false
  idle_after =
      busy_showed course.after false (made_valid course.last (use_valid course.calls (since_valid c))) course.ended

  -- so that call makes byte times
  pub last_passes : 0 < passed_in course.last
  last_passes = (ends_by_time course.last silent course.alone_last busy_before idle_after).0

-- the load that begins it, as the definition has it
pub taken : (c : Accepted) → (load_register c.machine c.lines 0 c.byte).outcome ≡ done
taken c = ap (λ (q : Called). q.outcome) (sym c.call.told) ∙ c.outcome

pub since_loaded : (c : Accepted) (h : Host) → since c ≡ loaded (scene_of c h)
since_loaded c h = ap (λ (q : Called). desk_of q.machine c.row) c.call.told

module _ (c : Accepted) (command : Command) (is : decoded_of c.machine.chip c.byte ≡ Some command)
    (other : command ≡ ForceInterrupt → ⊥) where
  module _ (course : Course c) (h : Host) (rest : Quiet h course.after) where
    abbrev host : Host
    host = course_then course h

    lasts : Quiet (made_then course.last h) course.before
    lasts = quiet_made course.last h course.alone_last rest

    quiet : Quiet host (since c)
    quiet = quiet_use course.calls (made_then course.last h) course.alone lasts

    abbrev p : ℕ
    p = passed course.calls

    abbrev q : ℕ
    q = passed_in course.last

    abbrev busy_at : ℕ → Bool
    busy_at k = busy_in (at host (since c) k).machine.activity

    -- the machine and the row after it are what that call has left
    pub at_end : at host (since c) (p + q) ≡ course.after
    at_end =
        let (some, there) = ends_by_time course.last h course.alone_last (busy_before c course) (idle_after c course) in
        let q_is : suc (q - 1) ≡ q = omega arith in
        ap (λ (k : ℕ). at host (since c) (p + k)) (sym q_is)
        ∙ at_use course.calls (made_then course.last h) (q - 1)
        ∙ ap (at (made_then course.last h) course.before) q_is
        ∙ there

    still : busy_at p ≡ true
    unfolding at
    still =
        sym (busy_due host (since c) quiet p)
        ∙ ap (λ (k : ℕ). busy_in (due_at host (since c) k).machine.activity) (sym (add-zero p))
        ∙ ap (λ (d : Desk). busy_in d.machine.activity) (every_use course.calls (made_then course.last h) 0)
        ∙ busy_due (made_then course.last h) course.before lasts 0
        ∙ busy_before c course

    -- so far none before it has ended it: INTRQ, on at the end, would have stopped the run
    alone : (n : ℕ) → AloneUntil host (since c) n
    alone n k l = quiet k

    raised : (j : ℕ) → EndsAt host (since c) j → (at host (since c) j).machine.wires.intrq ≡ true
    raised j ends =
        subst (λ (d : Desk). (at host d j).machine.wires.intrq ≡ true) (sym (since_loaded c host))
        (ends_told (scene_of c host) command is other (taken c) j
        (subst (λ (d : Desk). AloneUntil host d j) (since_loaded c host) (alone j))
        (subst (λ (d : Desk). EndsAt host d j) (since_loaded c host) ends))

    none_before : (j : ℕ) → j < p + q → EndsAt host (since c) j → ⊥
    none_before j l ends = by (dec_lt p j)
      where
        by : Dec (p < j) → ⊥
        by (yes m) =
            let i : ℕ = j - suc p in
            let there : p + suc i ≡ j = omega arith in
            true≢false
            (sym (raised j ends)
            ∙ ap (λ (k : ℕ). (at host (since c) k).machine.wires.intrq) (sym there)
            ∙ ap (λ (d : Desk). d.machine.wires.intrq) (at_use course.calls (made_then course.last h) i)
            ∙ no_intrq (at (made_then course.last h) course.before (suc i)).machine (quiet_within course.last h i (omega arith)))
        by (no m) =
            let there : j + (p - j) ≡ p = omega arith in
            true≢false
            (sym still
            ∙ ap busy_at (sym there)
            ∙ stays_over host (since c) j (p - j) (alone (j + (p - j))) ends.over)

    pub ends_there : EndsAt host (since c) (p + q)
    ends_there = record { busy = λ k l. by k l (busy_at k) refl; over = ap (λ (d : Desk). busy_in d.machine.activity) at_end ∙ idle_after c course }
      where
        at_first : (k : ℕ) → busy_at k ≡ false → FirstOrNone (λ i. not (busy_at i)) (suc k) → (j : ℕ) × (j ≤ k) × EndsAt host (since c) j
        at_first k e (inl (j, l, found)) = (
          j,
          omega arith,
          record { busy = λ i m. not_off (busy_at i) (found.none i m); over = not_on (busy_at j) found.passes },
        )
        at_first k e (inr unmet) = absurd (true≢false (sym (ap not e) ∙ unmet k (omega arith)))

        by : (k : ℕ) → k < p + q → (b : Bool) → busy_at k ≡ b → busy_at k ≡ true
        by k l true e = e
        by k l false e =
            let (j, m, ends) = at_first k e (first (λ i. not (busy_at i)) (suc k)) in
            absurd (none_before j (omega arith) ends)

-- A use that serves each DRQ before the next byte time is a host that does. Assumes nothing.
use mathlib.Core.Path.{◌≡◌, refl, sym, ap, ◌∙◌, subst}
use mathlib.Core.Bool.{Bool, true, false, cond, not, ◌&&◌, ◌||◌}
use mathlib.Core.List.{List, []}
use Prim.Native.Nat.{ℕ, zero, suc, ◌+◌, ◌-◌, ◌<◌}
use native.Mathlib.Nat.{zero-add}
use native.Mathlib.Decide.{dec_lt}
use native.Mathlib.Omega.{arith}
use lib.Dec.{eqb}
use Rattle.common.proofs.Cases.{never, both, by_cond, not_on}
use Rattle.registers.specs.declared.Lines.{Lines}
use Rattle.wd.specs.declared.Machine.{Machine}
use Rattle.wd.specs.declared.Called.{Called}
use Rattle.wd.specs.declared.Read.{Read}
use Rattle.wd.specs.declared.Ran.{Ran}
use Rattle.reachable.specs.ByteTimes.{machine_after, row_after, signals}
use Rattle.hosts.specs.Hosts.{Call, loads, reads, called_of, called_all, Host, Desk, served_at, passes_under, at}
use Rattle.served.specs.Served.{loads_dr, reads_dr, OnDrq, none, more, ServesEach}
use Rattle.uses.specs.Uses.{Made, load, read, byte_time_call, run, Use, over, next, throughout, passed_in, passed, calls_first, calls_then, starts_with, passes_then, made_then, host_of, due_at}
use Rattle.uses.specs.Courses.{Accepted, since, Course, took, course_then}
use Rattle.uses.specs.Sessions.{serves}
use Rattle.uses.proofs.EveryUse.{desk_of, called_at, turned, at_call, at_time, byte_time_turns, run_told, run_turns, made_host}
use Rattle.uses.proofs.Endings.{within_times, quiet_run}
use Rattle.uses.proofs.Bytes.{ends_on, last_on}
use Rattle.std.specs.Result.{is_ok}

-- ---- it serves each DRQ

-- the calls on DR that such a host makes, and those that it does not
abbrev pub kind_of : Bool → Call → Bool
kind_of writing = cond writing loads_dr reads_dr

abbrev pub other_of : Bool → Call → Bool
other_of writing = cond writing reads_dr loads_dr

-- DRQ is on where a call of that kind is made
allowed : (dr may drq : Bool) → (not dr || (may && drq)) ≡ true → (dr ≡ true → drq ≡ true) × (may ≡ false → dr ≡ false)
allowed true true true e = (λ x. refl, λ x. never (cc))
allowed true true false e = never (cc)
allowed true false drq e = never (cc)
allowed false may drq e = (λ x. never (cc), λ x. refl)

-- each call on DR before the first n byte times is of the kind, and made with DRQ on
abbrev EachOn : Bool → Host → Desk → ℕ → Type 0
EachOn writing h d n = (k : ℕ) → k < n → OnDrq (kind_of writing) (other_of writing) (at h d k).machine (h.calls k)

on_call :
    (writing : Bool) (c : Call) (h : Host) (d : Desk) (n : ℕ)
    → (kind_of writing c ≡ true → d.machine.wires.drq ≡ true)
    → other_of writing c ≡ false
    → EachOn writing h (called_at c d) (suc n)
    → EachOn writing (calls_then c h) d (suc n)
unfolding calls_then calls_first at
on_call writing c h d n on none_other rest zero l = more on none_other (rest zero (omega arith))
on_call writing c h d n on none_other rest (suc k) l =
    subst (λ (e : Desk). OnDrq (kind_of writing) (other_of writing) e.machine (h.calls (suc k))) (sym (at_call c h d k))
    (rest (suc k) l)

on_times :
    (writing : Bool) (n : ℕ) (l : Lines) (h : Host) (d : Desk) (m : ℕ)
    → EachOn writing h (turned n l d) m
    → EachOn writing (passes_then n l h) d (n + m)
unfolding passes_then starts_with at machine_after row_after passes_under
on_times writing zero l h d m rest k before = rest k (omega arith)
on_times writing (suc n) l h d m rest zero before = none
on_times writing (suc n) l h d m rest (suc k) before =
    subst (λ (e : Desk). OnDrq (kind_of writing) (other_of writing) e.machine ((passes_then n l h).calls k))
    (sym (at_time l h n d k))
    (on_times writing n l h (passes_under l d) m rest k (omega arith))

-- within its own byte times a call makes no other
on_within : (writing : Bool) {d e : Desk} (made : Made d e) (h : Host) → EachOn writing (made_then made h) d (passed_in made)
unfolding made_then passed_in
on_within writing (load l number b byte r told) h k before = absurd (omega arith)
on_within writing (read l number r told) h k before = absurd (omega arith)
on_within writing {d} (byte_time_call l r row told) h k before =
    on_times writing _ l h d 0 (λ j l. absurd (omega arith)) k (omega arith)
on_within writing {d} (run l limit r row told) h k before =
    on_times writing _ l h d 0 (λ j l. absurd (omega arith)) k (omega arith)

on_made :
    (writing : Bool) {d e : Desk} (made : Made d e) (h : Host) (n : ℕ)
    → serves writing d e made ≡ true
    → EachOn writing h e (suc n)
    → EachOn writing (made_then made h) d (passed_in made + suc n)
unfolding serves made_then passed_in called_of loads_dr reads_dr
on_made true {d} (load l number b byte r told) h n serve rest =
    let (on, never_read) = allowed (eqb number 3) true d.machine.wires.drq serve in
    subst (EachOn true (calls_then (loads l number b byte) h) d) (sym (zero-add (suc n)))
    (on_call true (loads l number b byte) h d n on refl
    (subst (λ (q : Called). EachOn true h (desk_of q.machine d.row) (suc n)) told.told rest))
on_made false {d} (load l number b byte r told) h n serve rest =
    let (on, never_load) = allowed (eqb number 3) false d.machine.wires.drq serve in
    subst (EachOn false (calls_then (loads l number b byte) h) d) (sym (zero-add (suc n)))
    (on_call false (loads l number b byte) h d n (λ e. never (cc)) (never_load refl)
    (subst (λ (q : Called). EachOn false h (desk_of q.machine d.row) (suc n)) told.told rest))
on_made true {d} (read l number r told) h n serve rest =
    let (on, never_read) = allowed (eqb number 3) false d.machine.wires.drq serve in
    subst (EachOn true (calls_then (reads l number) h) d) (sym (zero-add (suc n)))
    (on_call true (reads l number) h d n (λ e. never (cc)) (never_read refl)
    (subst (λ (q : Read). EachOn true h (desk_of q.machine d.row) (suc n)) told.told rest))
on_made false {d} (read l number r told) h n serve rest =
    let (on, never_load) = allowed (eqb number 3) true d.machine.wires.drq serve in
    subst (EachOn false (calls_then (reads l number) h) d) (sym (zero-add (suc n)))
    (on_call false (reads l number) h d n on refl
    (subst (λ (q : Read). EachOn false h (desk_of q.machine d.row) (suc n)) told.told rest))
on_made writing {d} (byte_time_call l r row told) h n serve rest =
    on_times writing _ l h d (suc n) (subst (λ (e : Desk). EachOn writing h e (suc n)) (byte_time_turns d l r row told) rest)
on_made writing {d} (run l limit r row told) h n serve rest =
    on_times writing _ l h d (suc n) (subst (λ (e : Desk). EachOn writing h e (suc n)) (run_turns d l limit r row told) rest)

on_use :
    (writing : Bool) {d e : Desk} (u : Use d e) (h : Host) (n : ℕ)
    → throughout (serves writing) u ≡ true
    → EachOn writing h e (suc n)
    → EachOn writing (host_of u h) d (passed u + suc n)
unfolding host_of passed throughout
on_use writing {d} over h n serve rest = subst (EachOn writing h d) (sym (zero-add (suc n))) rest
on_use writing (next {d} {e} made u) h n serve rest =
    let (here, later) = both (serves writing d e made) (throughout (serves writing) u) serve in
    let more_left : passed_in made + suc (passed u + n) ≡ passed_in made + passed u + suc n = omega arith in
    let same : passed u + suc n ≡ suc (passed u + n) = omega arith in
    subst (EachOn writing (made_then made (host_of u h)) d) more_left
    (on_made writing made (host_of u h) (passed u + n) here
    (subst (EachOn writing (host_of u h) e) same (on_use writing u h n later rest)))

-- ---- no byte time begins with DRQ on

abbrev EachOff : Host → Desk → ℕ → Type 0
EachOff h d n = (k : ℕ) → k < n → (due_at h d k).machine.wires.drq ≡ false

no_drq : (m : Machine) → signals m ≡ false → m.wires.drq ≡ false
no_drq m = by m.wires.drq
  where
    by : (drq : Bool) → (drq || m.wires.intrq) ≡ false → drq ≡ false
    by true e = never (cc)
    by false e = refl

-- inside a run: none but its last ends with DRQ on
module _ (l : Lines) (h : Host) where
  no_calls : (n k : ℕ) → k < n → (passes_then n l h).calls k ≡ []
  unfolding passes_then starts_with
  no_calls zero k before = absurd (omega arith)
  no_calls (suc n) zero before = refl
  no_calls (suc n) (suc k) before = no_calls n k (omega arith)

  off_times :
      (n : ℕ) (d : Desk)
      → d.machine.wires.drq ≡ false
      → ((i : ℕ) → suc i < n → signals (machine_after (suc i) d.machine l d.row) ≡ false)
      → EachOff (passes_then n l h) d n
  unfolding served_at called_all machine_after row_after
  off_times n d first rest k before =
      ap (λ (cs : List Call). (called_all (at (passes_then n l h) d k).machine cs).wires.drq) (no_calls n k before)
      ∙ ap (λ (e : Desk). e.machine.wires.drq) (within_times l h n d k (omega arith))
      ∙ by k before
    where
      by : (k : ℕ) → k < n → (machine_after k d.machine l d.row).wires.drq ≡ false
      by zero before = first
      by (suc i) before = no_drq (machine_after (suc i) d.machine l d.row) (rest i before)

off_within :
    (writing : Bool) {d e : Desk} (made : Made d e) (h : Host)
    → serves writing d e made ≡ true
    → EachOff (made_then made h) d (passed_in made)
unfolding serves made_then passed_in
off_within writing (load l number b byte r told) h serve k before = absurd (omega arith)
off_within writing (read l number r told) h serve k before = absurd (omega arith)
off_within writing {d} (byte_time_call l r row told) h serve k before =
    off_times l h _ d (not_on d.machine.wires.drq serve)
    (λ i before.
    absurd (by_cond (λ (n : ℕ). suc i < n → ⊥) (is_ok r.outcome) (λ e x. omega arith) (λ e x. omega arith) before))
    k before
off_within writing {d} (run l limit r row told) h serve k before =
    off_times l h _ d (not_on d.machine.wires.drq serve)
    (λ i before. quiet_run d l limit i (subst (λ (q : Ran). suc i < q.tally.passed) (run_told told).0 before))
    k before

off_made :
    (writing : Bool) {d e : Desk} (made : Made d e) (h : Host) (n : ℕ)
    → serves writing d e made ≡ true
    → EachOff h e n
    → EachOff (made_then made h) d (passed_in made + n)
off_made writing {d} {e} made h n serve rest k before = by (dec_lt k (passed_in made))
  where
    by : Dec (k < passed_in made) → (due_at (made_then made h) d k).machine.wires.drq ≡ false
    by (yes l) = off_within writing made h serve k l
    by (no l) =
        let there : passed_in made + (k - passed_in made) ≡ k = omega arith in
        ap (λ (j : ℕ). (due_at (made_then made h) d j).machine.wires.drq) (sym there)
        ∙ ap (λ (f : Desk). f.machine.wires.drq) (made_host made h (k - passed_in made))
        ∙ rest (k - passed_in made) (omega arith)

off_use :
    (writing : Bool) {d e : Desk} (u : Use d e) (h : Host) (n : ℕ)
    → throughout (serves writing) u ≡ true
    → EachOff h e n
    → EachOff (host_of u h) d (passed u + n)
unfolding host_of passed throughout
off_use writing over h n serve rest k before = rest k (omega arith)
off_use writing (next {d} {e} made u) h n serve rest k before =
    let (here, later) = both (serves writing d e made) (throughout (serves writing) u) serve in
    off_made writing made (host_of u h) (passed u + n) here (off_use writing u h n later rest) k (omega arith)

-- ---- the course of a command

module _ (writing : Bool) {c : Accepted} (course : Course c) (h : Host)
    (serve : throughout (serves writing) course.calls ≡ true)
    (serve_last : serves writing course.before course.after course.last ≡ true) where
  pub course_serves : ServesEach (kind_of writing) (other_of writing) (course_then course h) (since c) (took course)
  course_serves =
      record {
        off = off_use writing course.calls (made_then course.last h) (passed_in course.last) serve
            (off_within writing course.last h serve_last);
        on = subst (EachOn writing (course_then course h) (since c)) (ends_on course)
            (on_use writing course.calls (made_then course.last h) (passed_in course.last - 1) serve
            (subst (EachOn writing (made_then course.last h) course.before) (sym (last_on course)) last_serves));
      }
    where
      last_serves : EachOn writing (made_then course.last h) course.before (passed_in course.last)
      last_serves = on_within writing course.last h

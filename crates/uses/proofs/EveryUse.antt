-- Every use is a host. Assumes nothing.
use mathlib.Core.Path.{◌≡◌, refl, sym, ap, ap₂, ◌∙◌, subst}
use mathlib.Core.Bool.{cond}
use mathlib.Core.List.{List}
use Prim.Native.Nat.{ℕ, zero, suc, ◌+◌}
use native.Mathlib.Nat.{zero-add, suc-add, add_assoc}
use lib.ListN.{length}
use Rattle.registers.specs.declared.Lines.{Lines}
use Rattle.wd.specs.declared.Machine.{Machine}
use Rattle.wd.specs.declared.Called.{Called}
use Rattle.wd.specs.declared.Read.{Read}
use Rattle.wd.specs.declared.Passed.{Passed}
use Rattle.wd.specs.declared.Ran.{Ran}
use Rattle.wd.specs.Rows.{row_refusal, byte_time, byte_time_row, empty_run, Run, run_from, run_of, run_row}
use Rattle.reachable.specs.ByteTimes.{machine_after, row_after}
use Rattle.reachable.proofs.AsGiven.{byte_time_machine, byte_time_row_lem}
use Rattle.reachable.proofs.Runs.{run_makes}
use Rattle.hosts.specs.Hosts.{Call, loads, reads, called_of, called_all, Host, Desk, served_at, passes_under, at}
use Rattle.uses.specs.CallContracts.{ByteTimeCall, RunCall}
use Rattle.uses.specs.Uses.{Made, load, read, byte_time_call, run, Use, over, next, defined_by, documented, answered_by, Answered, passed_in, passed, calls_first, calls_then, starts_with, passes_then, made_then, host_of, due_at, IsHost}
use Rattle.refusals.specs.Numbers.{refused, done}
use Rattle.refusals.proofs.Outcomes.{done_decided, done-ok, not_done-ok}
use Rattle.std.specs.Result.{is_ok}

abbrev pub desk_of : Machine → List ℕ → Desk
desk_of m row = record { machine = m; row = row }

-- ---- a register call

abbrev pub called_at : Call → Desk → Desk
called_at c d = desk_of (called_of d.machine c) d.row

module _ (c : Call) (h : Host) (d : Desk) where
  pub due_call : (k : ℕ) → due_at (calls_then c h) d k ≡ due_at h (called_at c d) k
  unfolding calls_then calls_first at served_at called_all
  due_call zero = refl
  due_call (suc k) = ap (λ (e : Desk). served_at h (suc k) (passes_under (h.lines k) e)) (due_call k)

  pub at_call : (k : ℕ) → at (calls_then c h) d (suc k) ≡ at h (called_at c d) (suc k)
  unfolding calls_then at
  at_call k = ap (passes_under (h.lines k)) (due_call k)

-- ---- byte times under the same lines

-- after n of them
abbrev pub turned : ℕ → Lines → Desk → Desk
turned n l d = desk_of (machine_after n d.machine l d.row) (row_after n d.machine l d.row)

module _ (l : Lines) (h : Host) where
  pub at_time : (n : ℕ) (d : Desk) (k : ℕ) → at (passes_then (suc n) l h) d (suc k) ≡ at (passes_then n l h) (passes_under l d) k
  unfolding passes_then starts_with at served_at called_all
  at_time n d zero = refl
  at_time n d (suc k) =
      ap (λ (e : Desk). passes_under ((passes_then n l h).lines k) (served_at (passes_then n l h) k e)) (at_time n d k)

  pub at_times : (n : ℕ) (d : Desk) (k : ℕ) → at (passes_then n l h) d (n + k) ≡ at h (turned n l d) k
  unfolding passes_then machine_after row_after at passes_under
  at_times zero d k = ap (at h d) (zero-add k)
  at_times (suc n) d k = rw (suc-add n k) (at_time n d (n + k) ∙ at_times n (passes_under l d) k)

  calls_times : (n k : ℕ) → (passes_then n l h).calls (n + k) ≡ h.calls k
  unfolding passes_then starts_with
  calls_times zero k = ap h.calls (zero-add k)
  calls_times (suc n) k = rw (suc-add n k) (calls_times n k)

  pub lines_times : (n k : ℕ) → (passes_then n l h).lines (n + k) ≡ h.lines k
  unfolding passes_then starts_with
  lines_times zero k = ap h.lines (zero-add k)
  lines_times (suc n) k = rw (suc-add n k) (lines_times n k)

  due_times : (n : ℕ) (d : Desk) (k : ℕ) → due_at (passes_then n l h) d (n + k) ≡ due_at h (turned n l d) k
  unfolding served_at
  due_times n d k =
      ap₂ (λ (e : Desk) (cs : List Call). desk_of (called_all e.machine cs) e.row) (at_times n d k)
      (calls_times n k)

-- ---- what the contracts tell

module _ {m : Machine} {l : Lines} {row row' : List ℕ} where
  pub byte_time_told : {r : Passed} → ByteTimeCall m l row r row' → (r ≡ byte_time m l row) × (row' ≡ byte_time_row m l row)
  byte_time_told c = (
    c.told.0 ∙ ap (byte_time m l) c.before,
    sym c.after ∙ c.told.1 ∙ ap (byte_time_row m l) c.before,
  )

  pub run_told : {limit : ℕ} {r : Ran} → RunCall m l limit row r row' → (r ≡ run_of m l limit row) × (row' ≡ run_row m l limit row)
  run_told {limit} c = (
    c.told.0 ∙ ap (run_of m l limit) c.before,
    sym c.after ∙ c.told.1 ∙ ap (run_row m l limit) c.before,
  )

-- a byte time comes to one, or none where it is refused
pub byte_time_turns :
    (d : Desk) (l : Lines) (r : Passed) (row : List ℕ)
    → ByteTimeCall d.machine l d.row r row
    → desk_of r.machine row ≡ turned (cond (is_ok r.outcome) 1 0) l d
unfolding machine_after row_after
byte_time_turns d l r row c = by (done_decided r.outcome)
  where
    told : (r ≡ byte_time d.machine l d.row) × (row ≡ byte_time_row d.machine l d.row)
    told = byte_time_told c

    after : desk_of r.machine row ≡ turned 1 l d
    after = λ i. desk_of (told.0 i).machine (told.1 i)

    by : Dec (r.outcome ≡ done) → desk_of r.machine row ≡ turned (cond (is_ok r.outcome) 1 0) l d
    by (yes done) = rw (done-ok _ done) after
    by (no other) =
        let refused : (byte_time d.machine l d.row).outcome ≡ done → ⊥ =
        λ e. other (ap (λ (r : Passed). r.outcome) told.0 ∙ e) in
        rw (not_done-ok _ other)
        (λ i. record {
          machine = (ap (λ (r : Passed). r.machine) told.0 ∙ byte_time_machine d.machine l d.row refused) i;
          row = (told.1 ∙ byte_time_row_lem d.machine l d.row refused) i;
        })

-- a refused run makes none
pub empty_run_lem :
    (d : Desk) (l : Lines) (limit : ℕ)
    → (row_refusal d.machine (length d.row) ≡ done → ⊥)
    → run_from d.machine l limit d.row
    ≡ record { ran = empty_run (row_refusal d.machine (length d.row)) d.machine; row = d.row }
unfolding run_from
empty_run_lem d l limit refused = simp (not_done-ok _ refused)

-- a run comes to those that it reports
pub run_turns :
    (d : Desk) (l : Lines) (limit : ℕ) (r : Ran) (row : List ℕ)
    → RunCall d.machine l limit d.row r row
    → desk_of r.machine row ≡ turned r.tally.passed l d
unfolding machine_after row_after empty_run
run_turns d l limit r row c = by (done_decided (row_refusal d.machine (length d.row)))
  where
    told : (r ≡ run_of d.machine l limit d.row) × (row ≡ run_row d.machine l limit d.row)
    told = run_told c

    left : desk_of r.machine row ≡ desk_of (run_of d.machine l limit d.row).machine (run_row d.machine l limit d.row)
    left = λ i. desk_of (told.0 i).machine (told.1 i)

    by : Dec (row_refusal d.machine (length d.row) ≡ done)
        → desk_of r.machine row ≡ turned r.tally.passed l d
    by (yes opens) =
        let made = run_makes d.machine l limit d.row opens in
        left
        ∙ (λ i. desk_of (made.left i) (made.written i))
        ∙ ap (λ (r : Ran). turned r.tally.passed l d) (sym told.0)
    by (no refused) =
        left
        ∙ subst (λ (q : Run). desk_of q.ran.machine q.row ≡ turned q.ran.tally.passed l d)
        (sym (empty_run_lem d l limit refused)) refl
        ∙ ap (λ (r : Ran). turned r.tally.passed l d) (sym told.0)

-- ---- one call, and any number of them

pub made_host : {d e : Desk} (made : Made d e) (h : Host) (k : ℕ) → due_at (made_then made h) d (passed_in made + k) ≡ due_at h e k
unfolding made_then passed_in called_of
made_host {d} (load l number b byte r told) h k =
    rw (zero-add k)
    (due_call (loads l number b byte) h d k
    ∙ ap (λ (q : Called). due_at h (desk_of q.machine d.row) k) (sym told.told))
made_host {d} (read l number r told) h k =
    rw (zero-add k)
    (due_call (reads l number) h d k
    ∙ ap (λ (q : Read). due_at h (desk_of q.machine d.row) k) (sym told.told))
made_host {d} (byte_time_call l r row told) h k =
    due_times l h _ d k ∙ ap (λ (e : Desk). due_at h e k) (sym (byte_time_turns d l r row told))
made_host {d} (run l limit r row told) h k =
    due_times l h _ d k ∙ ap (λ (e : Desk). due_at h e k) (sym (run_turns d l limit r row told))

-- Every use is a host: any calls one after another, runs of any limits, byte times and register calls, refused or not.
pub every_use : {d e : Desk} (u : Use d e) → IsHost u
unfolding host_of passed
every_use over h k = rw (zero-add k) refl
every_use {d} (next made rest) h k =
    ap (due_at (made_then made (host_of rest h)) d) (add_assoc (passed_in made) (passed rest) k)
    ∙ made_host made (host_of rest h) (passed rest + k)
    ∙ every_use rest h k

-- ---- the definitions

made_defined : {d e : Desk} (made : Made d e) → e ≡ defined_by d made
unfolding defined_by
made_defined {d} (load l number b byte r told) = ap (λ (q : Called). desk_of q.machine d.row) told.told
made_defined {d} (read l number r told) = ap (λ (q : Read). desk_of q.machine d.row) told.told
made_defined (byte_time_call l r row told) =
    let (answer, left) = byte_time_told told in
    λ i. desk_of (answer i).machine (left i)
made_defined (run l limit r row told) =
    let (answer, left) = run_told told in
    λ i. desk_of (answer i).machine (left i)

made_answered : {d e : Desk} (made : Made d e) → answered_by d made
unfolding answered_by
made_answered (load l number b byte r told) = told.told
made_answered (read l number r told) = told.told
made_answered (byte_time_call l r row told) = (byte_time_told told).0
made_answered (run l limit r row told) = (run_told told).0

-- what calls one after another lead to, and what they answer, is what the definitions give
pub use_defined : {d e : Desk} (u : Use d e) → e ≡ documented d u
unfolding documented
use_defined over = refl
use_defined (next made rest) = use_defined rest ∙ ap (λ (f : Desk). documented f rest) (made_defined made)

pub use_answered : {d e : Desk} (u : Use d e) → Answered d u
unfolding Answered
use_answered over = tt
use_answered (next made rest) = (
  made_answered made,
  subst (λ (f : Desk). Answered f rest) (made_defined made) (use_answered rest),
)

-- The host that a use is gives no command where the use has none accepted. Assumes nothing.
use mathlib.Core.Path.{◌≡◌, refl, sym, ap, ◌∙◌, subst}
use mathlib.Core.Bool.{true, false, ◌&&◌}
use Prim.Native.Nat.{ℕ, zero, suc}
use lib.Dec.{eqb}
use Rattle.registers.specs.declared.Lines.{Lines}
use Rattle.wd.specs.declared.Called.{Called}
use Rattle.wd.specs.declared.Read.{Read}
use Rattle.common.proofs.Cases.{both, not_on}
use Rattle.reachable.specs.ByteTimes.{machine_after, row_after}
use Rattle.hosts.specs.Hosts.{Call, loads, reads, called_of, commands, NoneAccepted, none, more, Host, Desk, passes_under, at}
use Rattle.uses.specs.Uses.{Made, load, read, byte_time_call, run, Use, over, next, throughout, no_command, calls_first, calls_then, starts_with, passes_then, made_then, host_of}
use Rattle.uses.proofs.EveryUse.{called_at, turned, at_call, at_time, byte_time_turns, run_turns}
use Rattle.refusals.specs.Numbers.{refused}
use Rattle.std.specs.Result.{is_ok}

-- none of a host's calls is an accepted command, however long it goes on
abbrev pub Quiet : Host → Desk → Type 0
Quiet h d = (n : ℕ) → NoneAccepted (at h d n).machine (h.calls n)

quiet_call : (c : Call) (h : Host) (d : Desk) → commands d.machine c ≡ false → Quiet h (called_at c d) → Quiet (calls_then c h) d
unfolding calls_then calls_first at
quiet_call c h d refused rest zero = more refused (rest zero)
quiet_call c h d refused rest (suc n) =
    subst (λ (e : Desk). NoneAccepted e.machine (h.calls (suc n))) (sym (at_call c h d n)) (rest (suc n))

quiet_times : (n : ℕ) (l : Lines) (h : Host) (d : Desk) → Quiet h (turned n l d) → Quiet (passes_then n l h) d
unfolding passes_then starts_with at passes_under machine_after row_after
quiet_times zero l h d rest k = rest k
quiet_times (suc n) l h d rest zero = none
quiet_times (suc n) l h d rest (suc k) =
    subst (λ (e : Desk). NoneAccepted e.machine ((passes_then n l h).calls k)) (sym (at_time l h n d k))
    (quiet_times n l h (passes_under l d) rest k)

pub quiet_made : {d e : Desk} (made : Made d e) (h : Host) → no_command d e made ≡ true → Quiet h e → Quiet (made_then made h) d
unfolding made_then no_command commands called_of
quiet_made {d} (load l number b byte r told) h alone rest =
    quiet_call (loads l number b byte) h d
    (ap (λ (q : Called). eqb number 0 && is_ok q.outcome) (sym told.told) ∙ not_on _ alone)
    (subst (λ (q : Called). Quiet h (record { machine = q.machine; row = d.row })) told.told rest)
quiet_made {d} (read l number r told) h alone rest =
    quiet_call (reads l number) h d refl
    (subst (λ (q : Read). Quiet h (record { machine = q.machine; row = d.row })) told.told rest)
quiet_made {d} (byte_time_call l r row told) h alone rest =
    quiet_times _ l h d (subst (Quiet h) (byte_time_turns d l r row told) rest)
quiet_made {d} (run l limit r row told) h alone rest =
    quiet_times _ l h d (subst (Quiet h) (run_turns d l limit r row told) rest)

pub quiet_use : {d e : Desk} (u : Use d e) (h : Host) → throughout no_command u ≡ true → Quiet h e → Quiet (host_of u h) d
unfolding host_of throughout
quiet_use over h alone rest = rest
quiet_use (next {d} {e} made u) h alone rest =
    let (here, later) = both (no_command d e made) (throughout no_command u) alone in
    quiet_made made (host_of u h) here (quiet_use u h later rest)

-- The host that a use is leaves DR alone where the use does. Assumes nothing.
use mathlib.Core.Path.{◌≡◌, refl}
use mathlib.Core.Bool.{true, not}
use Prim.Native.Nat.{ℕ, zero, suc}
use Rattle.common.proofs.Cases.{both, all}
use Rattle.registers.specs.declared.Lines.{Lines}
use Rattle.hosts.specs.Hosts.{Call, loads, reads, Host, Desk}
use Rattle.lost_data.specs.LostData.{on_dr, none_on_dr}
use Rattle.uses.specs.Uses.{Made, load, read, byte_time_call, run, Use, over, next, throughout, calls_first, calls_then, starts_with, passes_then, made_then, host_of}
use Rattle.applied.specs.March.{leaves_dr}

-- none of a host's calls is on DR
abbrev pub LeavesDr : Host → Type 0
LeavesDr h = (n : ℕ) → none_on_dr (h.calls n) ≡ true

call_leaves : (c : Call) (h : Host) → not (on_dr c) ≡ true → LeavesDr h → LeavesDr (calls_then c h)
unfolding calls_then calls_first none_on_dr
call_leaves c h it rest zero = all it (rest zero)
call_leaves c h it rest (suc n) = rest (suc n)

times_leave : (n : ℕ) (l : Lines) (h : Host) → LeavesDr h → LeavesDr (passes_then n l h)
unfolding passes_then starts_with none_on_dr
times_leave zero l h rest k = rest k
times_leave (suc n) l h rest zero = refl
times_leave (suc n) l h rest (suc k) = times_leave n l h rest k

pub made_leaves : {d e : Desk} (made : Made d e) (h : Host) → leaves_dr d e made ≡ true → LeavesDr h → LeavesDr (made_then made h)
unfolding made_then leaves_dr on_dr
made_leaves (load l number b byte r told) h it rest = call_leaves (loads l number b byte) h it rest
made_leaves (read l number r told) h it rest = call_leaves (reads l number) h it rest
made_leaves (byte_time_call l r row told) h it rest = times_leave _ l h rest
made_leaves (run l limit r row told) h it rest = times_leave _ l h rest

pub use_leaves : {d e : Desk} (u : Use d e) (h : Host) → throughout leaves_dr u ≡ true → LeavesDr h → LeavesDr (host_of u h)
unfolding host_of throughout
use_leaves over h each rest = rest
use_leaves (next {d} {e} made u) h each rest =
    let (here, later) = both (leaves_dr d e made) (throughout leaves_dr u) each in
    made_leaves made (host_of u h) here (use_leaves u h later rest)

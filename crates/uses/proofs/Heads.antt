-- The host that a use is has HLT on in each byte time where the use has. Assumes nothing.
use mathlib.Core.Path.{◌≡◌}
use mathlib.Core.Bool.{true}
use Prim.Native.Nat.{ℕ, zero, suc}
use Rattle.common.proofs.Cases.{both}
use Rattle.registers.specs.declared.Lines.{Lines}
use Rattle.hosts.specs.Hosts.{Host, Desk}
use Rattle.uses.specs.Uses.{Made, load, read, byte_time_call, run, Use, over, next, throughout, head_loaded, calls_then, starts_with, passes_then, made_then, host_of}

abbrev pub HeadOn : Host → Type 0
HeadOn h = (n : ℕ) → (h.lines n).hlt ≡ true

times_on : (n : ℕ) (l : Lines) (h : Host) → l.hlt ≡ true → HeadOn h → HeadOn (passes_then n l h)
unfolding passes_then starts_with
times_on zero l h on rest k = rest k
times_on (suc n) l h on rest zero = on
times_on (suc n) l h on rest (suc k) = times_on n l h on rest k

pub made_on : {d e : Desk} (made : Made d e) (h : Host) → head_loaded d e made ≡ true → HeadOn h → HeadOn (made_then made h)
unfolding made_then head_loaded calls_then
made_on (load l number b byte r told) h on rest = rest
made_on (read l number r told) h on rest = rest
made_on (byte_time_call l r row told) h on rest = times_on _ l h on rest
made_on (run l limit r row told) h on rest = times_on _ l h on rest

pub use_on : {d e : Desk} (u : Use d e) (h : Host) → throughout head_loaded u ≡ true → HeadOn h → HeadOn (host_of u h)
unfolding host_of throughout
use_on over h on rest = rest
use_on (next {d} {e} made u) h on rest =
    let (here, later) = both (head_loaded d e made) (throughout head_loaded u) on in
    made_on made (host_of u h) here (use_on u h later rest)

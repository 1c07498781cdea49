-- A command of a host that gives no other was Busy in every byte time up to one in which it is, so its end shows in two of
-- them. Assumes nothing.
use mathlib.Core.Path.{◌≡◌, refl, sym, ap, ◌∙◌}
use mathlib.Core.Bool.{Bool, true, false, true≢false}
use Prim.Native.Nat.{ℕ, suc, ◌+◌, ◌-◌, ◌<◌}
use native.Mathlib.Omega.{arith}
use Rattle.activity.specs.Limits.{busy_in}
use Rattle.wd.specs.declared.Machine.{Machine}
use Rattle.hosts.specs.Hosts.{NoneAccepted, Host, Desk, at, BusyAt, EndsAt}
use Rattle.hosts.proofs.Idling.{stays_over}

pub ends_after :
    (h : Host) (d : Desk) (last : ℕ)
    → ((n : ℕ) (m : Machine) → NoneAccepted m (h.calls n))
    → BusyAt h d last
    → busy_in (at h d (suc last)).machine.activity ≡ false
    → EndsAt h d (suc last)
ends_after h d last quiet goes over = record { busy = λ k l. by k l (busy_in (at h d k).machine.activity) refl; over = over }
  where
    by : (k : ℕ) → k < suc last → (busy : Bool) → busy_in (at h d k).machine.activity ≡ busy → BusyAt h d k
    by k l true e = e
    by k l false e =
        let q : k + (last - k) ≡ last = omega arith in
        absurd
        (true≢false
        (sym goes
        ∙ ap (λ (i : ℕ). busy_in (at h d i).machine.activity) (sym q)
        ∙ stays_over h d k (last - k) (λ n i. quiet n _) e))

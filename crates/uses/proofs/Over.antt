-- A use as a host that makes no call after it: where it has come to, and that a command which has ended on the way is over there.
-- Assumes nothing.
use mathlib.Core.Path.{◌≡◌, sym, ap, ◌∙◌}
use mathlib.Core.Bool.{true, false}
use Prim.Native.Nat.{ℕ, ◌+◌, ◌-◌, ◌≤◌}
use native.Mathlib.Nat.{add-zero}
use native.Mathlib.Omega.{arith}
use Rattle.activity.specs.Limits.{busy_in}
use Rattle.reachable.proofs.Valid.{Valid}
use Rattle.hosts.specs.Hosts.{none, Desk, served_at, called_all, at, EndsAt}
use Rattle.hosts.proofs.Idling.{stays_over}
use Rattle.uses.specs.Uses.{Use, throughout, no_command, passed, host_of, due_at}
use Rattle.uses.specs.Courses.{busy_bit, Shows, silent}
use Rattle.uses.proofs.EveryUse.{every_use}
use Rattle.uses.proofs.QuietUse.{Quiet, quiet_use}
use Rattle.uses.proofs.Statuses.{use_valid, shows_busy}
use Rattle.uses.proofs.Endings.{busy_due}

pub silent_quiet : (d : Desk) → Quiet silent d
silent_quiet d n = none

module _ {d e : Desk} (u : Use d e) where
  -- the calls after its last byte time made
  pub due_is : due_at (host_of u silent) d (passed u) ≡ e
  unfolding served_at called_all at
  due_is = ap (due_at (host_of u silent) d) (sym (add-zero (passed u))) ∙ every_use u silent 0

  module _ (alone : throughout no_command u ≡ true) where
    pub use_quiet : Quiet (host_of u silent) d
    use_quiet = quiet_use u silent alone (silent_quiet e)

    pub over_there :
        Valid d.machine → (time : ℕ) → EndsAt (host_of u silent) d time → time ≤ passed u → Shows e busy_bit false
    over_there valid time ends late =
        let there : time + (passed u - time) ≡ passed u = omega arith in
        shows_busy e false (use_valid u valid)
        (ap (λ (f : Desk). busy_in f.machine.activity) (sym due_is)
        ∙ busy_due (host_of u silent) d use_quiet (passed u)
        ∙ ap (λ (k : ℕ). busy_in (at (host_of u silent) d k).machine.activity) (sym there)
        ∙ stays_over (host_of u silent) d time (passed u - time) (λ k m. use_quiet k) ends.over)

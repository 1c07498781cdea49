-- What each act keeps of a command's order and activity holds in all its byte times, done or refused. Assumes nothing.
use mathlib.Core.Path.{sym, subst}
use Prim.Native.Nat.{ℕ, zero, suc, ◌≤◌, ◌<◌}
use native.Mathlib.Omega.{arith}
use Rattle.command.specs.declared.Order.{Order}
use Rattle.activity.specs.declared.Seen.{Seen}
use Rattle.activity.specs.declared.Activity.{Activity}
use Rattle.act.specs.Turns.{act_of}
use Rattle.wd.specs.declared.Machine.{Machine}
use Rattle.wd.specs.Turns.{act_applied, cell_turn}
use Rattle.hosts.specs.Hosts.{Host, Desk, at, AloneUntil}
use Rattle.hosts.proofs.QuietCalls.{calls_bus}
use Rattle.hosts.proofs.Views.{DoneAt}
use Rattle.hosts.proofs.ByteTimes.{finds, done_or_not, turned, refused_machine}
use Rattle.refusals.specs.Numbers.{refused, done}

module _ (P : Order → Activity → Type 0) (keeps : (o : Order) (s : Seen) (a : Activity) → P o a → P o (act_of o s a).next)
    (h : Host) (d : Desk) (n : ℕ) (alone : AloneUntil h d n) where
  abbrev Of : Machine → Type 0
  Of m = P m.order m.activity

  -- what byte time k finds after the host's calls
  found : (k : ℕ) → k < n → Of (at h d k).machine → Of (finds h d k)
  found k l = subst Of (sym (calls_bus (at h d k).machine (h.calls k) (alone k l)))

  goes_on : (k : ℕ) → Of (finds h d k) → Of (at h d (suc k)).machine
  unfolding cell_turn act_applied
  goes_on k before = by (done_or_not h d k)
    where
      by : Dec (DoneAt h d k) → Of (at h d (suc k)).machine
      by (yes done) = subst Of (sym (turned h d k done)) (keeps _ _ _ before)
      by (no refused) = subst Of (sym (refused_machine h d k refused)) before

  kept_at : Of d.machine → (k : ℕ) → k ≤ n → Of (at h d k).machine
  unfolding at
  kept_at first zero l = first
  kept_at first (suc k) l = goes_on k (found k (omega arith) (kept_at first k (omega arith)))

  pub kept_found : Of d.machine → (k : ℕ) → k < n → Of (finds h d k)
  kept_found first k l = found k l (kept_at first k (omega arith))

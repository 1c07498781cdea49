-- Types II and III: a command ends in the load, or it settles and begins. A Write Track ends then. Assumes nothing.
use mathlib.Core.Path.{◌≡◌, refl, ap, ◌∙◌, subst}
use mathlib.Core.Bool.{Bool, true, false, cond}
use Prim.Native.Nat.{ℕ, ◌+◌}
use native.Mathlib.Nat.{zero-add}
use native.Mathlib.Omega.{arith}
use lib.ListN.{length}
use Rattle.common.proofs.Cases.{never}
use Rattle.command.specs.Bits.{settles_first}
use Rattle.command.specs.Commands.{class_of, job_of}
use Rattle.command.specs.Orders.{order_of}
use Rattle.command.specs.declared.Command.{Command}
use Rattle.command.specs.declared.Class.{Class}
use Rattle.command.specs.declared.Class.TheVariants.{Works}
use Rattle.activity.specs.Limits.{busy_in}
use Rattle.activity.specs.declared.Activity.{Activity}
use Rattle.accepting.specs.Accepting.{ends_at_once, works_from, begin_activity}
use Rattle.wd.specs.declared.Machine.{Machine}
use Rattle.wd.specs.Loads.{command_begun}
use Rattle.hosts.specs.Hosts.{at}
use Rattle.hosts.specs.Scenes.{Scene, loaded, settling}
use Rattle.hosts.proofs.LowRows.{LowRow}
use Rattle.hosts.proofs.Working.{TakenUp, given_view, Working, low_working_lem, ground, Heads, heads_on, settling_lasts}
use Rattle.ends.specs.Ends.{EndPremises}
use Rattle.ends.proofs.Left.{left_of, begun_left, Plain, Counted, seeks}
use Rattle.ends.proofs.Drains.{Over, over_now, earlier, drains_from}
use Rattle.ends.proofs.Begun.{started, led}

-- a command that does not end in the load
pub record Stays (s : Scene) (command : Command) : Type 0 where
  pub asked : EndPremises s command
  pub given : TakenUp s command

module _ {s : Scene} {command : Command} (x : Stays s command) where
  abbrev pub low_working : Working LowRow s command
  low_working = low_working_lem x.given x.asked.alone x.asked.whole x.asked.low

  -- HLT is on as soon as it has settled
  pub settled_hlt : (s.host.lines (settling s)).hlt ≡ true
  settled_hlt = x.asked.hlt (settling s) (settling_lasts low_working (settling s) (omega arith)).busy

  abbrev pub low_heads : Heads low_working
  low_heads = heads_on low_working settled_hlt

  -- what begins after it
  pub settled_over : (last : ℕ) → Over s.host (loaded s) (settling s) last → Over s.host (loaded s) 0 last
  settled_over last =
      earlier s.host (loaded s) 0 (settling s) last (omega arith)
      (λ k l below. (settling_lasts low_working k (omega arith)).busy)

  -- a job of a known length: a Write Track
  pub track_over :
      Plain (job_of command) → Over s.host (loaded s) 0 (settling s + begun_left (job_of command) (length s.row))
  unfolding order_of left_of Counted seeks at
  track_over plain =
      subst (Over s.host (loaded s) 0) (zero-add _)
      (drains_from s.host (loaded s) (led x.asked) 0 (settling s + begun_left (job_of command) (length s.row)) 0
      (ground low_working) (given_view x.given) x.asked.whole x.asked.low plain
      (λ on. never (cc))
      (rw x.asked.whole (omega arith)))

-- ---- at once, or after the settling

module _ {s : Scene} {command : Command} (asked : EndPremises s command) (works : class_of command ≡ Works) where
  abbrev begins : Class → Activity
  begins class = begin_activity (ends_at_once command s.lines) s.machine.mfm s.byte class

  at_once : ends_at_once command s.lines ≡ true → Over s.host (loaded s) 0 0
  unfolding at command_begun begin_activity works_from busy_in
  at_once ends =
      over_now s.host (loaded s) 0 (omega arith)
      (ap (λ (m : Machine). busy_in m.activity) (started asked)
      ∙ ap (λ (k : Class). busy_in (begins k)) works
      ∙ ap (λ (b : Bool). busy_in (works_from b (settles_first s.byte) s.machine.mfm)) ends)

  pub worked_over :
      (most : ℕ)
      → (Stays s command → Over s.host (loaded s) 0 (settling s + most))
      → Over s.host (loaded s) 0 (cond (ends_at_once command s.lines) 0 (settling s + most))
  worked_over most rest = by (ends_at_once command s.lines) refl
    where
      by : (b : Bool) → ends_at_once command s.lines ≡ b → Over s.host (loaded s) 0 (cond b 0 (settling s + most))
      by true e = at_once e
      by false e =
          rest
          (record {
            asked = asked;
            given = record {
              decodes = asked.decodes;
              works = works;
              accepted = asked.accepted;
              stays = e;
            };
          })

-- Type I commands end: each step takes a step time, and a verify its five rounds. Assumes nothing.
use mathlib.Core.Path.{◌≡◌, sym, ap, ◌∙◌, subst}
use mathlib.Core.Bool.{Bool, true, false, cond}
use Prim.Native.Nat.{ℕ, ◌+◌, ◌*◌, ◌≤◌, ◌<◌}
use native.Mathlib.Nat.{zero-add, mul-le-mul_right}
use native.Mathlib.Omega.{arith}
use Rattle.common.proofs.Cases.{never}
use Rattle.command.specs.Bits.{verifies_track}
use Rattle.command.specs.Commands.{class_of, job_of}
use Rattle.command.specs.Orders.{order_of}
use Rattle.command.specs.Times.{settle_time_of}
use Rattle.command.specs.declared.Command.{Command}
use Rattle.command.specs.declared.Command.TheVariants.{Restore, Seek}
use Rattle.command.specs.declared.Job.TheVariants as job
use Rattle.command.specs.declared.Class.{Class}
use Rattle.command.specs.declared.Class.TheVariants.{Seeks, Steps}
use Rattle.activity.specs.declared.Activity.{Activity}
use Rattle.registers.specs.declared.Regs.{Regs}
use Rattle.accepting.specs.Accepting.{ends_at_once, begin_regs, begin_activity}
use Rattle.wd.specs.declared.Machine.{Machine}
use Rattle.wd.specs.Loads.{command_begun}
use Rattle.hosts.specs.Hosts.{Host, Desk, served_at, at, BusyAt, Undisturbed}
use Rattle.hosts.specs.Scenes.{Scene, loaded}
use Rattle.hosts.proofs.Views.{View, view_of}
use Rattle.hosts.proofs.Accepted.{no_other_restores}
use Rattle.ends.specs.Ends.{leaves_dr, EndPremises, apart, stepping, five_rounds, verifying}
use Rattle.ends.proofs.Left.{left_of, verify_left, Counted, seeks}
use Rattle.ends.proofs.SteadyDr.{calls_steady}
use Rattle.ends.proofs.Drains.{Over, Steady, drains_from}
use Rattle.ends.proofs.Begun.{begun_by, started, begun_low, led}

module _ {s : Scene} {command : Command} (asked : EndPremises s command) where
  abbrev h : Host
  h = s.host

  abbrev d : Desk
  d = loaded s

  abbrev begun : Machine
  begun = begun_by s command

  abbrev begun_view : View
  begun_view = view_of (record { machine = begun; row = s.row })

  begun_here : view_of (at h d 0) ≡ begun_view
  unfolding at
  begun_here = ap (λ (m : Machine). view_of (record { machine = m; row = s.row })) (started asked)

  -- V, by the ring and by the row
  verify_most : verify_left begun.order begun.mfm begun.ring.length ≤ verifying s
  unfolding command_begun order_of
  verify_most = by (verifies_track s.byte)
    where
      by : (b : Bool)
          → cond b (settle_time_of s.machine.mfm + 5 * s.machine.ring.length) 0
          ≤ cond b (settle_time_of s.machine.mfm + five_rounds s) 0
      by true = omega (arith, asked.whole)
      by false = omega arith

  abbrev begins : Class → Activity
  begins class = begin_activity (ends_at_once command s.lines) s.machine.mfm s.byte class

  dr_here : (at h d 0).machine.regs.dr ≡ begun.regs.dr
  unfolding at
  dr_here = ap (λ (m : Machine). m.regs.dr) (started asked)

  typed_over :
      (n : ℕ) (class : Class)
      → class_of command ≡ class
      → Counted begun.order (begins class)
      → (seeks (begins class) ≡ true → Steady h d)
      → left_of begun.order begun.mfm begun.regs.dr begun.ring begun.regs.tr (begins class) ≤ n
      → Over h d 0 n
  unfolding command_begun
  typed_over n class e counted steady enough =
      subst (Over h d 0) (zero-add n)
      (drains_from h d (led asked) begun.regs.dr n 0 begun_view begun_here asked.whole asked.low
      (subst (λ (k : Class). Counted begun.order (begins k)) (sym e) counted)
      (λ on. (
        steady (ap (λ (k : Class). seeks (begins k)) (sym e) ∙ on),
        dr_here,
        (begun_low asked).0,
      ))
      (subst
      (λ (k : Class). left_of begun.order begun.mfm begun.regs.dr begun.ring begun.regs.tr (begins k) ≤ n)
      (sym e) enough))

  pub seeks_over :
      class_of command ≡ Seeks
      → job_of command ≡ job.Verify
      → Steady h d
      → Over h d 0 (1 + apart begun.regs.tr begun.regs.dr * stepping s + verifying s)
  unfolding command_begun order_of begin_activity left_of Counted
  seeks_over class verifies steady = typed_over _ Seeks class verifies (λ on. steady) (omega (arith, verify_most))

  pub steps_over : class_of command ≡ Steps → job_of command ≡ job.Verify → Over h d 0 (1 + stepping s + verifying s)
  unfolding command_begun order_of begin_activity left_of Counted seeks
  steps_over class verifies = typed_over _ Steps class verifies (λ on. never (cc)) (omega (arith, verify_most))

-- a host that loads no DR meanwhile
pub steady_by :
    (s : Scene)
    → Undisturbed s.host (loaded s)
    → ((n : ℕ) → BusyAt s.host (loaded s) n → leaves_dr (s.host.calls n) ≡ true)
    → Steady s.host (loaded s)
unfolding served_at
steady_by s alone leaves n busy =
    calls_steady (at s.host (loaded s) n).machine (s.host.calls n) (alone n busy) (leaves n busy)

-- ---- how many steps

apart_byte : (a b : ℕ) → a < 256 → b < 256 → apart a b ≤ 255
unfolding apart
apart_byte a b low high = omega arith

-- "Restore sets TR 255, DR 0": 255 steps at most
pub restore_most : (s : Scene) (asked : EndPremises s Restore)
    → apart (begun_by s Restore).regs.tr (begun_by s Restore).regs.dr * stepping s ≤ 255 * stepping s
restore_most s asked =
    let low = begun_low asked in
    mul-le-mul_right (stepping s) (apart_byte _ _ low.0 low.1)

seek_regs : (s : Scene) (asked : EndPremises s Seek) → (begun_by s Seek).regs ≡ s.machine.regs
unfolding command_begun begin_regs
seek_regs s asked = rw (no_other_restores Seek (λ e. never (cc)))

pub seek_most : (s : Scene) (asked : EndPremises s Seek)
    → apart (begun_by s Seek).regs.tr (begun_by s Seek).regs.dr * stepping s
    ≡ apart s.machine.regs.tr s.machine.regs.dr * stepping s
seek_most s asked = ap (λ (r : Regs). apart r.tr r.dr * stepping s) (seek_regs s asked)

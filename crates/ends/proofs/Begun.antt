-- Every command ends: what holds of each after its acceptance. Assumes nothing.
use mathlib.Core.Path.{◌≡◌, sym, subst}
use Prim.Native.Nat.{◌<◌}
use native.Mathlib.Omega.{arith}
use Rattle.common.proofs.Cases.{by_cond}
use Rattle.command.specs.declared.Command.{Command}
use Rattle.registers.specs.declared.Regs.{Regs}
use Rattle.accepting.specs.Accepting.{begin_regs}
use Rattle.wd.specs.declared.Machine.{Machine}
use Rattle.wd.specs.Loads.{command_begun}
use Rattle.reachable.proofs.Valid.{Valid, load_valid}
use Rattle.hosts.specs.Scenes.{Scene, loaded}
use Rattle.hosts.proofs.Accepted.{accepted_valid, accepted_machine}
use Rattle.ends.specs.Ends.{EndPremises}
use Rattle.ends.proofs.Drains.{Led}
use Rattle.command.specs.Commands.{is_restore}

-- after the acceptance
abbrev pub begun_by : Scene → Command → Machine
begun_by s command = command_begun s.machine s.lines s.byte command

module _ {s : Scene} {command : Command} (asked : EndPremises s command) where
  pub started : (loaded s).machine ≡ begun_by s command
  started = accepted_machine s.machine s.lines s.byte asked.accepted command asked.decodes

  pub begun_low : ((begun_by s command).regs.tr < 256) × ((begun_by s command).regs.dr < 256)
  unfolding command_begun begin_regs
  begun_low =
      by_cond (λ (r : Regs). (r.tr < 256) × (r.dr < 256)) (is_restore command)
      (λ e. (omega arith, omega arith))
      (λ e. (asked.tr, asked.dr))

  pub valid : Valid s.machine
  valid = accepted_valid s.machine s.lines s.byte asked.accepted

  pub led : Led s.host (loaded s)
  led =
      record {
        alone = asked.alone;
        valid = load_valid s.machine s.lines 0 s.byte valid;
        hlt = asked.hlt;
        dr = subst (λ (m : Machine). m.regs.dr < 256) (sym started) begun_low.1;
      }

-- A command of Types II and III that is accepted: what it begins with, and bit 2 of the status byte from then on. Assumes
-- nothing.
use mathlib.Core.Path.{◌≡◌, refl, sym, ap, ◌∙◌, subst}
use mathlib.Core.Bool.{Bool, false, not, ◌&&◌}
use Prim.Native.Nat.{ℕ}
use Rattle.common.proofs.Cases.{by_cond}
use Rattle.command.specs.Bits.{settles_first}
use Rattle.command.specs.Commands.{class_of}
use Rattle.command.specs.Orders.{order_of}
use Rattle.command.specs.declared.Command.{Command}
use Rattle.command.specs.declared.Class.{Class}
use Rattle.command.specs.declared.Class.TheVariants.{Works}
use Rattle.activity.specs.declared.Activity.{Activity}
use Rattle.activity.specs.declared.Activity.TheVariants.{Idle, Settle}
use Rattle.registers.specs.declared.Flags.{Flags}
use Rattle.registers.specs.declared.Lines.{Lines}
use Rattle.accepting.specs.Accepting.{ends_at_once, asks_first, begin_wires, works_from, begin_activity}
use Rattle.wd.specs.declared.Machine.{Machine}
use Rattle.wd.specs.Loads.{command_begun}
use Rattle.reachable.proofs.Valid.{Valid, load_valid}
use Rattle.reachable.proofs.StatusBits.{status_lost}
use Rattle.hosts.specs.Hosts.{at}
use Rattle.hosts.specs.Scenes.{Scene, loaded}
use Rattle.hosts.proofs.Accepted.{accepted_valid, accepted_machine, given_flags}
use Rattle.hosts.proofs.Views.{stays_valid}
use Rattle.hosts.proofs.ByteTimes.{kind_later}
use Rattle.lost_data.specs.LostData.{lost_data, AcceptedAlone}

-- it settles, if it is not over at once
pub data AtFirst : Activity → Type 0 where
  over : AtFirst Idle
  settles : {left : ℕ} → AtFirst (Settle left)

begins : (ends mfm : Bool) (b : ℕ) (class : Class) → class ≡ Works → AtFirst (begin_activity ends mfm b class)
unfolding begin_activity works_from
begins ends mfm b class works =
    rw works
    (by_cond AtFirst ends (λ e. over) (λ e. by_cond AtFirst (settles_first b) (λ f. settles) (λ f. settles)))

module _ {s : Scene} {command : Command} {n : ℕ} (works : class_of command ≡ Works) (g : AcceptedAlone s command n) where
  begun : (loaded s).machine ≡ command_begun s.machine s.lines s.byte command
  begun = accepted_machine s.machine s.lines s.byte g.accepted command g.decodes

  -- the order says what it is
  pub first_order : (loaded s).machine.order.command ≡ command
  unfolding command_begun order_of
  first_order = ap (λ (m : Machine). m.order.command) begun

  pub first_activity : AtFirst (loaded s).machine.activity
  unfolding command_begun
  first_activity =
      subst (λ (m : Machine). AtFirst m.activity) (sym begun)
      (begins (ends_at_once command s.lines) s.machine.mfm s.byte (class_of command) works)

  -- "clears .. DRQ"; "Write Track. DRQ at acceptance, unless it ends at once"
  pub first_drq : (loaded s).machine.wires.drq ≡ (asks_first command && not (ends_at_once command s.lines))
  unfolding command_begun begin_wires
  first_drq = ap (λ (m : Machine). m.wires.drq) begun ∙ rw works refl

  -- "clears .. Lost Data"
  pub first_lost : (loaded s).machine.flags.lost ≡ false
  first_lost = ap (λ (f : Flags). f.lost) (given_flags s command g.decodes works g.accepted)

  pub first_valid : Valid (loaded s).machine
  first_valid =
      load_valid s.machine s.lines 0 s.byte (accepted_valid s.machine s.lines s.byte g.accepted)

  -- "2 .. Lost Data"
  pub lost_bit : (l : Lines) → lost_data (at s.host (loaded s) n).machine l ≡ (at s.host (loaded s) n).machine.flags.lost
  lost_bit l =
      status_lost (at s.host (loaded s) n).machine l (stays_valid s.host (loaded s) first_valid n)
      ((kind_later s.host (loaded s) n g.alone).1
      ∙ ap (λ (f : Flags). f.type1) (given_flags s command g.decodes works g.accepted))

-- The byte times of a read: each does one of a read's deeds. Assumes nothing.
use mathlib.Core.Path.{◌≡◌, refl, sym, subst}
use Prim.Native.Nat.{ℕ, ◌<◌}
use Rattle.command.specs.Commands.{class_of, job_of}
use Rattle.command.specs.declared.Command.{Command}
use Rattle.command.specs.declared.Class.TheVariants.{Works}
use Rattle.command.specs.declared.Order.{Order}
use Rattle.activity.specs.declared.Activity.{Activity}
use Rattle.hosts.specs.Hosts.{Host, Desk}
use Rattle.hosts.specs.Scenes.{Scene, loaded}
use Rattle.hosts.specs.Bytes.{deed_at}
use Rattle.hosts.proofs.Views.{DoneAt}
use Rattle.hosts.proofs.ByteTimes.{finds, done_or_not, deed_done, deed_none}
use Rattle.lost_data.specs.LostData.{ReadCommand, read_sector, read_address, AcceptedAlone}
use Rattle.lost_data.proofs.Begun.{AtFirst, first_order, first_activity}
use Rattle.lost_data.proofs.Kept.{kept_found}
use Rattle.lost_data.proofs.ReadCourse.{ReadJob, Reading, ReadDeed, nothing, read_act}
use Rattle.refusals.specs.Numbers.{refused, done}

-- ---- where it begins

pub reads_works : {command : Command} → ReadCommand command → class_of command ≡ Works
unfolding class_of
reads_works read_sector = refl
reads_works read_address = refl

read_job : {command : Command} → ReadCommand command → ReadJob (job_of command)
unfolding job_of
read_job read_sector = ReadJob.sector
read_job read_address = ReadJob.address

begins : {command : Command} {a : Activity} → ReadCommand command → AtFirst a → Reading (job_of command) a
begins read AtFirst.over = Reading.over
begins read AtFirst.settles = Reading.settles (read_job read)

-- what a read is doing, by its order
abbrev ReadBy : Order → Activity → Type 0
ReadBy o a = Reading (job_of o.command) a

-- ---- a byte time

module _ {s : Scene} {command : Command} {n : ℕ} (read : ReadCommand command) (g : AcceptedAlone s command n) where
  abbrev h : Host
  h = s.host

  abbrev d : Desk
  d = loaded s

  pub read_deed : (k : ℕ) → k < n → ReadDeed (deed_at h d k)
  read_deed k l = by (done_or_not h d k)
    where
      first : ReadBy d.machine.order d.machine.activity
      first =
          subst (λ (c : Command). Reading (job_of c) d.machine.activity) (sym (first_order (reads_works read) g))
          (begins read (first_activity (reads_works read) g))

      by : Dec (DoneAt h d k) → ReadDeed (deed_at h d k)
      by (yes done) =
          subst ReadDeed (sym (deed_done h d k done))
          (read_act (finds h d k).order _
          (kept_found ReadBy (λ o s a x. (read_act o s x).next) h d n g.alone first k l)
          ).deed
      by (no refused) = subst ReadDeed (sym (deed_none h d k refused)) nothing

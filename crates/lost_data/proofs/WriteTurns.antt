-- The byte times of a write: what each does, with the cell and the activity that it leaves. Assumes nothing.
use mathlib.Core.Path.{◌≡◌, refl, sym, ap, subst}
use Prim.Native.Nat.{ℕ, suc, ◌<◌}
use lib.ListN.{get_or}
use lib.Seq.{get_or-set_same}
use Rattle.command.specs.Commands.{class_of, job_of}
use Rattle.command.specs.declared.Command.{Command}
use Rattle.command.specs.declared.Class.TheVariants.{Works}
use Rattle.command.specs.declared.Order.{Order}
use Rattle.activity.specs.declared.Activity.{Activity}
use Rattle.activity.specs.declared.Deed.{Deed}
use Rattle.activity.specs.declared.Deed.TheVariants.{Nothing}
use Rattle.registers.specs.Rings.{seen_of}
use Rattle.wd.specs.declared.Machine.{Machine}
use Rattle.wd.specs.Turns.{act_applied, cell_turn}
use Rattle.wd.proofs.Valid.{row_inside}
use Rattle.hosts.specs.Hosts.{Host, Desk, served_at, at}
use Rattle.hosts.specs.Scenes.{Scene, loaded}
use Rattle.hosts.specs.Bytes.{deed_at}
use Rattle.hosts.proofs.QuietCalls.{calls_bus}
use Rattle.hosts.proofs.Views.{DoneAt}
use Rattle.hosts.proofs.ByteTimes.{finds, does, done_or_not, turned, turned_row, deed_done, deed_none}
use Rattle.hosts.proofs.Refused.{done_open}
use Rattle.lost_data.specs.LostData.{WriteCommand, write_sector, write_track, AcceptedAlone}
use Rattle.lost_data.proofs.Begun.{AtFirst, first_order, first_activity}
use Rattle.lost_data.proofs.Since.{drq_found}
use Rattle.lost_data.proofs.Kept.{kept_found}
use Rattle.lost_data.proofs.WriteCourse.{WriteJob, InWrite, Writing, LeavesDrq, WriteDeed, write_act}
use Rattle.refusals.specs.Numbers.{refused, done}

-- ---- where it begins

pub writes_works : {command : Command} → WriteCommand command → class_of command ≡ Works
unfolding class_of
writes_works write_sector = refl
writes_works write_track = refl

write_job : {command : Command} → WriteCommand command → WriteJob (job_of command)
unfolding job_of
write_job write_sector = WriteJob.sector
write_job write_track = WriteJob.track

begins : {command : Command} {a : Activity} → WriteCommand command → AtFirst a → Writing (job_of command) a
begins write AtFirst.over = InWrite.over
begins write AtFirst.settles = InWrite.settles (write_job write)

-- what a write is doing, by its order
abbrev WriteBy : Order → Activity → Type 0
WriteBy o a = Writing (job_of o.command) a

-- ---- a byte time

-- what byte time k does, and what it leaves; one that is refused does nothing
pub record WriteTurn (h : Host) (d : Desk) (k : ℕ) : Type 0 where
  pub cell : ℕ
  pub next : Activity
  pub deed : Deed
  pub act : WriteDeed (drq_found h d k) cell next deed
  pub deed_is : deed_at h d k ≡ deed
  pub next_is : (at h d (suc k)).machine.activity ≡ next
  pub cell_is : get_or (at h d (suc k)).row (at h d k).machine.ring.position 0 ≡ cell

module _ {s : Scene} {command : Command} {n : ℕ} (write : WriteCommand command) (g : AcceptedAlone s command n) where
  abbrev h : Host
  h = s.host

  abbrev d : Desk
  d = loaded s

  -- a done byte time writes the cell under the head
  cell_after :
      (k : ℕ)
      → k < n
      → DoneAt h d k
      → get_or (at h d (suc k)).row (at h d k).machine.ring.position 0 ≡ (does h d k).cell
  cell_after k l done =
      let ring = ap (λ (m : Machine). m.ring) (calls_bus (at h d k).machine (h.calls k) (g.alone k l)) in
      rw (turned_row h d k done, ring)
      (get_or-set_same (at h d k).row (at h d k).machine.ring.position _ 0
      (row_inside (at h d k).machine _ (done_open h d n g.alone k l done)))

  pub write_turn : (k : ℕ) → k < n → WriteTurn h d k
  unfolding served_at seen_of cell_turn act_applied
  write_turn k l = by (done_or_not h d k)
    where
      first : WriteBy d.machine.order d.machine.activity
      first =
          subst (λ (c : Command). Writing (job_of c) d.machine.activity) (sym (first_order (writes_works write) g))
          (begins write (first_activity (writes_works write) g))

      by : Dec (DoneAt h d k) → WriteTurn h d k
      by (yes done) =
          record {
            cell = (does h d k).cell;
            next = (does h d k).next;
            deed = (does h d k).deed;
            act =
                (write_act (finds h d k).order _
                (kept_found WriteBy (λ o s a x. (write_act o s x).next) h d n g.alone first k l)).deed;
            deed_is = deed_done h d k done;
            next_is = ap (λ (m : Machine). m.activity) (turned h d k done);
            cell_is = cell_after k l done;
          }
      by (no refused) =
          record {
            cell = _;
            next = _;
            deed = Nothing;
            act = WriteDeed.leaves LeavesDrq.nothing;
            deed_is = deed_none h d k refused;
            next_is = refl;
            cell_is = refl;
          }

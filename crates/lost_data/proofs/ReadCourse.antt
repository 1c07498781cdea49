-- What a read can be doing, and its deeds. Assumes nothing.
use mathlib.Core.Path.{◌≡◌, refl}
use mathlib.Core.Bool.{Bool, ◌&&◌}
use Prim.Native.Nat.{ℕ}
use lib.Dec.{eqb}
use Rattle.common.proofs.Cases.{by_cond}
use Rattle.scan.specs.declared.Scan.{Scan}
use Rattle.command.specs.Commands.{job_of}
use Rattle.command.specs.declared.Order.{Order}
use Rattle.command.specs.declared.Job.{Job}
use Rattle.command.specs.declared.Job.TheVariants as job
use Rattle.activity.specs.declared.Seen.{Seen}
use Rattle.activity.specs.declared.Act.{Act}
use Rattle.activity.specs.declared.Activity.{Activity}
use Rattle.activity.specs.declared.Activity.TheVariants.{Idle, Settle, Search, Window, Data, Hunt, Address}
use Rattle.activity.specs.declared.Deed.{Deed}
use Rattle.activity.specs.declared.Deed.TheVariants.{Nothing, Deliver, Named, Matched, NotFound, Record}
use Rattle.search.specs.Search.{after_match}
use Rattle.act.specs.Turns.{job_begun, begun_activity, act_of}
use Rattle.act.proofs.Acts.{Passes, Acts, turns}

pub data ReadJob : Job → Type 0 where
  sector : ReadJob job.ReadSector
  address : ReadJob job.ReadAddress

-- the activities of each
pub data Reading : Job → Activity → Type 0 where
  over : {j : Job} → Reading j Idle
  settles : {j : Job} {left : ℕ} → ReadJob j → Reading j (Settle left)
  searches : {pulses : ℕ} {scan : Scan} → Reading job.ReadSector (Search pulses scan)
  in_window : {left passed run : ℕ} → Reading job.ReadSector (Window left passed run)
  in_data : {left crc : ℕ} {deleted : Bool} → Reading job.ReadSector (Data left crc deleted)
  hunts : {pulses run : ℕ} → Reading job.ReadAddress (Hunt pulses run)
  in_address : {passed crc track : ℕ} → Reading job.ReadAddress (Address passed crc track)

-- the deeds
pub data ReadDeed : Deed → Type 0 where
  nothing : ReadDeed Nothing
  delivers : {b : ℕ} → ReadDeed (Deliver b)
  names : {b track : ℕ} {bad : Bool} → ReadDeed (Named b track bad)
  matches : {bad : Bool} → ReadDeed (Matched bad)
  fails : ReadDeed NotFound
  records : {deleted bad follows : Bool} → ReadDeed (Record deleted bad follows)

-- an act of one: it goes on, and does one of them
pub record ReadAct (j : Job) (act : Act) : Type 0 where
  pub next : Reading j act.next
  pub deed : ReadDeed act.deed

module _ (o : Order) (s : Seen) where
  begins : {j : Job} → ReadJob j → Reading j (job_begun s j)
  unfolding job_begun
  begins sector = searches
  begins address = hunts

  begun : {j : Job} {a : Activity} → job_of o.command ≡ j → Reading j a → Reading j (begun_activity o s a)
  unfolding begun_activity
  begun is over = over
  begun is (settles {j} {left} read) =
      rw is (by_cond (Reading j) (eqb left 0 && s.hlt) (λ e. begins read) (λ e. settles read))
  begun is searches = searches
  begun is in_window = in_window
  begun is in_data = in_data
  begun is hunts = hunts
  begun is in_address = in_address

  acted : {j : Job} {a : Activity} {act : Act} → job_of o.command ≡ j → Reading j a → Acts o s a act → ReadAct j act
  unfolding after_match
  acted is over (Acts.passes Passes.idles) = record { next = over; deed = nothing }
  acted is over (Acts.passes (Passes.stop_fails st)) = elim st [ ]
  acted is over (Acts.passes (Passes.stop_verifies st e)) = elim st [ ]
  acted is over (Acts.passes (Passes.stop_halts st)) = elim st [ ]
  acted is over (Acts.writes f w) = elim w [ ]
  acted is (settles read) (Acts.passes Passes.settles) = record { next = settles read; deed = nothing }
  acted is (settles read) (Acts.passes (Passes.stop_fails st)) = elim st [ ]
  acted is (settles read) (Acts.passes (Passes.stop_verifies st e)) = elim st [ ]
  acted is (settles read) (Acts.passes (Passes.stop_halts st)) = elim st [ ]
  acted is (settles read) (Acts.writes f w) = elim w [ ]
  acted is searches (Acts.passes Passes.search_fails) = record { next = over; deed = fails }
  acted is searches (Acts.passes (Passes.search_goes_on few e)) = record { next = searches; deed = nothing }
  acted is searches (Acts.passes (Passes.bad_match few)) = record { next = searches; deed = matches }
  acted is searches (Acts.passes (Passes.good_match id)) = record { next = rw is in_window; deed = matches }
  acted is searches (Acts.passes (Passes.stop_fails st)) = elim st [ ]
  acted is searches (Acts.passes (Passes.stop_verifies st e)) = elim st [ ]
  acted is searches (Acts.passes (Passes.stop_halts st)) = elim st [ ]
  acted is searches (Acts.writes f w) = elim w [ ]
  acted is in_window (Acts.passes Passes.mark_met) = record { next = in_data; deed = nothing }
  acted is in_window (Acts.passes (Passes.window_goes_on more e)) = record { next = in_window; deed = nothing }
  acted is in_window (Acts.passes Passes.window_fails) = record { next = over; deed = fails }
  acted is in_window (Acts.passes (Passes.stop_fails st)) = elim st [ ]
  acted is in_window (Acts.passes (Passes.stop_verifies st e)) = elim st [ ]
  acted is in_window (Acts.passes (Passes.stop_halts st)) = elim st [ ]
  acted is in_window (Acts.writes f w) = elim w [ ]
  acted is in_data (Acts.passes (Passes.data_byte more)) = record { next = in_data; deed = delivers }
  acted is in_data (Acts.passes (Passes.data_crc e)) = record { next = in_data; deed = nothing }
  acted is in_data (Acts.passes Passes.record_over) = record { next = over; deed = records }
  acted is in_data (Acts.passes (Passes.record_follows_lem on)) = record { next = searches; deed = records }
  acted is in_data (Acts.passes (Passes.stop_fails st)) = elim st [ ]
  acted is in_data (Acts.passes (Passes.stop_verifies st e)) = elim st [ ]
  acted is in_data (Acts.passes (Passes.stop_halts st)) = elim st [ ]
  acted is in_data (Acts.writes f w) = elim w [ ]
  acted is hunts (Acts.passes Passes.hunt_fails) = record { next = over; deed = fails }
  acted is hunts (Acts.passes (Passes.hunt_goes_on few e)) = record { next = hunts; deed = nothing }
  acted is hunts (Acts.passes Passes.id_met) = record { next = in_address; deed = nothing }
  acted is hunts (Acts.passes (Passes.stop_fails st)) = elim st [ ]
  acted is hunts (Acts.passes (Passes.stop_verifies st e)) = elim st [ ]
  acted is hunts (Acts.passes (Passes.stop_halts st)) = elim st [ ]
  acted is hunts (Acts.writes f w) = elim w [ ]
  acted is in_address (Acts.passes (Passes.address_byte more)) = record { next = in_address; deed = delivers }
  acted is in_address (Acts.passes Passes.address_over) = record { next = over; deed = names }
  acted is in_address (Acts.passes (Passes.stop_fails st)) = elim st [ ]
  acted is in_address (Acts.passes (Passes.stop_verifies st e)) = elim st [ ]
  acted is in_address (Acts.passes (Passes.stop_halts st)) = elim st [ ]
  acted is in_address (Acts.writes f w) = elim w [ ]

  pub read_act : {a : Activity} → Reading (job_of o.command) a → ReadAct (job_of o.command) (act_of o s a)
  read_act {a} reading = acted refl (begun refl reading) (turns o s a)

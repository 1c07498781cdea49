-- Settling and searching move no byte, and change no status bit but 3 and 4. Assumes nothing.
use mathlib.Core.Path.{refl}
use mathlib.Core.Bool.{Bool, true, false}
use Prim.Native.Nat.{ℕ}
use Rattle.scan.specs.declared.Scan.{Scan}
use Rattle.command.specs.Commands.{job_of}
use Rattle.command.specs.declared.Order.{Order}
use Rattle.command.specs.declared.Job.{Job}
use Rattle.activity.specs.declared.Seen.{Seen}
use Rattle.activity.specs.declared.Act.{Act}
use Rattle.activity.specs.declared.Activity.{Activity}
use Rattle.activity.specs.declared.Activity.TheVariants.{Settle, Search}
use Rattle.activity.specs.declared.Deed.{Deed}
use Rattle.activity.specs.declared.Deed.TheVariants.{Nothing, Matched, NotFound}
use Rattle.act.specs.Turns.{job_begun, act_of}
use Rattle.act.proofs.Acts.{Passes, Acts, Enters, enters, turns}
use Rattle.effects.specs.Effects.{effect_of, delivered, address_named, record_over, record_read, cell_taken, stepped, halted}
use Rattle.effects.proofs.Apart.{flags_after}
use Rattle.hosts.proofs.Phases.{Leaves}
use Rattle.hosts.proofs.Searching.{TypeTwo, reads, writes}

-- the deeds of a search
pub data Silent : Deed → Type 0 where
  nothing : Silent Nothing
  matched : (bad : Bool) → Silent (Matched bad)
  lost : Silent NotFound

-- they leave bit 5
pub silent_deleted : (deed : Deed) → Silent deed → Leaves (λ f. f.deleted) deed
unfolding flags_after effect_of delivered address_named record_over record_read cell_taken stepped halted
silent_deleted deed nothing = λ f drq. refl
silent_deleted deed (matched bad) = λ f drq. refl
silent_deleted deed lost = λ f drq. refl

-- settling or searching
pub data Early : Activity → Type 0 where
  settles : {left : ℕ} → Early (Settle left)
  searches : {pulses : ℕ} {scan : Scan} → Early (Search pulses scan)

module _ (o : Order) (s : Seen) where
  -- a command of Type II that has settled searches
  pub early_on : {a acting : Activity} → TypeTwo (job_of o.command) → Early a → Enters o s a acting → Early acting
  unfolding job_begun
  early_on two early (Enters.goes_on a f) = early
  early_on two settles Enters.settled = begins two
    where
      begins : {j : Job} → TypeTwo j → Early (job_begun s j)
      begins reads = searches
      begins writes = searches
  early_on two early Enters.opened = elim early [ ]

  silent : {a : Activity} {act : Act} → Early a → Acts o s a act → Silent act.deed
  silent settles (Acts.passes Passes.settles) = nothing
  silent settles (Acts.passes (Passes.stop_fails st)) = elim st [ ]
  silent settles (Acts.passes (Passes.stop_verifies st e)) = elim st [ ]
  silent settles (Acts.passes (Passes.stop_halts st)) = elim st [ ]
  silent settles (Acts.writes f w) = elim w [ ]
  silent searches (Acts.passes Passes.search_fails) = lost
  silent searches (Acts.passes (Passes.search_goes_on few e)) = nothing
  silent searches (Acts.passes (Passes.bad_match few)) = matched true
  silent searches (Acts.passes (Passes.good_match id)) = matched false
  silent searches (Acts.passes (Passes.stop_fails st)) = elim st [ ]
  silent searches (Acts.passes (Passes.stop_verifies st e)) = elim st [ ]
  silent searches (Acts.passes (Passes.stop_halts st)) = elim st [ ]
  silent searches (Acts.writes f w) = elim w [ ]

  pub early_silent : (a : Activity) → TypeTwo (job_of o.command) → Early a → Silent (act_of o s a).deed
  early_silent a two early = silent (early_on two early (enters o s a)) (turns o s a)

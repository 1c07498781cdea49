-- Deeds that leave TR and SR, and are no Record Not Found. Assumes nothing.
use mathlib.Core.Path.{◌≡◌, refl}
use mathlib.Core.Bool.{Bool, false}
use Prim.Native.Nat.{ℕ}
use Rattle.activity.specs.declared.Deed.{Deed}
use Rattle.activity.specs.declared.Deed.TheVariants.{Nothing, Deliver, Matched, Record, Written, Ask, Late, Take}
use Rattle.registers.specs.declared.Regs.{Regs}
use Rattle.effects.proofs.Apart.{regs_after}
use Rattle.effects.specs.Effects.{raised_sr, effect_of, delivered, address_named, record_over, record_read, cell_taken, stepped, halted}
use Rattle.hosts.proofs.Views.{loses}

-- a deed that leaves TR and SR
abbrev pub KeepsTargets : Deed → Type 0
KeepsTargets deed = (r : Regs) → ((regs_after r deed).tr ≡ r.tr) × ((regs_after r deed).sr ≡ r.sr)

-- a deed that moves neither TR nor SR and is no Record Not Found
pub record Keeps (deed : Deed) : Type 0 where
  pub targets : KeepsTargets deed
  pub found : loses deed ≡ false

pub nothing_keeps : Keeps Nothing
unfolding regs_after loses effect_of delivered address_named record_over record_read cell_taken stepped halted
nothing_keeps = record { targets = λ r. (refl, refl); found = refl }

pub ask_keeps : (on : Bool) → Keeps (Ask on)
unfolding regs_after loses effect_of delivered address_named record_over record_read cell_taken stepped halted
ask_keeps on = record { targets = λ r. (refl, refl); found = refl }

pub take_keeps : (on : Bool) → Keeps (Take on)
unfolding regs_after loses effect_of delivered address_named record_over record_read cell_taken stepped halted
take_keeps on = record { targets = λ r. (refl, refl); found = refl }

pub late_keeps : Keeps Late
unfolding regs_after loses effect_of delivered address_named record_over record_read cell_taken stepped halted
late_keeps = record { targets = λ r. (refl, refl); found = refl }

pub deliver_keeps : (b : ℕ) → Keeps (Deliver b)
unfolding regs_after loses effect_of delivered address_named record_over record_read cell_taken stepped halted
deliver_keeps b = record { targets = λ r. (refl, refl); found = refl }

pub matched_keeps : (bad : Bool) → Keeps (Matched bad)
unfolding regs_after loses effect_of delivered address_named record_over record_read cell_taken stepped halted
matched_keeps bad = record { targets = λ r. (refl, refl); found = refl }

-- without m SR stays
pub written_keeps : Keeps (Written false)
unfolding regs_after raised_sr loses effect_of delivered address_named record_over record_read cell_taken stepped halted
written_keeps = record { targets = λ r. (refl, refl); found = refl }

pub record_keeps : (deleted bad : Bool) → Keeps (Record deleted bad false)
unfolding regs_after raised_sr loses effect_of delivered address_named record_over record_read cell_taken stepped halted
record_keeps deleted bad = record { targets = λ r. (refl, refl); found = refl }

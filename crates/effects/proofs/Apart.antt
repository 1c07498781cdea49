-- What a deed does to registers depends on them alone, what it does to DRQ on DRQ alone, and what it does to flags on them and
-- DRQ. Assumes nothing.
use mathlib.Core.Path.{◌≡◌, refl}
use mathlib.Core.Bool.{Bool, false}
use Rattle.activity.specs.declared.Deed.{Deed}
use Rattle.activity.specs.declared.Deed.TheVariants.{Nothing, Deliver, Named, Matched, NotFound, Record, Written, Ask, Late, Take, Step, Halt}
use Rattle.registers.specs.declared.Regs.{Regs}
use Rattle.registers.specs.declared.Flags.{Flags}
use Rattle.registers.specs.declared.Pulse.TheVariants.{Off}
use Rattle.effects.specs.declared.Parts.{Parts}
use Rattle.effects.specs.Effects.{delivered, address_named, record_over, record_read, cell_taken, stepped, halted, effect_of}

-- these registers, flags and DRQ, with nothing else on
abbrev bare : Regs → Flags → Bool → Parts
bare r f drq = record { regs = r; drq = drq; flags = f; head = record { loaded = false; inward = false }; pulse = Off }

abbrev no_regs : Regs
no_regs = record { tr = 0; sr = 0; dr = 0 }

abbrev no_flags : Flags
no_flags = record { type1 = false; protected = false; deleted = false; missing = false; crc = false; lost = false }

unfoldable pub regs_after : Regs → Deed → Regs
regs_after r deed = (effect_of (bare r no_flags false) deed).regs

unfoldable pub drq_after : Bool → Deed → Bool
drq_after drq deed = (effect_of (bare no_regs no_flags drq) deed).drq

unfoldable pub flags_after : Flags → Bool → Deed → Flags
flags_after f drq deed = (effect_of (bare no_regs f drq) deed).flags

pub regs_apart : (p : Parts) (deed : Deed) → (effect_of p deed).regs ≡ regs_after p.regs deed
unfolding regs_after effect_of delivered address_named record_over record_read cell_taken stepped halted
regs_apart p Nothing = refl
regs_apart p (Deliver b) = refl
regs_apart p (Named b track bad) = refl
regs_apart p (Matched bad) = refl
regs_apart p NotFound = refl
regs_apart p (Record deleted bad follows) = refl
regs_apart p (Written follows) = refl
regs_apart p (Ask on) = refl
regs_apart p Late = refl
regs_apart p (Take on) = refl
regs_apart p (Step inward track) = refl
regs_apart p (Halt rule load) = refl

pub drq_apart : (p : Parts) (deed : Deed) → (effect_of p deed).drq ≡ drq_after p.drq deed
unfolding drq_after effect_of delivered address_named record_over record_read cell_taken stepped halted
drq_apart p Nothing = refl
drq_apart p (Deliver b) = refl
drq_apart p (Named b track bad) = refl
drq_apart p (Matched bad) = refl
drq_apart p NotFound = refl
drq_apart p (Record deleted bad follows) = refl
drq_apart p (Written follows) = refl
drq_apart p (Ask on) = refl
drq_apart p Late = refl
drq_apart p (Take on) = refl
drq_apart p (Step inward track) = refl
drq_apart p (Halt rule load) = refl

pub flags_apart : (p : Parts) (deed : Deed) → (effect_of p deed).flags ≡ flags_after p.flags p.drq deed
unfolding flags_after effect_of delivered address_named record_over record_read cell_taken stepped halted
flags_apart p Nothing = refl
flags_apart p (Deliver b) = refl
flags_apart p (Named b track bad) = refl
flags_apart p (Matched bad) = refl
flags_apart p NotFound = refl
flags_apart p (Record deleted bad follows) = refl
flags_apart p (Written follows) = refl
flags_apart p (Ask on) = refl
flags_apart p Late = refl
flags_apart p (Take on) = refl
flags_apart p (Step inward track) = refl
flags_apart p (Halt rule load) = refl

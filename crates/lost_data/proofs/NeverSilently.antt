-- Of every machine, under every host: no byte is moved while DRQ is on without Lost Data, and what changes DR moves one.
-- Assumes nothing.
use mathlib.Core.Path.{◌≡◌, refl, ap, ◌∙◌}
use mathlib.Core.Bool.{Bool, true, ◌||◌, or-true}
use mathlib.Core.Logic.{◌⊎◌, inl, inr}
use Prim.Native.Nat.{ℕ, suc, ◌+◌, ◌-◌}
use native.Mathlib.Omega.{arith}
use Rattle.common.proofs.Cases.{never}
use Rattle.activity.specs.declared.Deed.{Deed}
use Rattle.activity.specs.declared.Deed.TheVariants.{Nothing, Deliver, Named, Matched, NotFound, Record, Written, Ask, Late, Take, Step, Halt}
use Rattle.registers.specs.declared.Flags.{Flags}
use Rattle.registers.specs.declared.Regs.{Regs}
use Rattle.effects.specs.Effects.{effect_of, delivered, address_named, record_over, record_read, cell_taken, stepped, halted}
use Rattle.effects.proofs.Apart.{regs_after, flags_after}
use Rattle.hosts.specs.Hosts.{Host, Desk, served_at, at}
use Rattle.hosts.specs.Bytes.{deed_at, takes, hands}
use Rattle.hosts.proofs.ByteTimes.{next_regs, found_flags, lost_later}
use Rattle.lost_data.specs.LostData.{PutOver, NeverSilently}

-- "if DRQ was still on, Lost Data", "or 00 with Lost Data if DRQ is on": a deed that hands a byte over or takes one
pub late_lost :
    (f : Flags) (drq : Bool) (deed : Deed)
    → drq ≡ true
    → (hands deed || takes deed) ≡ true
    → (flags_after f drq deed).lost ≡ true
unfolding hands takes flags_after effect_of delivered address_named record_over record_read cell_taken stepped halted
late_lost f drq Nothing on moves = never (cc)
late_lost f drq (Deliver b) on moves = rw on (or-true f.lost)
late_lost f drq (Named b track bad) on moves = rw on (or-true f.lost)
late_lost f drq (Matched bad) on moves = never (cc)
late_lost f drq NotFound on moves = never (cc)
late_lost f drq (Record deleted bad follows) on moves = never (cc)
late_lost f drq (Written follows) on moves = never (cc)
late_lost f drq (Ask asks) on moves = never (cc)
late_lost f drq Late on moves = refl
late_lost f drq (Take asks) on moves = rw on (or-true f.lost)
late_lost f drq (Step inward track) on moves = never (cc)
late_lost f drq (Halt rule load) on moves = never (cc)

-- a deed that changes DR hands a byte over
dr_changes : (r : Regs) (deed : Deed) → ((regs_after r deed).dr ≡ r.dr → ⊥) → hands deed ≡ true
unfolding hands regs_after effect_of delivered address_named record_over record_read cell_taken stepped halted
dr_changes r Nothing other = absurd (other refl)
dr_changes r (Deliver b) other = refl
dr_changes r (Named b track bad) other = refl
dr_changes r (Matched bad) other = absurd (other refl)
dr_changes r NotFound other = absurd (other refl)
dr_changes r (Record deleted bad follows) other = absurd (other refl)
dr_changes r (Written follows) other = absurd (other refl)
dr_changes r (Ask asks) other = absurd (other refl)
dr_changes r Late other = absurd (other refl)
dr_changes r (Take asks) other = absurd (other refl)
dr_changes r (Step inward track) other = absurd (other refl)
dr_changes r (Halt rule load) other = absurd (other refl)

module _ (h : Host) (d : Desk) where
  put_hands : (k : ℕ) → PutOver h d k → hands (deed_at h d k) ≡ true
  put_hands k x = by x.put
    where
      by :
          (hands (deed_at h d k) ≡ true)
          ⊎ ((at h d (suc k)).machine.regs.dr ≡ (served_at h k (at h d k)).machine.regs.dr → ⊥)
          → hands (deed_at h d k) ≡ true
      by (inl hand) = hand
      by (inr other) =
          dr_changes (served_at h k (at h d k)).machine.regs (deed_at h d k)
          (λ e. other (ap (λ (r : Regs). r.dr) (next_regs h d k) ∙ e))

  lost_then : (k : ℕ) → PutOver h d k → (at h d (suc k)).machine.flags.lost ≡ true
  lost_then k x =
      ap (λ (f : Flags). f.lost) (found_flags h d k)
      ∙ late_lost _ _ (deed_at h d k) x.still (ap (λ (b : Bool). b || takes (deed_at h d k)) (put_hands k x))

  pub no_byte_silently : NeverSilently h d
  no_byte_silently k n x l quiet =
      let e : suc k + (n - suc k) ≡ n = omega arith in
      rw e at (lost_later h d (n - suc k) (suc k) (λ i least most. quiet i least (omega arith)) (lost_then k x))

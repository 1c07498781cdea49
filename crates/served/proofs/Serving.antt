-- A host that serves each DRQ before the next byte time: its calls move one byte where they find DRQ on, and none elsewhere.
-- Assumes nothing.
use mathlib.Core.Path.{◌≡◌, refl, ap₂}
use mathlib.Core.Bool.{Bool, false}
use mathlib.Core.List.{◌++◌}
use Prim.Native.Nat.{ℕ, zero, suc, ◌≤◌, ◌<◌}
use native.Mathlib.Omega.{arith}
use Rattle.activity.specs.declared.Deed.{Deed}
use Rattle.effects.specs.Effects.{effect_of}
use Rattle.effects.proofs.Apart.{drq_after}
use Rattle.reachable.proofs.Valid.{Valid}
use Rattle.hosts.specs.Hosts.{Host, Desk, served_at, at, AloneUntil}
use Rattle.hosts.specs.Bytes.{collected}
use Rattle.hosts.proofs.Views.{stays_valid}
use Rattle.hosts.proofs.Silent.{Silent, nothing, matched, lost}
use Rattle.served.specs.Served.{given_in, returned_in, loads_dr, reads_dr, ServesEach}
use Rattle.served.proofs.DrCalls.{calls_leave, given_one, returned_one}

-- a search leaves DRQ off
pub silent_drq : (drq : Bool) (deed : Deed) → Silent deed → drq ≡ false → drq_after drq deed ≡ false
unfolding drq_after effect_of
silent_drq drq deed nothing off = off
silent_drq drq deed (matched bad) off = off
silent_drq drq deed lost off = off

module _ (h : Host) (d : Desk) (n : ℕ) (valid : Valid d.machine) (alone : AloneUntil h d n) where
  -- ---- through loads

  module _ (serves : ServesEach loads_dr reads_dr h d n) where
    -- each is in DR as the byte time begins
    pub given_collected :
        (k : ℕ)
        → k ≤ n
        → given_in h k
        ≡ collected (λ i. (at h d i).machine.wires.drq) (λ i. (served_at h i (at h d i)).machine.regs.dr) k
    unfolding given_in collected served_at
    given_collected zero l = refl
    given_collected (suc k) l =
        ap₂ ◌++◌ (given_collected k (omega arith))
        (given_one (at h d k).machine (h.calls k) (stays_valid h d valid k) (alone k (omega arith))
        (serves.on k (omega arith)) (serves.off k (omega arith)))

    -- where DRQ is off DR stays
    pub given_stays :
        (k : ℕ)
        → k < n
        → (at h d k).machine.wires.drq ≡ false
        → (served_at h k (at h d k)).machine.regs.dr ≡ (at h d k).machine.regs.dr
    unfolding served_at
    given_stays k l off = (calls_leave (at h d k).machine (h.calls k) (alone k l) (serves.on k l) off).dr

  -- ---- through reads

  -- each is in DR as the byte time before has passed
  pub returned_collected :
      ServesEach reads_dr loads_dr h d n
      → (k : ℕ)
      → k ≤ n
      → returned_in h d k ≡ collected (λ i. (at h d i).machine.wires.drq) (λ i. (at h d i).machine.regs.dr) k
  unfolding returned_in collected served_at
  returned_collected serves zero l = refl
  returned_collected serves (suc k) l =
      ap₂ ◌++◌ (returned_collected serves k (omega arith))
      (returned_one (at h d k).machine (h.calls k) (stays_valid h d valid k) (alone k (omega arith))
      (serves.on k (omega arith)) (serves.off k (omega arith)))

-- DRQ under a host: what a byte time finds of it, and since when it has been on. Assumes nothing.
use mathlib.Core.Path.{◌≡◌, refl, sym, ◌∙◌}
use mathlib.Core.Bool.{Bool, true, ◌&&◌, ◌||◌}
use mathlib.Core.Logic.{◌⊎◌, inl, inr}
use Prim.Native.Nat.{ℕ, zero, suc, ◌≤◌, ◌<◌}
use native.Mathlib.Decide.{dec_lt}
use native.Mathlib.Omega.{arith}
use Rattle.common.proofs.Cases.{both}
use Rattle.activity.specs.declared.Deed.{Deed}
use Rattle.activity.specs.declared.Deed.TheVariants.{Nothing, Deliver, Named, Matched, NotFound, Record, Written, Ask, Late, Take, Step, Halt}
use Rattle.effects.specs.Effects.{effect_of, delivered, address_named, record_over, record_read, cell_taken, stepped, halted}
use Rattle.effects.proofs.Apart.{drq_after}
use Rattle.reachable.proofs.Valid.{Valid}
use Rattle.hosts.specs.Hosts.{Host, Desk, served_at, at, AloneUntil}
use Rattle.hosts.specs.Bytes.{deed_at, hands}
use Rattle.hosts.proofs.Views.{stays_valid}
use Rattle.hosts.proofs.ByteTimes.{next_drq}
use Rattle.lost_data.specs.LostData.{none_on_dr, asks_byte}
use Rattle.lost_data.proofs.DrCalls.{calls_drq}

-- the deed turns DRQ on, with a byte for the host or asking for one
abbrev pub raises : Deed → Bool
raises deed = hands deed || asks_byte deed

-- where DRQ is on after a deed it has turned it on, or left it
raised_or_left : (drq : Bool) (deed : Deed) → drq_after drq deed ≡ true → (raises deed ≡ true) ⊎ (drq ≡ true)
unfolding hands asks_byte drq_after effect_of delivered address_named record_over record_read cell_taken stepped halted
raised_or_left drq Nothing e = inr e
raised_or_left drq (Deliver b) e = inl refl
raised_or_left drq (Named b track bad) e = inl refl
raised_or_left drq (Matched bad) e = inr e
raised_or_left drq NotFound e = inr e
raised_or_left drq (Record deleted bad follows) e = inr e
raised_or_left drq (Written follows) e = inr e
raised_or_left drq (Ask on) e = inl e
raised_or_left drq Late e = inr e
raised_or_left drq (Take on) e = inl e
raised_or_left drq (Step inward track) e = inr e
raised_or_left drq (Halt rule load) e = inr e

-- as k byte times have passed, and as byte time k finds it
abbrev pub drq_at : Host → Desk → ℕ → Bool
drq_at h d k = (at h d k).machine.wires.drq

abbrev pub drq_found : Host → Desk → ℕ → Bool
drq_found h d k = (served_at h k (at h d k)).machine.wires.drq

-- on since then, up to byte time k
pub record Since (h : Host) (d : Desk) (k : ℕ) : Type 0 where
  pub since : ℕ
  pub before : since ≤ k
  pub on : drq_at h d since ≡ true
  pub raised : (j : ℕ) → since ≡ suc j → raises (deed_at h d j) ≡ true
  pub unserved : (i : ℕ) → since ≤ i → i ≤ k → none_on_dr (h.calls i) ≡ true

module _ (h : Host) (d : Desk) where
  abbrev Quiet : ℕ → Type 0
  Quiet i = none_on_dr (h.calls i) ≡ true

  -- it came on just before the calls of byte time k
  fresh : (k : ℕ) → drq_at h d k ≡ true → Quiet k → ((j : ℕ) → k ≡ suc j → raises (deed_at h d j) ≡ true) → Since h d k
  fresh k on quiet raised =
      record {
        since = k;
        before = omega arith;
        on = on;
        raised = raised;
        unserved = λ i l m. let e : k ≡ i = omega arith in rw e at quiet;
      }

  -- or was on in the byte time before
  older : (k : ℕ) → Since h d k → Quiet (suc k) → Since h d (suc k)
  older k s quiet =
      record {
        since = s.since;
        before = omega (arith, s.before);
        on = s.on;
        raised = s.raised;
        unserved = λ i l m. by i l m (dec_lt i (suc k));
      }
    where
      by : (i : ℕ) → s.since ≤ i → i ≤ suc k → Dec (i < suc k) → Quiet i
      by i l m (yes g) = s.unserved i l (omega arith)
      by i l m (no g) = let e : suc k ≡ i = omega arith in rw e at quiet

  module _ (n : ℕ) (alone : AloneUntil h d n) (valid : Valid d.machine) where
    found_drq : (k : ℕ) → k < n → drq_found h d k ≡ (drq_at h d k && none_on_dr (h.calls k))
    unfolding served_at
    found_drq k l = calls_drq (at h d k).machine (h.calls k) (stays_valid h d valid k) (alone k l)

    -- a byte time finds DRQ on where it was on and none of the calls before it is of DR
    pub finds_on : (k : ℕ) → k < n → drq_at h d k ≡ true → Quiet k → drq_found h d k ≡ true
    finds_on k l on quiet = found_drq k l ∙ simp (on, quiet)

    found_on : (k : ℕ) → k < n → drq_found h d k ≡ true → (drq_at h d k ≡ true) × Quiet k
    found_on k l on = both (drq_at h d k) (none_on_dr (h.calls k)) (sym (found_drq k l) ∙ on)

    pub drq_since : (k : ℕ) → k < n → drq_found h d k ≡ true → Since h d k
    drq_since zero l on =
        let (first, quiet) = found_on zero l on in
        fresh zero first quiet (λ j e. absurd (omega (arith, e)))
    drq_since (suc k) l on =
        by (drq_since k (omega arith))
        (raised_or_left (drq_found h d k) (deed_at h d k) (sym (next_drq h d k) ∙ (found_on (suc k) l on).0))
      where
        by :
            (drq_found h d k ≡ true → Since h d k)
            → (raises (deed_at h d k) ≡ true) ⊎ (drq_found h d k ≡ true)
            → Since h d (suc k)
        by before (inl raised) =
            let (first, quiet) = found_on (suc k) l on in
            fresh (suc k) first quiet (λ j e. let f : k ≡ j = omega (arith, e) in rw f at raised)
        by before (inr still) = older k (before still) (found_on (suc k) l on).1

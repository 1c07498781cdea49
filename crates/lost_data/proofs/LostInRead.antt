-- In a read Lost Data is on exactly when some byte was delivered while the one before it had not been taken. Assumes nothing.
use mathlib.Core.Path.{◌≡◌, refl, sym, ap, ◌∙◌}
use mathlib.Core.Bool.{Bool, true, false, true≢false, not, ◌&&◌, ◌||◌, or-false, or-true}
use mathlib.Core.Logic.{◌⊎◌, inl, inr, ◌↔◌}
use Prim.Native.Nat.{ℕ, zero, suc, ◌+◌, ◌-◌, ◌≤◌, ◌<◌}
use native.Mathlib.Nat.{add-zero, add-suc}
use native.Mathlib.Omega.{arith}
use Rattle.common.proofs.Cases.{both}
use Rattle.command.specs.Commands.{class_of}
use Rattle.command.specs.declared.Command.{Command}
use Rattle.command.specs.declared.Class.TheVariants.{Works}
use Rattle.activity.specs.declared.Deed.{Deed}
use Rattle.registers.specs.declared.Flags.{Flags}
use Rattle.registers.specs.declared.Lines.{Lines}
use Rattle.accepting.specs.Accepting.{ends_at_once, asks_first}
use Rattle.effects.specs.Effects.{effect_of, delivered, address_named, record_over, record_read}
use Rattle.effects.proofs.Apart.{drq_after, flags_after}
use Rattle.hosts.specs.Hosts.{Host, Desk, at}
use Rattle.hosts.specs.Scenes.{Scene, loaded}
use Rattle.hosts.specs.Bytes.{deed_at, hands}
use Rattle.hosts.proofs.ByteTimes.{next_drq, next_flags}
use Rattle.hosts.proofs.ReadDeeds.{or_true_of}
use Rattle.lost_data.specs.LostData.{lost_data, asks_byte, ReadCommand, read_sector, read_address, AcceptedAlone, ByteLost}
use Rattle.lost_data.proofs.Begun.{first_drq, first_valid}
use Rattle.lost_data.proofs.Exactly.{lost_at, lost_exactly}
use Rattle.lost_data.proofs.Since.{raises, drq_at, drq_found, Since, finds_on, drq_since}
use Rattle.lost_data.proofs.ReadCourse.{ReadDeed, nothing, delivers, names, matches, fails, records}
use Rattle.lost_data.proofs.ReadTurns.{reads_works, read_deed}

-- ---- its deeds

-- "Each data byte .. goes to DR and sets DRQ; if DRQ was still on, Lost Data.": no other deed of a read does either
drq_in_read : {deed : Deed} (drq : Bool) → ReadDeed deed → drq_after drq deed ≡ (hands deed || drq)
unfolding hands drq_after effect_of delivered address_named record_over record_read
drq_in_read drq nothing = refl
drq_in_read drq delivers = refl
drq_in_read drq names = refl
drq_in_read drq matches = refl
drq_in_read drq fails = refl
drq_in_read drq records = refl

lost_in_read :
    {deed : Deed} (f : Flags) (drq : Bool) → ReadDeed deed → (flags_after f drq deed).lost ≡ (f.lost || (hands deed && drq))
unfolding hands flags_after effect_of delivered address_named record_over record_read
lost_in_read f drq nothing = sym (or-false f.lost)
lost_in_read f drq delivers = refl
lost_in_read f drq names = refl
lost_in_read f drq matches = sym (or-false f.lost)
lost_in_read f drq fails = sym (or-false f.lost)
lost_in_read f drq records = sym (or-false f.lost)

asks_none : {deed : Deed} → ReadDeed deed → asks_byte deed ≡ false
unfolding asks_byte
asks_none nothing = refl
asks_none delivers = refl
asks_none names = refl
asks_none matches = refl
asks_none fails = refl
asks_none records = refl

-- "clears .. DRQ": no read asks for a byte at its acceptance
asks_later : {command : Command} (ends : Bool) → ReadCommand command → (asks_first command && ends) ≡ false
unfolding asks_first
asks_later ends read_sector = refl
asks_later ends read_address = refl

module _ {s : Scene} {command : Command} {n : ℕ} (read : ReadCommand command) (g : AcceptedAlone s command n) where
  abbrev h : Host
  h = s.host

  abbrev d : Desk
  d = loaded s

  works : class_of command ≡ Works
  works = reads_works read

  lost_next : (k : ℕ) → k < n → lost_at s (suc k) ≡ (lost_at s k || (hands (deed_at h d k) && drq_found h d k))
  lost_next k l =
      ap (λ (f : Flags). f.lost) (next_flags h d k (g.alone k l))
      ∙ lost_in_read (at h d k).machine.flags (drq_found h d k) (read_deed read g k l)

  -- ---- where it is on, a byte was lost

  -- DRQ is on since a byte was handed over, as the load has left it off
  late_byte : (k : ℕ) → k < n → hands (deed_at h d k) ≡ true → Since h d k → ByteLost h d k
  unfolding at
  late_byte k l hand x = from x.since refl
    where
      handed_first : (j : ℕ) → j < n → (raises (deed_at h d j) ≡ true) → hands (deed_at h d j) ≡ true
      handed_first j m raised = by (or_true_of (hands (deed_at h d j)) (asks_byte (deed_at h d j)) raised)
        where
          by : (hands (deed_at h d j) ≡ true) ⊎ (asks_byte (deed_at h d j) ≡ true) → hands (deed_at h d j) ≡ true
          by (inl handed) = handed
          by (inr asks) = absurd (true≢false (sym asks ∙ asks_none (read_deed read g j m)))

      from : (b : ℕ) → x.since ≡ b → ByteLost h d k
      from zero e =
          absurd
          (true≢false
          (sym x.on ∙ ap (drq_at h d) e ∙ first_drq works g ∙ asks_later (not (ends_at_once command s.lines)) read))
      from (suc j) e =
          record {
            j = j;
            before = omega (arith, e, x.before);
            first = handed_first j (omega (arith, e, x.before)) (x.raised j e);
            second = hand;
            untaken = λ i least most. x.unserved i (omega (arith, e)) (omega arith);
          }

  only : (k : ℕ) → k < n → lost_at s (suc k) ≡ true → (lost_at s k ≡ true) ⊎ ByteLost h d k
  only k l on = by (or_true_of (lost_at s k) (hands (deed_at h d k) && drq_found h d k) (sym (lost_next k l) ∙ on))
    where
      by :
          (lost_at s k ≡ true) ⊎ ((hands (deed_at h d k) && drq_found h d k) ≡ true)
          → (lost_at s k ≡ true) ⊎ ByteLost h d k
      by (inl was) = inl was
      by (inr now) =
          let (hand, still) = both (hands (deed_at h d k)) (drq_found h d k) now in
          inr (late_byte k l hand (drq_since h d n g.alone (first_valid works g) k l still))

  -- ---- where a byte was lost, it is on

  module _ (k : ℕ) (l : k < n) (x : ByteLost h d k) where
    -- DRQ is on from the first of the two on
    stays_on : (m : ℕ) → suc x.j + m ≤ k → drq_at h d (suc x.j + m) ≡ true
    stays_on zero most =
        rw (add-zero (suc x.j))
        (next_drq h d x.j ∙ drq_in_read (drq_found h d x.j) (read_deed read g x.j (omega arith)) ∙ simp x.first)
    stays_on (suc m) most =
        let t : ℕ = suc x.j + m in
        let still = finds_on h d n g.alone (first_valid works g) t (omega arith) (stays_on m (omega arith))
        (x.untaken t (omega arith) (omega arith)) in
        rw (add-suc (suc x.j) m)
        (next_drq h d t
        ∙ drq_in_read (drq_found h d t) (read_deed read g t (omega arith))
        ∙ rw still (or-true (hands (deed_at h d t))))

    lost_then : lost_at s (suc k) ≡ true
    lost_then =
        let e : suc x.j + (k - suc x.j) ≡ k = omega (arith, x.before) in
        let on : drq_at h d k ≡ true = rw e at (stays_on (k - suc x.j) (omega (arith, x.before))) in
        let still = finds_on h d n g.alone (first_valid works g) k l on (x.untaken k x.before (omega arith)) in
        lost_next k l ∙ simp (x.second, still, or-true)

  -- "if DRQ was still on, Lost Data": as n byte times have passed, at the end of the read or at any other time
  pub lost_in_a_read : (l : Lines) → (lost_data (at h d n).machine l ≡ true) ↔ ((k : ℕ) × (k < n) × ByteLost h d k)
  lost_in_a_read = lost_exactly works g (ByteLost h d) only lost_then

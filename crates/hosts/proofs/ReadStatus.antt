-- The status bits that a single Read Sector leaves that has met a data field with a good CRC. Assumes nothing.
use mathlib.Core.Path.{◌≡◌, refl, sym, ap, ◌∙◌}
use mathlib.Core.Bool.{Bool, true, false, true≢false, not}
use mathlib.Core.Logic.{◌⊎◌, inl, inr}
use Prim.Native.Nat.{ℕ, zero, suc, ◌+◌, ◌≤◌, ◌<◌}
use native.Mathlib.Decide.{dec_lt}
use native.Mathlib.Omega.{arith}
use Rattle.scan.specs.DataMarks.{is_deleted}
use Rattle.command.specs.declared.Command.TheVariants.{ReadSector}
use Rattle.activity.specs.declared.Deed.{Deed}
use Rattle.registers.specs.declared.Flags.{Flags}
use Rattle.registers.specs.declared.Lines.{Lines}
use Rattle.registers.specs.Status.{bit_for}
use Rattle.accepting.specs.Accepting.{held_by, writes}
use Rattle.effects.proofs.Apart.{flags_after}
use Rattle.wd.specs.Reads.{status_of}
use Rattle.hosts.specs.Hosts.{Host, Desk, served_at, at}
use Rattle.hosts.specs.Scenes.{Scene, loaded}
use Rattle.hosts.specs.Bytes.{deed_at, hands, LateAt}
use Rattle.hosts.proofs.ByteTimes.{next_flags, kind_later}
use Rattle.hosts.proofs.Accepted.{flags_given, given_flags}
use Rattle.hosts.proofs.Silent.{Silent}
use Rattle.hosts.proofs.ReadDeeds.{Moves, lost_by, status_is}
use Rattle.hosts.proofs.ReadThrough.{Meets, size, start, from, over, no_missing, no_crc, recorded, moves, silent, calm}
use Rattle.effects.specs.Effects.{effect_of, delivered, address_named, record_over, record_read, cell_taken, stepped, halted}

module _ {s : Scene} {n : ℕ} (r : Meets s n) where
  abbrev h : Host
  h = s.host

  abbrev d : Desk
  d = loaded s

  abbrev doing : ℕ → Deed
  doing i = deed_at h d i

  -- the byte times up to the ID's last cell, and up to the second CRC cell
  abbrev first : ℕ
  first = start r

  abbrev last : ℕ
  last = suc (from r + size r)

  abbrev flags_at : ℕ → Flags
  flags_at i = (at h d i).machine.flags

  steps :
      (i : ℕ)
      → i < n
      → flags_at (suc i) ≡ flags_after (flags_at i) (served_at h i (at h d i)).machine.wires.drq (doing i)
  steps i l = next_flags h d i (calm r i l).quiet

  begun_flags : (loaded s).machine.flags ≡ flags_given (held_by ReadSector s.lines)
  begun_flags = given_flags s ReadSector r.reads.given.decodes r.reads.given.works r.reads.given.accepted

  -- Lost Data has a cause
  lost_cause : (i : ℕ) → i ≤ n → (flags_at i).lost ≡ true → (k : ℕ) × (k < i) × LateAt h d k
  unfolding at
  lost_cause zero l e = absurd (true≢false (sym e ∙ ap (λ (f : Flags). f.lost) begun_flags))
  lost_cause (suc i) l e = by (lost_cause i (omega arith)) (lost_by (flags_at i) drq (doing i) (sort (dec_lt i first)) on)
    where
      drq : Bool
      drq = (served_at h i (at h d i)).machine.wires.drq

      on : (flags_after (flags_at i) drq (doing i)).lost ≡ true
      on = ap (λ (f : Flags). f.lost) (sym (steps i (omega arith))) ∙ e

      sort : Dec (i < first) → Silent (doing i) ⊎ Moves (doing i)
      sort (yes g) = inl (silent r i g)
      sort (no g) = inr (moves r i (omega arith) (omega arith))

      by :
          ((flags_at i).lost ≡ true → (k : ℕ) × (k < i) × LateAt h d k)
          → ((flags_at i).lost ≡ true) ⊎ ((hands (doing i) ≡ true) × (drq ≡ true))
          → (k : ℕ) × (k < suc i) × LateAt h d k
      by before (inl was) = let (k, g, late) = before was in (k, omega arith, late)
      by before (inr (hand, still)) = (i, omega arith, record { hand = hand; still = still })

  pub late_only : (at h d n).machine.flags.lost ≡ true → (k : ℕ) × (k < n) × LateAt h d k
  late_only = lost_cause n (omega arith)

  -- "bit 5 on if F8, else off", by what the mark counts as
  pub told_mark : (at h d n).machine.flags.deleted ≡ is_deleted r.mark
  unfolding flags_after effect_of delivered address_named record_over record_read cell_taken stepped halted
  told_mark =
      let e : suc last ≡ n = omega (arith, over r) in
      ap (λ (i : ℕ). (flags_at i).deleted) (sym e)
      ∙ ap (λ (f : Flags). f.deleted)
      (steps last (omega (arith, over r)) ∙ ap (flags_after _ _) (recorded r last refl))

  pub type_two : (at h d n).machine.flags.type1 ≡ false
  type_two = (kind_later h d n r.reads.alone).1 ∙ ap (λ (f : Flags). f.type1) begun_flags

  pub unprotected : (at h d n).machine.flags.protected ≡ false
  unfolding held_by writes
  unprotected = (kind_later h d n r.reads.alone).0 ∙ ap (λ (f : Flags). f.protected) begun_flags

  -- the status byte, under any lines
  pub told :
      (l : Lines)
      → (status_of (at h d n).machine l).byte
      ≡ bit_for (not l.ready) 0x80
      + bit_for (is_deleted r.mark) 0x20
      + bit_for (at h d n).machine.flags.lost 0x04
      + bit_for (at h d n).machine.wires.drq 0x02
  told l =
      status_is (at h d n).machine l (is_deleted r.mark) r.reads.ends.over type_two unprotected (no_missing r)
      (no_crc r) told_mark

-- A host that serves each DRQ of a Read Sector: the bytes that its reads of DR return are those that the command hands over.
-- Assumes nothing.
use mathlib.Core.Path.{◌≡◌, refl, sym, ap, ◌∙◌}
use mathlib.Core.Bool.{Bool, true, false, cond, true≢false}
use mathlib.Core.List.{[], ◌∷◌, ◌++◌, append-nil}
use mathlib.Core.Logic.{◌⊎◌, inl, inr}
use Prim.Native.Nat.{ℕ, suc, ◌-◌, ◌<◌}
use native.Mathlib.Nat.{zero-add}
use native.Mathlib.Decide.{dec_lt}
use native.Mathlib.Omega.{arith}
use Rattle.command.specs.declared.Command.TheVariants.{ReadSector}
use Rattle.activity.specs.declared.Deed.{Deed}
use Rattle.accepting.specs.Accepting.{asks_first}
use Rattle.effects.specs.Effects.{effect_of, delivered, record_over, record_read}
use Rattle.effects.proofs.Apart.{drq_after}
use Rattle.reachable.proofs.Valid.{Valid, load_valid}
use Rattle.hosts.specs.Hosts.{Host, Desk, served_at, at}
use Rattle.hosts.specs.Scenes.{Scene, loaded}
use Rattle.hosts.specs.Bytes.{deed_at, hands, collected, handed}
use Rattle.hosts.proofs.Accepted.{given_drq}
use Rattle.hosts.proofs.ByteTimes.{next_drq}
use Rattle.hosts.proofs.Working.{given_valid}
use Rattle.hosts.proofs.Silent.{Silent}
use Rattle.hosts.proofs.Collected.{collected_later, collected_same}
use Rattle.hosts.proofs.ReadDeeds.{Moves, waits, delivers, records, silent_hands}
use Rattle.hosts.proofs.ReadStatus.{late_only}
use Rattle.hosts.proofs.ReadThrough.{Meets, start, over, moves, silent, stretch}
use Rattle.served.specs.Served.{returned_in, loads_dr, reads_dr, ServesEach}
use Rattle.served.proofs.Serving.{silent_drq, returned_collected}

-- DRQ comes on with a byte handed over, and with nothing else that a Read Sector does
hands_drq : (drq : Bool) (deed : Deed) → Silent deed ⊎ Moves deed → drq ≡ false → drq_after drq deed ≡ hands deed
unfolding drq_after effect_of delivered record_over record_read hands
hands_drq drq deed (inl silent) off = silent_drq drq deed silent off ∙ sym (silent_hands deed silent)
hands_drq drq deed (inr waits) off = off
hands_drq drq deed (inr delivers) off = refl
hands_drq drq deed (inr records) off = off

module _ {s : Scene} {n : ℕ} (r : Meets s n) where
  abbrev h : Host
  h = s.host

  abbrev d : Desk
  d = loaded s

  -- DRQ and DR as i byte times have passed, and whether byte time i hands a byte over
  abbrev drq : ℕ → Bool
  drq i = (at h d i).machine.wires.drq

  abbrev dr : ℕ → ℕ
  dr i = (at h d i).machine.regs.dr

  abbrev handing : ℕ → Bool
  handing i = hands (deed_at h d i)

  pub reader_valid : Valid (loaded s).machine
  reader_valid = load_valid s.machine s.lines 0 s.byte (given_valid r.reads.given)

  drq_first : drq 0 ≡ false
  unfolding at asks_first
  drq_first =
      given_drq s ReadSector r.reads.given.decodes r.reads.given.works r.reads.given.accepted refl

  -- the second CRC cell's byte time hands nothing over
  abbrev last : ℕ
  last = n - 1

  last_is : suc last ≡ n
  last_is = omega (arith, over r)

  last_none : handing last ≡ false
  last_none = (stretch r).behind last (omega (arith, over r)) (omega (arith, over r))

  module _ (serves : ServesEach reads_dr loads_dr s.host (loaded s) n) where
    drq_after_lem : (i : ℕ) → i < n → drq (suc i) ≡ handing i
    drq_after_lem i l =
        next_drq h d i
        ∙ hands_drq (served_at h i (at h d i)).machine.wires.drq (deed_at h d i) (sort (dec_lt i (start r))) (serves.off i l)
      where
        sort : Dec (i < start r) → Silent (deed_at h d i) ⊎ Moves (deed_at h d i)
        sort (yes g) = inl (silent r i g)
        sort (no g) = inr (moves r i (omega arith) l)

    -- the byte that a byte time hands over is read before the next
    pub returned_handed : returned_in s.host (loaded s) n ≡ handed s.host (loaded s) n
    unfolding collected
    returned_handed =
        returned_collected h d n reader_valid r.reads.alone serves n (omega arith)
        ∙ ap (collected drq dr) (sym last_is)
        ∙ collected_later drq dr last drq_first
        ∙ (rw (zero-add last) at
        (collected_same (λ i. drq (suc i)) handing (λ i. dr (suc i)) 0 last refl
        (λ i l g. drq_after_lem i (omega (arith, last_is)))))
        ∙ sym (append-nil (handed h d last))
        ∙ ap (λ (count : Bool). handed h d last ++ cond count (dr (suc last) ∷ []) []) (sym last_none)
        ∙ ap (handed h d) last_is

    -- "if DRQ was still on, Lost Data": it was on in no byte time
    pub none_lost : (at s.host (loaded s) n).machine.flags.lost ≡ false
    none_lost = by (at h d n).machine.flags.lost refl
      where
        by : (lost : Bool)
            → (at h d n).machine.flags.lost ≡ lost
            → (at h d n).machine.flags.lost ≡ false
        by false e = e
        by true e = let (i, l, late) = late_only r e in absurd (true≢false (sym late.still ∙ serves.off i l))

    -- the last byte is read before the end
    pub none_left : (at s.host (loaded s) n).machine.wires.drq ≡ false
    none_left = (rw last_is at (drq_after_lem last (omega (arith, last_is)))) ∙ last_none

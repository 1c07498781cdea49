-- Request b, "A bad data CRC ends a multiple read", as one theorem over the definitions of the crate `wd`: for every machine, every
-- host, every track and every start. Assumes nothing.
use mathlib.Core.Path.{◌≡◌, refl, sym, ap, ◌∙◌}
use mathlib.Core.Bool.{Bool, true, false, true≢false}
use mathlib.Core.Logic.{◌⊎◌, inl, inr}
use Prim.Native.Nat.{ℕ}
use Rattle.scan.specs.DataMarks.{is_deleted}
use Rattle.scan.specs.declared.DataMark.{DataMark}
use Rattle.registers.specs.declared.Lines.{Lines}
use Rattle.registers.specs.declared.Flags.{Flags}
use Rattle.reachable.proofs.StatusBits.{status_four, status_crc, status_deleted}
use Rattle.hosts.specs.Hosts.{at}
use Rattle.hosts.specs.Scenes.{Scene, crc_error, not_found}
use Rattle.hosts.proofs.Unready.{unready_over}
use Rattle.multiple.specs.Multiple.{EndedMultiple, EndedReadSector, end_of, ShowsBroken, AtBroken, AtMissing, MultipleEnds, StandsAtBroken}
use Rattle.multiple.proofs.Searches.{bad_bit}
use Rattle.multiple.proofs.Ended.{valid, begun_flags, type_two, How, stopped, missed, its, deleted_since, last}

module _ {s : Scene} {n : ℕ} (e : EndedMultiple s n) where
  abbrev pub as_read : EndedReadSector s n
  as_read = record { reads = e.is.reads; accepted = e.is.accepted; alone = e.alone; ends = e.ends }

  pub shows_broken :
      (mark : DataMark)
      → (end_of s n).flags.crc ≡ true
      → (end_of s n).flags.missing ≡ false
      → (end_of s n).flags.deleted ≡ is_deleted mark
      → ShowsBroken s n mark
  shows_broken mark crc missing deleted =
      record {
        crc = λ l. status_crc (end_of s n) l (valid as_read) ∙ crc;
        found = λ l. status_four (end_of s n) l (valid as_read) ∙ missing;
        deleted = λ l. status_deleted (end_of s n) l (valid as_read) (type_two as_read) ∙ deleted;
      }

  -- accepted with the drive not ready, it has ended at once
  at_once : s.lines.ready ≡ false → (end_of s n).flags.crc ≡ false
  unfolding at
  at_once unready =
      ap (λ (k : ℕ). (end_of s k).flags.crc) (unready_over s e.is.reads e.is.accepted unready n e.ends)
      ∙ ap (λ (f : Flags). f.crc) (begun_flags as_read)

  -- accepted with the drive ready, it ends at the first bad record, or with Record Not Found where every record was good
  pub multiple_ends : s.lines.ready ≡ true → MultipleEnds s n
  multiple_ends ready = (last as_read ready, verdict (its as_read ready).how)
    where
      verdict :
          How as_read ready (end_of s n).regs.sr (its as_read ready).since → AtBroken s n (last as_read ready) ⊎ AtMissing s n (last as_read ready)
      verdict (stopped r bad over crc missing deleted drq) =
          let broken = bad e.is.multiple in
          inl
          (record {
            broken = r;
            bad = broken;
            ends = over;
            shows = shows_broken r.mark (crc ∙ bad_bit r broken) missing deleted;
            drq = drq;
          })
      verdict (missed nothing missing deleted) =
          inr
          (record {
            no_record = nothing;
            missing = λ l. status_four (end_of s n) l (valid as_read) ∙ missing;
            deleted = λ l.
                status_deleted (end_of s n) l (valid as_read) (type_two as_read) ∙ deleted ∙ deleted_since as_read ready;
          })

  -- "a multiple read that has ended with bit 3 on and bit 4 off stands at the first record whose CRC was bad, and every record
  -- before it was good": ready or not, since one that was not ready ended at once, with bit 3 off
  pub stands_at_broken :
      (l l' : Lines)
      → crc_error (end_of s n) l ≡ true
      → not_found (end_of s n) l' ≡ false
      → StandsAtBroken s n
  stands_at_broken l l' crc found = by s.lines.ready refl
    where
      told : MultipleEnds s n → StandsAtBroken s n
      told (p, inl at_broken) = (p, at_broken)
      told (p, inr at_missing) = absurd (true≢false (sym (at_missing.missing l') ∙ found))

      by : (ready : Bool) → s.lines.ready ≡ ready → StandsAtBroken s n
      by true ready = told (multiple_ends ready)
      by false unready = absurd (true≢false (sym crc ∙ status_crc (end_of s n) l (valid as_read) ∙ at_once unready))

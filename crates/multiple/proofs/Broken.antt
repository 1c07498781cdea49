-- A multiple read that comes to a bad record ends there, under every host. Assumes nothing.
use mathlib.Core.Path.{◌≡◌, refl, ap, ◌∙◌, subst}
use mathlib.Core.Bool.{true, false}
use Prim.Native.Nat.{ℕ, ◌+◌, ◌%◌, ◌≤◌, ◌<◌}
use native.Mathlib.Decide.{dec_lt}
use native.Mathlib.Omega.{arith}
use Rattle.scan.specs.DataMarks.{is_deleted}
use Rattle.command.specs.Bits.{is_multiple}
use Rattle.command.specs.Commands.{class_of}
use Rattle.command.specs.declared.Command.TheVariants.{ReadSector}
use Rattle.activity.specs.Limits.{busy_in}
use Rattle.activity.specs.declared.Activity.TheVariants.{Settle}
use Rattle.accepting.specs.Accepting.{held_by, writes}
use Rattle.hosts.specs.Hosts.{EndsAt}
use Rattle.hosts.specs.Scenes.{Scene, loaded}
use Rattle.hosts.proofs.Courses.{Lasts}
use Rattle.hosts.proofs.Found.{two_begins, two_enters}
use Rattle.hosts.proofs.LowRows.{LowRow}
use Rattle.hosts.proofs.Searching.{reads_two}
use Rattle.hosts.proofs.Seeking.{Entry}
use Rattle.hosts.proofs.Views.{View}
use Rattle.hosts.proofs.Working.{TakenUp, Working, low_working_lem, course_of, Heads, begins, waits_lasts}
use Rattle.multiple.specs.Multiple.{EndedMultiple, end_of, RecordFrom, GoodCrc, passed_by, GoodRecords, none, more, MultiplePremises, BrokenEnds}
use Rattle.multiple.proofs.Searches.{Begins, LastsUntil, Comes, goes_on, stops, lost, searched, bad_bit}
use Rattle.multiple.proofs.Ended.{raised}
use Rattle.multiple.proofs.Multiple.{as_read, shows_broken}
use Rattle.multiple.proofs.OneRecord.{same_marks, one_end, good_both, no_other}

-- ---- from a search on

module _ {s : Scene} (w : Working LowRow s ReadSector) (multiple : is_multiple s.byte ≡ true) where
  -- it is Busy up to the bad record's last cell, and idle then
  record Over (t : ℕ) {sector since : ℕ} (r : RecordFrom s sector since) : Type 0 where
    lasting : LastsUntil w t (passed_by r)
    over : busy_in (end_of s (passed_by r)).activity ≡ false
    sr : (end_of s (passed_by r)).regs.sr ≡ sector
    crc : (end_of s (passed_by r)).flags.crc ≡ true
    found : (end_of s (passed_by r)).flags.missing ≡ false
    deleted : (end_of s (passed_by r)).flags.deleted ≡ is_deleted r.mark

  comes_over : {sector t next since : ℕ}
      → GoodRecords s sector t next since
      → Begins w sector t
      → (r : RecordFrom s next since)
      → (GoodCrc r → ⊥)
      → Over t r
  unfolding busy_in
  comes_over {sector} {t} none b r bad = by (searched w sector t b)
    where
      by : Comes w sector t → Over t r
      by (goes_on r' multiple good lasting deleted next) = absurd (bad (good_both r' r good))
      by (stops r' worse lasting k last_cell here crc deleted drq) =
          let there : t + k ≡ passed_by r = last_cell ∙ one_end r' r in
          record {
            lasting = λ i l h. lasting i l (omega (arith, one_end r' r));
            over = rw there at (ap (λ (v : View). busy_in v.activity) here.view);
            sr = rw there at (ap (λ (v : View). v.sr) here.view);
            crc = (rw there at crc) ∙ bad_bit r' (worse multiple);
            found = rw there at (ap (λ (v : View). v.missing) here.view);
            deleted = (rw there at deleted) ∙ ap is_deleted (same_marks r' r).1;
          }
      by (lost k nothing here deleted) = absurd (no_other nothing r)
  comes_over {sector} {t} (more it good rest) b r bad = by (λ next. comes_over rest next r bad) (searched w sector t b)
    where
      by : (Begins w ((sector + 1) % 256) (passed_by it) → Over (passed_by it) r) → Comes w sector t → Over t r
      by on (goes_on it' multiple good' lasting deleted next) =
          let rest = on (subst (Begins w ((sector + 1) % 256)) (one_end it' it) next) in
          record {
            lasting = λ i l h. either i (dec_lt i (passed_by it)) l h rest.lasting;
            over = rest.over;
            sr = rest.sr;
            crc = rest.crc;
            found = rest.found;
            deleted = rest.deleted;
          }
        where
          either : (i : ℕ) → Dec (i < passed_by it) → t ≤ i → i < passed_by r → LastsUntil w (passed_by it) (passed_by r)
              → Lasts (course_of w) s.row i
          either i (yes m) l h later = lasting i l (omega (arith, one_end it' it))
          either i (no m) l h later = later i (omega arith) h
      by on (stops it' bad' lasting k last_cell here crc deleted drq) = absurd (bad' multiple (good_both it it' good))
      by on (lost k nothing here deleted) = absurd (no_other nothing it)

-- ---- from the load on

module _ (s : Scene) (asked : MultiplePremises s) where
  given : TakenUp s ReadSector
  unfolding class_of held_by writes
  given =
      record {
        decodes = asked.is.reads;
        works = refl;
        accepted = asked.is.accepted;
        stays = simp asked.ready;
      }

  abbrev working : Working LowRow s ReadSector
  working = low_working_lem given asked.alone asked.whole asked.low

  -- "A bad data CRC ends a multiple read."
  pub broken_ends : BrokenEnds s
  broken_ends begun sector since from good r bad =
      record {
        ends = ends;
        raised = raised (as_read ended);
        sr = over.sr;
        shows = shows_broken ended r.mark over.crc over.found over.deleted;
      }
    where
      heads : Heads working
      heads = record { begun = begun; settled = from.settled; hlt = from.hlt; off = from.off }

      over : Over working asked.is.multiple begun r
      over =
          comes_over working asked.is.multiple good
          (record {
            first = Settle 0;
            entry = Entry.settled from.hlt (two_begins working reads_two heads) (two_enters working reads_two heads);
            stands = begins working heads;
          })
          r bad

      ends : EndsAt s.host (loaded s) (passed_by r)
      ends = record { busy = λ k l. by k l (dec_lt k begun); over = over.over }
        where
          by : (k : ℕ) → k < passed_by r → Dec (k < begun) → busy_in (end_of s k).activity ≡ true
          by k l (yes h) = (waits_lasts working heads k h).busy
          by k l (no h) = (over.lasting k (omega arith) l).busy

      ended : EndedMultiple s (passed_by r)
      ended = record { is = asked.is; alone = λ k l. asked.alone k (ends.busy k l); ends = ends }

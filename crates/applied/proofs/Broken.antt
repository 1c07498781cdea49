-- Request b over a track with two records, from `demand_2` alone. Assumes nothing.
use mathlib.Core.Path.{◌≡◌, refl, sym, ap, ◌∙◌, subst}
use mathlib.Core.Bool.{true, false}
use mathlib.Core.Logic.{◌⊎◌, inl, inr}
use Prim.Native.Nat.{ℕ, ◌+◌, ◌%◌, ◌≤◌}
use native.Mathlib.Omega.{arith}
use lib.ListN.{length}
use Rattle.common.specs.Bits.{bit_of}
use Rattle.scan.specs.DataMarks.{is_deleted}
use Rattle.scan.specs.Rows.{length_within}
use Rattle.scan.specs.declared.DataMark.TheVariants.{F8}
use Rattle.command.specs.declared.Chip.{Chip}
use Rattle.registers.specs.declared.Lines.{Lines}
use Rattle.wd.specs.declared.Machine.{Machine}
use Rattle.wd.specs.Machines.{fresh_machine, power_on}
use Rattle.hosts.specs.Hosts.{Host, Desk}
use Rattle.hosts.specs.Scenes.{Scene}
use Rattle.hosts.proofs.LowRows.{LowRow, all_low, low_by}
use Rattle.multiple.specs.Multiple.{end_of, RecordFrom, GoodCrc, passed_by, GoodRecords, none, more, SearchesFrom, LastSearch, ShowsBroken, AtBroken, AtMissing, MultipleEnds, StandsAtBroken}
use Rattle.multiple.proofs.OneRecord.{same_marks, one_end, good_both, no_other}
use Rattle.witnesses.proofs.Multiples.{two_records, scene, first, second, mark_second, good_first, bad_second, one_good, over_first, over_second}
use Rattle.uses.specs.Uses.{Use, throughout, no_command, head_loaded, passed, host_of}
use Rattle.uses.specs.Multiples.{MultipleReadEnds, MultipleAsked}
use Rattle.uses.specs.Courses.{deleted_bit, not_found_bit, crc_error_bit, busy_bit, Shows, Accepted, since, Course, took, silent, scene_of, course_then, course_scene, MultipleRead}
use Rattle.uses.proofs.Heads.{HeadOn, use_on}
use Rattle.demands.proofs.Demand2.{demand_2}
use Rattle.applied.specs.Broken.{MultipleOver, AtSecond, Broken}
use Rattle.applied.proofs.Commands.{read_98}
use Rattle.applied.proofs.ReadSectors.{lit_by, begins_at_once, same_search, shows_there, showed_by}

-- ---- the records that such a command passes

module _ (chip : Chip) (l : Lines) (h : Host) (lit : HeadOn h) (n : ℕ) where
  abbrev s : Scene
  s = scene chip l h

  record Told : Type 0 where
    ends : n ≡ 276
    intrq : (end_of s n).wires.intrq ≡ true
    sr : (end_of s n).regs.sr ≡ 2
    shows : ShowsBroken s n F8

  -- after the first record comes the second search, and no third
  one_more : {sector t next u : ℕ} → GoodRecords s sector t next u → (sector ≡ 2) × (t ≡ 138) → (next ≡ 2) × (u ≡ 138)
  one_more none here = here
  one_more (more r good rest) here =
      absurd
      (same_search (λ (sector t : ℕ). (r : RecordFrom s sector t) → GoodCrc r → ⊥) here
      (λ r good. bad_second chip l h (good_both r (second chip l h) good)) r good)

  -- the first search, or the second
  abbrev OneOrTwo : ℕ → ℕ → Type 0
  OneOrTwo sector t = ((sector ≡ 1) × (t ≡ 0)) ⊎ ((sector ≡ 2) × (t ≡ 138))

  searches : {sector t next u : ℕ} → GoodRecords s sector t next u → (sector ≡ 1) × (t ≡ 0) → OneOrTwo next u
  searches none here = inl here
  searches (more r good rest) here =
      inr
      (one_more rest (
        ap (λ (sector : ℕ). (sector + 1) % 256) here.0,
        same_search (λ (sector t : ℕ). (r : RecordFrom s sector t) → passed_by r ≡ 138) here
            (λ r. one_end r (first chip l h) ∙ over_first chip l h) r,
      ))

  module _ (p : LastSearch s n) where
    -- the search that has ended the command is one of the two
    searched : OneOrTwo (end_of s n).regs.sr p.since
    unfolding bit_of power_on length_within fresh_machine
    searched = searches p.good (refl, begins_at_once s refl lit p.begun p.begins)

    broken_at : AtBroken s n p → OneOrTwo (end_of s n).regs.sr p.since → Told
    broken_at b (inl here) =
        absurd
        (same_search (λ (sector t : ℕ). (r : RecordFrom s sector t) → (GoodCrc r → ⊥) → ⊥) here
        (λ r bad. bad (good_both (first chip l h) r (good_first chip l h))) b.broken b.bad)
    broken_at b (inr here) =
        record {
          ends =
              b.ends
              ∙ same_search (λ (sector t : ℕ). (r : RecordFrom s sector t) → passed_by r ≡ 276) here
              (λ r. one_end r (second chip l h) ∙ over_second chip l h) b.broken;
          intrq = p.raised;
          sr = here.0;
          shows =
              same_search (λ (sector t : ℕ). (r : RecordFrom s sector t) → ShowsBroken s n r.mark → ShowsBroken s n F8) here
              (λ r. subst (ShowsBroken s n) ((same_marks r (second chip l h)).1 ∙ mark_second chip l h)) b.broken b.shows;
        }

    -- both are there
    missing_at : AtMissing s n p → OneOrTwo (end_of s n).regs.sr p.since → ⊥
    missing_at b (inl here) = no_other b.no_record (same_search (RecordFrom s) here (first chip l h))
    missing_at b (inr here) = no_other b.no_record (same_search (RecordFrom s) here (second chip l h))

    told : AtBroken s n p ⊎ AtMissing s n p → Told
    told (inl b) = broken_at b searched
    told (inr b) = absurd (missing_at b searched)

-- ---- in every use

reads_98 : (chip : Chip) (c : Accepted) → MultipleOver chip c → MultipleRead c.byte
reads_98 chip c is = subst MultipleRead (sym is.command) read_98

the_scene : (chip : Chip) (c : Accepted) → MultipleOver chip c → (h : Host) → scene_of c h ≡ scene chip c.lines h
the_scene chip c is h i = record { machine = is.machine i; lines = c.lines; byte = is.command i; row = is.row i; host = h }

module _ (chip : Chip) (c : Accepted) (e : Desk) (u : Use (since c) e) (is : MultipleOver chip c)
    (head : throughout head_loaded u ≡ true) (alone : throughout no_command u ≡ true) where
  abbrev while : Host
  while = host_of u silent

  asked : MultipleAsked c
  unfolding all_low power_on length_within fresh_machine
  asked =
      record {
        reads = reads_98 chip c is;
        ready = is.ready;
        whole = ap length is.row ∙ ap (λ (m : Machine). m.ring.length) (sym is.machine);
        low = subst LowRow (sym is.row) (low_by two_records refl);
      }

  -- a good record, then a bad one
  record Comes (s : Scene) : Type 0 where
    begins : SearchesFrom s 0
    good : GoodRecords s s.machine.regs.sr 0 2 138
    bad : RecordFrom s 2 138
    broken : GoodCrc bad → ⊥
    through : passed_by bad ≡ 276

  comes : Comes (scene chip c.lines while)
  unfolding bit_of power_on length_within fresh_machine
  comes =
      record {
        begins = record { settled = omega arith; hlt = use_on u silent head (λ n. refl) 0; off = λ k l h. absurd (omega arith) };
        good = one_good chip c.lines while;
        bad = second chip c.lines while;
        broken = bad_second chip c.lines while;
        through = over_second chip c.lines while;
      }

  over : 276 ≤ passed u → Shows e busy_bit false
  over late =
      let x = subst Comes (sym (the_scene chip c is while)) comes in
      demand_2.requests.broken_over c e u asked alone 0 2 138 x.begins x.good x.bad x.broken
      (omega (arith, x.through, late))

module _ (chip : Chip) (c : Accepted) (course : Course c) (is : MultipleOver chip c)
    (head : throughout head_loaded course.calls ≡ true)
    (head_last : head_loaded course.before course.after course.last ≡ true) where
  abbrev host : Host
  host = course_then course silent

  lit : HeadOn host
  lit = lit_by course head head_last

  abbrev there_scene : course_scene course ≡ scene chip c.lines host
  there_scene = the_scene chip c is host

  abbrev says : MultipleReadEnds c course
  says = demand_2.requests.multiple c course (reads_98 chip c is)

  there : end_of (scene chip c.lines host) (took course) ≡ course.after.machine
  there = ap (λ (s : Scene). end_of s (took course)) (sym there_scene) ∙ says.there

  -- as the demand has it, whatever it has ended with
  tells : Told chip c.lines host lit (took course)
  tells =
      let (p, how) = subst (λ (s : Scene). MultipleEnds s (took course)) there_scene says.ends in
      told chip c.lines host lit (took course) p how

  tells_broken : Told chip c.lines host lit (took course)
  tells_broken =
      let (p, broken) =
      subst (λ (s : Scene). StandsAtBroken s (took course)) there_scene
      (says.broken (showed_by course.after c.lines crc_error_bit true (shows_there course.after there crc_error_bit true tells.shows.crc))
      (showed_by course.after c.lines not_found_bit false (shows_there course.after there not_found_bit false tells.shows.found))) in
      told chip c.lines host lit (took course) p (inl broken)

  at_second : AtSecond c course
  unfolding is_deleted
  at_second =
      record {
        ends = tells_broken.ends;
        intrq = ap (λ (m : Machine). m.wires.intrq) (sym there) ∙ tells_broken.intrq;
        sr = ap (λ (m : Machine). m.regs.sr) (sym there) ∙ tells_broken.sr;
        crc = shows_there course.after there crc_error_bit true tells_broken.shows.crc;
        found = shows_there course.after there not_found_bit false tells_broken.shows.found;
        deleted = shows_there course.after there deleted_bit true tells_broken.shows.deleted;
      }

pub broken : Broken
broken = record { over = over; ends = at_second }

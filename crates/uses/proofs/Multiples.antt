-- Every use of a multiple read ends as request b says. Assumes nothing.
use mathlib.Core.Path.{sym, subst}
use mathlib.Core.Bool.{true, false}
use Rattle.command.specs.Bits.{is_multiple}
use Rattle.hosts.specs.Hosts.{NoneAccepted, Host, Desk, at, EndsAt}
use Rattle.multiple.specs.Multiple.{EndedMultiple, passed_by, MultiplePremises}
use Rattle.multiple.proofs.Multiple.{multiple_ends, stands_at_broken}
use Rattle.multiple.proofs.Broken.{broken_ends}
use Rattle.uses.specs.Uses.{Use, host_of}
use Rattle.uses.specs.Courses.{not_found_bit, crc_error_bit, Accepted, since, Course, took, silent, scene_of, course_scene, MultipleRead}
use Rattle.uses.specs.Multiples.{MultipleReadEnds, MultipleAsked, OverAtBroken}
use Rattle.uses.proofs.Statuses.{since_valid}
use Rattle.uses.proofs.Over.{use_quiet, over_there}
use Rattle.uses.proofs.Endings.{taken, since_loaded}
use Rattle.uses.proofs.Decoding.{decodes_read}
use Rattle.uses.proofs.SectorReads.{is_read, alone, ends, ready, there, showed_at_end}

module _ (c : Accepted) (course : Course c) (reads : MultipleRead c.byte) where
  ended : EndedMultiple (course_scene course) (took course)
  unfolding is_multiple
  ended =
      record {
        is = record { reads = is_read c course reads; multiple = reads.m; accepted = taken c };
        alone = alone c course reads;
        ends = ends c course reads;
      }

  pub multiple_read : MultipleReadEnds c course
  multiple_read =
      record {
        ends = multiple_ends ended (ready c course reads);
        there = there c course reads;
        broken = λ crc found.
            let (l, on) = showed_at_end c course reads crc_error_bit true crc in
            let (l', off) = showed_at_end c course reads not_found_bit false found in
            stands_at_broken ended l l' on off;
      }

-- ---- it is over where a bad record has passed

module _ (c : Accepted) {e : Desk} (u : Use (since c) e) (asked : MultipleAsked c) where
  abbrev as_host : Host
  as_host = host_of u silent

  pub over_at_broken : OverAtBroken c u
  unfolding is_multiple
  over_at_broken alone begun sector from begins good r bad late =
      over_there u alone (since_valid c) (passed_by r)
      (subst (λ (d : Desk). EndsAt as_host d (passed_by r)) (sym (since_loaded c as_host))
      (broken_ends (scene_of c as_host) premises begun sector from begins good r bad).ends)
      late
    where
      premises : MultiplePremises (scene_of c as_host)
      premises =
          record {
            is = record {
              reads = decodes_read c.machine.chip c.byte asked.reads;
              multiple = asked.reads.m;
              accepted = taken c;
            };
            ready = asked.ready;
            alone = λ k busy.
                subst (λ (d : Desk). NoneAccepted (at as_host d k).machine (as_host.calls k)) (since_loaded c as_host) (use_quiet u alone k);
            whole = asked.whole;
            low = asked.low;
          }

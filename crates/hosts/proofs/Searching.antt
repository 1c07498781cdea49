-- What the search of Read Sector and Write Sector is after: an ID that matches, with a good CRC. Assumes nothing.
use mathlib.Core.Path.{◌≡◌, refl, ap, ◌∙◌}
use mathlib.Core.Bool.{Bool, true, false, cond, ◌&&◌}
use Prim.Native.Nat.{ℕ}
use lib.Dec.{leb, eqb}
use Rattle.common.proofs.Cases.{never, both}
use Rattle.scan.specs.Ids.{id_step}
use Rattle.scan.specs.Streams.{scan_past, scan_after, heard_at}
use Rattle.scan.specs.declared.Id.{Id}
use Rattle.scan.specs.declared.Heard.{Heard}
use Rattle.scan.specs.declared.Heard.TheVariants.{On, Whole}
use Rattle.command.specs.Commands.{job_of}
use Rattle.command.specs.declared.Command.TheVariants.{ReadSector, WriteSector}
use Rattle.command.specs.declared.Order.{Order}
use Rattle.command.specs.declared.Job.{Job}
use Rattle.command.specs.declared.Job.TheVariants as job
use Rattle.activity.specs.Acts.{pass}
use Rattle.activity.specs.Limits.{busy_in}
use Rattle.activity.specs.declared.Seen.{Seen}
use Rattle.activity.specs.declared.Activity.{Activity}
use Rattle.activity.specs.declared.Activity.TheVariants.{Idle, Search}
use Rattle.activity.specs.declared.Deed.TheVariants.{Nothing, Matched, NotFound}
use Rattle.search.specs.Search.{side_matches, sector_matches, matches_for, after_match, afresh, id_found, search_step, search_cell}
use Rattle.act.specs.Turns.{job_begun, begun_activity, activity_act, act_of}
use Rattle.hosts.proofs.Keeps.{matched_keeps}
use Rattle.hosts.proofs.Views.{View, Outside, seen_in, act_in}
use Rattle.hosts.proofs.Phases.{stands, PhasePasses, rests}
use Rattle.hosts.proofs.Passing.{stream_from, OnTrack, cell_at}
use Rattle.hosts.proofs.Seeking.{Seeker, counted_with, SeeksIn}

-- the commands that search for an ID of a track and a sector
pub data TypeTwo : Job → Type 0 where
  reads : TypeTwo job.ReadSector
  writes : TypeTwo job.WriteSector

pub reads_two : TypeTwo (job_of ReadSector)
unfolding job_of
reads_two = reads

pub writes_two : TypeTwo (job_of WriteSector)
unfolding job_of
writes_two = writes

pub begun_two : (j : Job) → TypeTwo j → (s : Seen) → job_begun s j ≡ afresh 0
unfolding job_begun
begun_two _ reads s = refl
begun_two _ writes s = refl

-- ---- what a cell does

-- "An ID matches if its track is TR and, for Type II, its sector is SR and, with C, its side is S", and it is good
unfoldable pub suits_for : Order → ℕ → ℕ → Id → Bool
suits_for o tr sr id = (eqb id.track tr && eqb id.sector sr && side_matches id.side o.side) && id.good

-- the scanner says that such an ID ends
unfoldable pub hit_in : Order → ℕ → ℕ → Heard → Bool
hit_in o tr sr (On scan) = false
hit_in o tr sr (Whole id) = suits_for o tr sr id

-- and the length that it gives
unfoldable pub length_in : Heard → ℕ
length_in (On scan) = 0
length_in (Whole id) = id.length

matches_two : (o : Order) (s : Seen) (id : Id) (j : Job)
    → TypeTwo j
    → matches_for o s id j ≡ (eqb id.track s.tr && eqb id.sector s.sr && side_matches id.side o.side)
unfolding matches_for sector_matches
matches_two o s id _ reads = refl
matches_two o s id _ writes = refl

module _ (o : Order) (s : Seen) (two : TypeTwo (job_of o.command)) (pulses : ℕ) where
  matched_on :
      (matches good : Bool) (length : ℕ)
      → (matches && good) ≡ false
      → PhasePasses s
      (cond matches
      (cond good (pass s (after_match o.ibm length (job_of o.command)) (Matched false)) (pass s (afresh pulses) (Matched true)))
      (pass s (afresh pulses) Nothing))
      (afresh pulses)
  matched_on true true length e = never (cc)
  matched_on true false length e = record { deed = Matched true; acts = refl; keeps = matched_keeps true }
  matched_on false good length e = rests s (pass s (afresh pulses) Nothing) (afresh pulses) refl

  -- "One that matches but has a bad CRC sets bit 3 and the search goes on"
  hears_on :
      (heard : Heard)
      → hit_in o s.tr s.sr heard ≡ false
      → PhasePasses s (search_step o s pulses heard) (Search pulses (scan_past heard))
  unfolding search_step id_found scan_past hit_in suits_for
  hears_on (On scan) e = rests s (pass s (Search pulses scan) Nothing) (Search pulses scan) refl
  hears_on (Whole id) e =
      rw (matches_two o s id (job_of o.command) two)
      (matched_on (eqb id.track s.tr && eqb id.sector s.sr && side_matches id.side o.side) id.good id.length e)

  -- "a good match clears it"
  hears_hit :
      (heard : Heard)
      → hit_in o s.tr s.sr heard ≡ true
      → search_step o s pulses heard ≡ pass s (after_match o.ibm (length_in heard) (job_of o.command)) (Matched false)
  unfolding search_step id_found hit_in suits_for length_in
  hears_hit (On scan) e = never (cc)
  hears_hit (Whole id) e =
      let parts = both (eqb id.track s.tr && eqb id.sector s.sr && side_matches id.side o.side) id.good e in
      simp (matches_two o s id (job_of o.command) two, parts.0, parts.1)

-- ---- what a stream of them does

-- with cell n an ID ends that matches and is good
abbrev pub hit_at : View → ℕ → Bool
hit_at v n = hit_in v.order v.tr v.sr (heard_at v.mfm (stream_from v) n)

-- what the command does after it
abbrev pub served_after : View → ℕ → Activity
served_after v n = after_match v.order.ibm (length_in (heard_at v.mfm (stream_from v) n)) (job_of v.order.command)

pub search_busy : (v : View) (pulses n : ℕ) → busy_in (Search pulses (scan_after v.mfm (stream_from v) n)) ≡ true
unfolding busy_in
search_busy v pulses n = refl

abbrev pub id_seeker : (v : View) → Seeker v
id_seeker v =
    record {
      doing = λ pulses n. Search pulses (scan_after v.mfm (stream_from v) n);
      ends = hit_at v;
      then = served_after v;
      deed = Matched false;
      keeps = matched_keeps false;
      busy = search_busy v;
    }

module _ (v : View) (track : OnTrack v) (two : TypeTwo (job_of v.order.command)) (missing : Bool) (o : Outside) (pulses n : ℕ) where
  abbrev here : View
  here = stands v n missing (Search pulses (scan_after v.mfm (stream_from v) n))

  looks :
      act_in here o
      ≡ cond (leb 5 (counted_with v pulses n)) (pass (seen_in here o) Idle NotFound)
      (search_step v.order (seen_in here o) (counted_with v pulses n) (heard_at v.mfm (stream_from v) n))
  unfolding act_of begun_activity activity_act search_cell
  looks =
      ap (λ (cell : ℕ).
      cond (leb 5 (counted_with v pulses n)) (pass (seen_in here o) Idle NotFound)
      (search_step v.order (seen_in here o) (counted_with v pulses n)
      (id_step v.mfm cell (scan_after v.mfm (stream_from v) n))))
      (cell_at v track n)

  pub id_seeks : SeeksIn v (id_seeker v) missing o pulses n
  unfolding scan_after
  id_seeks =
      record {
        lost = λ five. looks ∙ rw five refl;
        on = λ few e. rw (looks, few) (hears_on v.order (seen_in here o) two _ (heard_at v.mfm (stream_from v) n) e);
        hit = λ few e. looks ∙ rw few (hears_hit v.order (seen_in here o) two _ (heard_at v.mfm (stream_from v) n) e);
      }

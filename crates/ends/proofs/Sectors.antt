-- Read Sector, Write Sector and Read Address end: within five rounds, whether they find an ID or not. Assumes nothing.
use mathlib.Core.Path.{◌≡◌, refl, sym, ap, ◌∙◌}
use mathlib.Core.Bool.{Bool, true, false, true≢false}
use Prim.Native.Nat.{ℕ, suc, ◌+◌, ◌≤◌, ◌<◌}
use native.Mathlib.Omega.{arith}
use Rattle.common.proofs.Cases.{by_cond}
use Rattle.scan.specs.Marks.{lead_of}
use Rattle.scan.specs.Streams.{id_width, run_after}
use Rattle.scan.specs.DataMarks.{window_of}
use Rattle.command.specs.Bits.{is_multiple}
use Rattle.command.specs.Commands.{job_of}
use Rattle.command.specs.Orders.{order_of}
use Rattle.command.specs.Sizes.{field_size}
use Rattle.command.specs.declared.Command.{Command}
use Rattle.command.specs.declared.Job.{Job}
use Rattle.command.specs.declared.Job.TheVariants as job
use Rattle.activity.specs.declared.Activity.{Activity}
use Rattle.activity.specs.declared.Activity.TheVariants as activity
use Rattle.search.specs.Search.{after_match}
use Rattle.writing.specs.Writing.{last_kept, last_zero, mark_place}
use Rattle.registers.specs.declared.Ring.{Ring}
use Rattle.act.specs.Turns.{job_begun, begun_activity}
use Rattle.hosts.specs.Hosts.{Host, Desk}
use Rattle.hosts.specs.Scenes.{Scene, loaded, settling}
use Rattle.command.proofs.Tables.{field_size_most}
use Rattle.hosts.proofs.Views.{View}
use Rattle.hosts.proofs.Phases.{Stands}
use Rattle.hosts.proofs.Passing.{stream_from, OnTrack, on_track}
use Rattle.hosts.proofs.Seeking.{SearchFrom, settled}
use Rattle.hosts.proofs.Searching.{TypeTwo, reads, writes}
use Rattle.hosts.proofs.RingIds.{hit_ring, ring_hit}
use Rattle.hosts.proofs.Working.{course_of, long, beginning, beginning_track, beginning_inside, begins}
use Rattle.hosts.proofs.Found.{id_narrow, id_search}
use Rattle.ends.specs.Ends.{five_rounds}
use Rattle.ends.proofs.Left.{left_of, Counted, seeks}
use Rattle.ends.proofs.Drains.{Over, later, drains_from}
use Rattle.ends.proofs.Hunting.{mark_seeker, mark_seeks, marks_soon}
use Rattle.ends.proofs.FiveRounds.{Short, five_rounds_lem}
use Rattle.ends.proofs.Begun.{led}
use Rattle.ends.proofs.Settled.{Stays, low_working, settled_hlt, low_heads, settled_over}
use Rattle.activity.specs.declared.Seen.{Seen}

-- what a Read Sector and a Write Sector take after the ID
field_most : (mfm : Bool) (size : ℕ) → size ≤ 1024 → (window_of mfm + size + 2 ≤ 1069) × (mark_place mfm + size + 3 ≤ 1069)
unfolding window_of mark_place last_zero last_kept lead_of
field_most true size l = (omega arith, omega arith)
field_most false size l = (omega arith, omega arith)

field_some : (mfm : Bool) → (0 < window_of mfm) × (0 < mark_place mfm)
unfolding window_of mark_place last_zero last_kept lead_of
field_some true = (omega arith, omega arith)
field_some false = (omega arith, omega arith)

module _ {s : Scene} {command : Command} (x : Stays s command) where
  abbrev h : Host
  h = s.host

  abbrev d : Desk
  d = loaded s

  -- the view as the search begins
  abbrev view : View
  view = beginning (low_working x) (low_heads x)

  track : OnTrack view
  track = beginning_track (low_working x) (low_heads x)

  -- what the search has found ends within so many byte times
  rest_over :
      (rest n : ℕ) (a : Activity)
      → Stands (course_of (low_working x)) (settling s) view (suc n) false a
      → Counted view.order a
      → seeks a ≡ false
      → ((r : Ring) → left_of view.order view.mfm 0 r view.tr a ≤ rest)
      → Over h d (settling s + suc n) (settling s + suc n + rest)
  rest_over rest n a here counted still enough =
      drains_from h d (led x.asked) 0 rest (settling s + suc n) _ here.view
      (on_track view track (suc n) false a).whole
      x.asked.low counted
      (λ on. absurd (true≢false (sym on ∙ still)))
      (enough _)

  -- ---- Read Sector and Write Sector

  module _ (two : TypeTwo (job_of command)) (single : is_multiple s.byte ≡ false) where
    served_counted : (ibm : Bool) (length : ℕ) (j : Job) → TypeTwo j → Counted view.order (after_match ibm length j)
    unfolding order_of after_match Counted
    served_counted ibm length _ reads = single
    served_counted ibm length _ writes = single

    served_still : (ibm : Bool) (length : ℕ) (j : Job) → TypeTwo j → seeks (after_match ibm length j) ≡ false
    unfolding after_match seeks
    served_still ibm length _ reads = refl
    served_still ibm length _ writes = refl

    served_left : (ibm : Bool) (n : ℕ) (r : Ring) (j : Job) → TypeTwo j
        → left_of view.order view.mfm 0 r view.tr (after_match ibm n j) ≤ 1069
    unfolding after_match left_of
    served_left ibm n r _ reads =
        omega (arith, (field_most view.mfm (field_size ibm n) (field_size_most ibm n)).0, (field_some view.mfm).0)
    served_left ibm n r _ writes =
        omega (arith, (field_most view.mfm (field_size ibm n) (field_size_most ibm n)).1, (field_some view.mfm).1)

    short_search : Short (id_search (low_working x) two (low_heads x))
    unfolding order_of
    short_search =
        record {
          fresh = refl;
          long = long (low_working x);
          rest = 1069;
          found = λ n here hit.
              rest_over 1069 n _ here (served_counted _ _ (job_of command) two) (served_still _ _ (job_of command) two)
              (λ r. served_left _ _ r (job_of command) two);
          width = id_width s.machine.mfm;
          soon = λ k hit.
              let on = hit_ring s command (settling s) (omega (arith, long (low_working x))) k hit in
              let (j, near, there) = ring_hit s command (settling s) (beginning_inside (low_working x) (low_heads x)) _ on.on_ring in
              (j, omega arith, there);
          short = omega (arith, id_narrow s.machine.mfm);
        }

    pub sector_over : Over h d 0 (settling s + five_rounds s)
    sector_over =
        settled_over x _ (later h d (omega arith) (five_rounds_lem (id_search (low_working x) two (low_heads x)) short_search))

  -- ---- Read Address

  module _ (address : job_of command ≡ job.ReadAddress) where
    hunt_begins :
        (seen : Seen) → job_begun seen (job_of view.order.command) ≡ activity.Hunt 0 (run_after view.mfm (stream_from view) 0)
    unfolding order_of run_after job_begun
    hunt_begins seen = ap (job_begun seen) address

    hunt_goes_on :
        (seen : Seen)
        → begun_activity view.order seen (activity.Hunt 0 (run_after view.mfm (stream_from view) 0))
        ≡ activity.Hunt 0 (run_after view.mfm (stream_from view) 0)
    unfolding begun_activity
    hunt_goes_on seen = refl

    abbrev mark_search : SearchFrom (course_of (low_working x)) (settling s) view
    mark_search =
        record {
          track = track;
          rows = x.asked.low;
          seeker = mark_seeker view;
          seeks = mark_seeks view track;
          counted = 0;
          few = omega arith;
          first = activity.Settle 0;
          entry = settled (settled_hlt x) hunt_begins hunt_goes_on;
          begins = begins (low_working x) (low_heads x);
        }

    mark_narrow : lead_of s.machine.mfm ≤ 3
    unfolding lead_of
    mark_narrow = by_cond (λ (n : ℕ). n ≤ 3) s.machine.mfm (λ e. omega arith) (λ e. omega arith)

    short_hunt : Short mark_search
    unfolding Counted seeks left_of
    short_hunt =
        record {
          fresh = refl;
          long = long (low_working x);
          rest = 6;
          found = λ n here hit. rest_over 6 n _ here tt refl (λ r. omega arith);
          width = lead_of s.machine.mfm;
          soon = marks_soon view track;
          short = omega (arith, mark_narrow);
        }

    pub address_over : Over h d 0 (settling s + five_rounds s)
    address_over = settled_over x _ (later h d (omega arith) (five_rounds_lem mark_search short_hunt))

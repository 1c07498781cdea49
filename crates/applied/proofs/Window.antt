-- Demand 3 over tracks with one ID, from `demand_3` alone. Assumes nothing.
use mathlib.Core.Path.{◌≡◌, refl, sym, ap, ◌∙◌, subst}
use mathlib.Core.Bool.{Bool, true, false, not-eq-not}
use mathlib.Core.List.{List}
use Prim.Native.Nat.{ℕ, ◌+◌, ◌≤◌}
use native.Mathlib.Omega.{arith}
use lib.ListN.{length}
use Rattle.common.specs.Bits.{bit_of}
use Rattle.scan.specs.Rows.{length_within}
use Rattle.wd.specs.declared.Machine.{Machine}
use Rattle.wd.specs.Machines.{fresh_machine, power_on}
use Rattle.reachable.proofs.Samples.{sample_length}
use Rattle.hosts.specs.Hosts.{Desk}
use Rattle.hosts.specs.Scenes.{Scene, settling}
use Rattle.hosts.proofs.LowRows.{LowRow, all_low, low_by}
use Rattle.in_time.specs.Demand3.{OnRing}
use Rattle.uses.specs.Uses.{Use, throughout, no_command, head_loaded, passed}
use Rattle.uses.specs.Courses.{not_found_bit, busy_bit, Shows, Accepted, since, Course, took, silent, track_of, SingleRead}
use Rattle.demands.specs.Demands.{ReadAsked, ReadEnds}
use Rattle.demands.proofs.Demand3.{demand_3}
use Rattle.applied.specs.Window.{thirtieth, thirty_first, ReadOver, Window}
use Rattle.applied.proofs.Commands.{read_80}
use Rattle.applied.proofs.OneId.{Unserved, scene, ring_30, ring_31, served_30, unserved_31}

module _ (mfm : Bool) (track : List ℕ) (whole : length track ≡ sample_length) (low : all_low track ≡ true) (c : Accepted)
    (is : ReadOver mfm track c) (ring : OnRing (scene c.lines mfm track)) where
  there : track_of c ≡ scene c.lines mfm track
  there i = record { machine = is.machine i; lines = c.lines; byte = is.command i; row = is.row i; host = silent }

  asked : ReadAsked c
  unfolding power_on length_within fresh_machine
  asked =
      record {
        single = subst SingleRead (sym is.command) read_80;
        ready = is.ready;
        whole = ap length is.row ∙ whole ∙ ap (λ (m : Machine). m.ring.length) (sym is.machine);
        low = subst LowRow (sym is.row) (low_by track low);
      }

  found : OnRing (track_of c)
  found = subst OnRing (sym there) ring

  -- "L + 1,078"
  most : settling (track_of c) + (length c.row + 1078) ≡ 3126
  unfolding bit_of
  most = ap (λ (s : Scene). settling s + (length s.row + 1078)) there ∙ omega (arith, whole)

  by_then : (e : Desk) (u : Use (since c) e)
      → throughout head_loaded u ≡ true
      → throughout no_command u ≡ true
      → 3126 ≤ passed u
      → Shows e busy_bit false
  by_then e u head alone late =
      (demand_3.ends c e u asked head alone).where_one found (omega (arith, late, most))

  module _ (course : Course c) (head : throughout head_loaded course.calls ≡ true)
      (head_last : head_loaded course.before course.after course.last ≡ true) where
    abbrev ends : ReadEnds c course
    ends = demand_3.ends_so c course asked head head_last

    in_time : took course ≤ 3126
    in_time = omega (arith, most, ends.where_one found)

    pub shown_on : Unserved (scene c.lines mfm track) → Shows course.after not_found_bit true
    shown_on none l r call = (ends.not_found l r call).1 (subst Unserved (sym there) none)

    pub shown_off : (Unserved (scene c.lines mfm track) → ⊥) → Shows course.after not_found_bit false
    shown_off serves l r call = not-eq-not.0 (λ on. serves (subst Unserved there ((ends.not_found l r call).0 on)))

pub window : Window
unfolding all_low
window =
    record {
      over = λ c e u is. by_then false thirtieth refl refl c is (ring_30 c.lines) e u;
      served = λ c course is head last. (
        in_time false thirtieth refl refl c is (ring_30 c.lines) course head last,
        shown_off false thirtieth refl refl c is (ring_30 c.lines) course head last (served_30 c.lines),
      );
      missed = λ c course is head last. (
        in_time false thirty_first refl refl c is (ring_31 c.lines) course head last,
        shown_on false thirty_first refl refl c is (ring_31 c.lines) course head last (unserved_31 c.lines),
      );
    }

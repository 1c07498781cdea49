-- What refusal 2 lets through is what document 01 says, and all that grows from power-on is within its limits. Assumes
-- nothing.
use mathlib.Core.Path.{◌≡◌, refl}
use mathlib.Core.Bool.{true, ◌&&◌}
use mathlib.Core.Logic.{◌↔◌}
use Prim.Native.Nat.{ℕ, ◌≤◌}
use lib.Dec.{leb}
use borrow.Author.Tests.{leb-true, le-leb}
use Rattle.common.proofs.Cases.{both, all}
use Rattle.scan.specs.declared.Scan.TheVariants.{Gap, Field}
use Rattle.activity.specs.Limits.{scan_within, counts_within}
use Rattle.activity.specs.declared.Activity.{Activity}
use Rattle.activity.specs.declared.Activity.TheVariants.{Idle, Seek, Pulse, Stop, Settle, Search, Window, Data, Hunt, Address, Await, Preamble, Put, Format, FormatCrc}
use Rattle.registers.specs.Rings.{ring_within}
use Rattle.wd.specs.Machines.{valid_of}
use Rattle.wd.specs.declared.Machine.{Machine}
use Rattle.wd.proofs.Valid.{Held, ring_held, held_ring}
use Rattle.reachable.specs.Growth.{Grown}
use Rattle.reachable.specs.Limits.{EachCount, Within}
use Rattle.reachable.proofs.Valid.{grown_valid}

two : (m most n last : ℕ) → (leb m most && leb n last) ≡ true → (m ≤ most) × (n ≤ last)
two m most n last h =
    let g = both (leb m most) (leb n last) h in
    (leb-true m most g.0, leb-true n last g.1)

within_each : (a : Activity) → counts_within a ≡ true → EachCount (Within a)
unfolding counts_within scan_within
within_each a h =
    record {
      seek_left = λ n e. leb-true n 938 (rw e at h);
      stop_left = λ n e. leb-true n 938 (rw e at h);
      settle_left = λ n e. leb-true n 938 (rw e at h);
      search_pulses = λ n (scan, e). leb-true n 4 (both (leb n 4) (scan_within scan) (rw e at h)).0;
      search_run = λ n (pulses, e). (two pulses 4 n 3 (rw e at h)).1;
      search_passed = λ n (pulses, part, e, p). rw (← p) (two pulses 4 part.passed 5 (rw e at h)).1;
      window_left =
          λ n (passed, run, e). (two n 1026 passed 42 (both (leb n 1026 && leb passed 42) (leb run 3) (rw e at h)).0).0;
      window_passed =
          λ n (left, run, e). (two left 1026 n 42 (both (leb left 1026 && leb n 42) (leb run 3) (rw e at h)).0).1;
      window_run = λ n (left, passed, e). leb-true n 3 (both (leb left 1026 && leb passed 42) (leb n 3) (rw e at h)).1;
      data_left = λ n (crc, deleted, e). leb-true n 1026 (rw e at h);
      hunt_pulses = λ n (run, e). (two n 4 run 3 (rw e at h)).0;
      hunt_run = λ n (pulses, e). (two pulses 4 n 3 (rw e at h)).1;
      address_passed = λ n (crc, track, e). leb-true n 5 (rw e at h);
      preamble_left = λ n (passed, e). (two n 1027 passed 37 (rw e at h)).0;
      preamble_passed = λ n (left, e). (two left 1027 n 37 (rw e at h)).1;
      put_left = λ n (crc, e). leb-true n 1027 (rw e at h);
    }

each_within : (a : Activity) → EachCount (Within a) → counts_within a ≡ true
unfolding counts_within scan_within
each_within Idle c = refl
each_within (Seek left) c = le-leb left 938 (c.seek_left left refl)
each_within Pulse c = refl
each_within (Stop left) c = le-leb left 938 (c.stop_left left refl)
each_within (Settle left) c = le-leb left 938 (c.settle_left left refl)
each_within (Search pulses (Gap run)) c =
    all (le-leb pulses 4 (c.search_pulses pulses (Gap run, refl))) (le-leb run 3 (c.search_run run (pulses, refl)))
each_within (Search pulses (Field part)) c =
    all (le-leb pulses 4 (c.search_pulses pulses (Field part, refl)))
    (le-leb part.passed 5 (c.search_passed part.passed (pulses, part, refl, refl)))
each_within (Window left passed run) c =
    all
    (all (le-leb left 1026 (c.window_left left (passed, run, refl)))
    (le-leb passed 42 (c.window_passed passed (left, run, refl))))
    (le-leb run 3 (c.window_run run (left, passed, refl)))
each_within (Data left crc deleted) c = le-leb left 1026 (c.data_left left (crc, deleted, refl))
each_within (Hunt pulses run) c =
    all (le-leb pulses 4 (c.hunt_pulses pulses (run, refl))) (le-leb run 3 (c.hunt_run run (pulses, refl)))
each_within (Address passed crc track) c = le-leb passed 5 (c.address_passed passed (crc, track, refl))
each_within Await c = refl
each_within (Preamble left passed) c =
    all (le-leb left 1027 (c.preamble_left left (passed, refl)))
    (le-leb passed 37 (c.preamble_passed passed (left, refl)))
each_within (Put left crc) c = le-leb left 1027 (c.put_left left (crc, refl))
each_within (Format crc) c = refl
each_within (FormatCrc crc) c = refl

-- 2, "exactly when": "position not below L, L out of range, or a count above the largest its activity holds in any machine
-- grown from power-on"
pub valid_exactly : (m : Machine) → (valid_of m ≡ true) ↔ (Held m.ring × EachCount (Within m.activity))
unfolding valid_of
valid_exactly m = (
  λ v.
      let h = both (ring_within m.ring) (counts_within m.activity) v in
      (ring_held m.ring h.0, within_each m.activity h.1),
  λ (ring, counts). all (held_ring m.ring ring) (each_within m.activity counts),
)

-- "the largest": no machine grown from power-on goes above it
pub never_above : (m : Machine) → Grown m → EachCount (Within m.activity)
never_above m g = ((valid_exactly m).0 (grown_valid m g)).1

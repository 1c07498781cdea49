-- What the search of Read Address is after: an ID mark. Assumes nothing.
use mathlib.Core.Path.{◌≡◌, refl, sym, ap, ◌∙◌}
use mathlib.Core.Bool.{Bool, true, false, cond}
use Prim.Native.Nat.{ℕ, ◌+◌, ◌<◌}
use native.Mathlib.Nat.{mod-lt}
use native.Mathlib.Omega.{arith}
use lib.Dec.{leb, eqb}
use lib.ListN.{length}
use borrow.Author.Tests.{eqb-true}
use Rattle.common.proofs.Cases.{never}
use Rattle.scan.specs.Marks.{lead_of, mark_step, mark_crc}
use Rattle.scan.specs.Streams.{MarkEnds, run_past, run_after, passed_at}
use Rattle.scan.specs.declared.Passed.{Passed}
use Rattle.scan.specs.declared.Passed.TheVariants.{Gap, Mark}
use Rattle.scan.proofs.Marks.{marks}
use Rattle.activity.specs.Acts.{pass}
use Rattle.activity.specs.Limits.{busy_in}
use Rattle.activity.specs.declared.Seen.{Seen}
use Rattle.activity.specs.declared.Activity.TheVariants.{Idle, Hunt, Address}
use Rattle.activity.specs.declared.Deed.TheVariants.{Nothing, NotFound}
use Rattle.reading.specs.Reading.{address_begun, hunt_step, hunt_cell}
use Rattle.act.specs.Turns.{begun_activity, activity_act, act_of}
use Rattle.fields.specs.Rings.{cells_of}
use Rattle.hosts.specs.Tracks.{position_at}
use Rattle.hosts.proofs.RingLaws.{reached, mark_moved, passing_ring}
use Rattle.hosts.proofs.Keeps.{nothing_keeps}
use Rattle.hosts.proofs.Views.{View, Outside, seen_in, act_in}
use Rattle.hosts.proofs.Phases.{stands, PhasePasses, rests}
use Rattle.hosts.proofs.Passing.{stream_from, OnTrack, head_inside, cell_at}
use Rattle.hosts.proofs.Seeking.{Seeker, counted_with, SeeksIn}

-- ---- what a cell does

-- an ID mark's byte
unfoldable pub is_id : Passed → Bool
is_id (Gap run) = false
is_id (Mark b) = eqb b 0xFE

module _ (s : Seen) (pulses : ℕ) where
  -- other marks are passed over
  hunts_on : (p : Passed) → is_id p ≡ false → PhasePasses s (hunt_step s pulses p) (Hunt pulses (run_past p))
  unfolding hunt_step address_begun is_id run_past
  hunts_on (Gap run) e = rests s (pass s (Hunt pulses run) Nothing) (Hunt pulses run) refl
  hunts_on (Mark b) e = rests s _ (Hunt pulses 0) (simp e)

  hunts_id : (p : Passed) → is_id p ≡ true → hunt_step s pulses p ≡ pass s (Address 0 (mark_crc s.mfm 0xFE) 0) Nothing
  unfolding hunt_step address_begun is_id
  hunts_id (Gap run) e = never (cc)
  hunts_id (Mark b) e = simp e

-- ---- what a stream of them does

-- cell n is the byte of an ID mark
abbrev pub id_mark_at : View → ℕ → Bool
id_mark_at v n = is_id (passed_at v.mfm (stream_from v) n)

pub hunt_busy : (v : View) (pulses n : ℕ) → busy_in (Hunt pulses (run_after v.mfm (stream_from v) n)) ≡ true
unfolding busy_in
hunt_busy v pulses n = refl

abbrev pub mark_seeker : (v : View) → Seeker v
mark_seeker v =
    record {
      doing = λ pulses n. Hunt pulses (run_after v.mfm (stream_from v) n);
      ends = id_mark_at v;
      then = λ n. Address 0 (mark_crc v.mfm 0xFE) 0;
      deed = Nothing;
      keeps = nothing_keeps;
      busy = hunt_busy v;
    }

module _ (v : View) (track : OnTrack v) (missing : Bool) (o : Outside) (pulses n : ℕ) where
  abbrev here : View
  here = stands v n missing (Hunt pulses (run_after v.mfm (stream_from v) n))

  looks :
      act_in here o
      ≡ cond (leb 5 (counted_with v pulses n)) (pass (seen_in here o) Idle NotFound)
      (hunt_step (seen_in here o) (counted_with v pulses n) (passed_at v.mfm (stream_from v) n))
  unfolding act_of begun_activity activity_act hunt_cell
  looks =
      ap (λ (cell : ℕ).
      cond (leb 5 (counted_with v pulses n)) (pass (seen_in here o) Idle NotFound)
      (hunt_step (seen_in here o) (counted_with v pulses n)
      (mark_step v.mfm cell (run_after v.mfm (stream_from v) n))))
      (cell_at v track n)

  -- "Fifth pulse up to the mark byte: bit 4, end."
  pub mark_seeks : SeeksIn v (mark_seeker v) missing o pulses n
  unfolding run_after
  mark_seeks =
      record {
        lost = λ five. looks ∙ rw five refl;
        on = λ few e. rw (looks, few) (hunts_on (seen_in here o) _ (passed_at v.mfm (stream_from v) n) e);
        hit = λ few e. looks ∙ rw few (hunts_id (seen_in here o) _ (passed_at v.mfm (stream_from v) n) e);
      }

-- ---- ID marks on the ring

module _ (v : View) (track : OnTrack v) where
  which : (p : Passed) → is_id p ≡ true → p ≡ Mark 0xFE
  unfolding is_id
  which (Gap run) e = never (cc)
  which (Mark b) e = ap Mark (eqb-true b 0xFE e)

  -- one that passes at all passes within a round
  pub marks_soon :
      (k : ℕ) → id_mark_at v k ≡ true → (j : ℕ) × (j < length v.row + lead_of v.mfm) × (id_mark_at v j ≡ true)
  unfolding is_id
  marks_soon k e =
      let from : v.ring.position < length v.row = head_inside v track in
      let (a, p, stands) = (marks v.mfm (stream_from v) k 0xFE).0 (which (passed_at v.mfm (stream_from v) k) e) in
      let cell : ℕ = position_at (length v.row) v.ring.position a in
      let (b, near, here) =
      reached (length v.row) v.ring.position from cell (mod-lt (v.ring.position + a) (omega arith)) in
      let agree : (i : ℕ) → stream_from v (a + i) ≡ stream_from v (b + i) =
      λ i.
      passing_ring v.row v.ring.position a i
      ∙ ap (λ (q : ℕ). cells_of v.row (q + i)) (sym here)
      ∙ sym (passing_ring v.row v.ring.position b i) in
      let there : MarkEnds v.mfm (stream_from v) (b + lead_of v.mfm) 0xFE =
      (b, refl, mark_moved v.mfm (stream_from v) (stream_from v) a b (λ i l. agree i) 0xFE stands) in (
        b + lead_of v.mfm,
        omega arith,
        ap is_id ((marks v.mfm (stream_from v) (b + lead_of v.mfm) 0xFE).1 there),
      )

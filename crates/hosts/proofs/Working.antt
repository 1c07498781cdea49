-- A command of Types II and III that is accepted and does not end at once: it settles, waits for HLT, and begins. Assumes
-- nothing.
use mathlib.Core.Path.{◌≡◌, refl, sym, ap, ◌∙◌, subst}
use mathlib.Core.Bool.{Bool, true, false, true≢false}
use mathlib.Core.List.{List}
use mathlib.Core.Logic.{inl, inr}
use Prim.Native.Nat.{ℕ, ◌+◌, ◌-◌, ◌≤◌, ◌<◌}
use native.Mathlib.Nat.{zero-add}
use native.Mathlib.Decide.{dec_lt}
use native.Mathlib.Omega.{arith}
use lib.ListN.{length}
use Rattle.command.specs.Commands.{class_of, decoded_of, job_of}
use Rattle.command.specs.Orders.{order_of}
use Rattle.command.specs.declared.Command.{Command}
use Rattle.std.specs.Prelude.{Some}
use Rattle.command.specs.declared.Class.TheVariants.{Works}
use Rattle.activity.specs.Limits.{busy_in}
use Rattle.activity.specs.declared.Activity.{Activity}
use Rattle.activity.specs.declared.Activity.TheVariants.{Idle, Settle}
use Rattle.accepting.specs.Accepting.{ends_at_once}
use Rattle.wd.specs.Loads.{load_register}
use Rattle.wd.proofs.Valid.{Held, valid_ring, open_row}
use Rattle.reachable.specs.ByteTimes.{turns_on}
use Rattle.reachable.proofs.Valid.{Valid, load_valid}
use Rattle.hosts.specs.Hosts.{at, AloneUntil, Undisturbed, EndsAt}
use Rattle.hosts.specs.Bytes.{deed_at}
use Rattle.hosts.specs.Scenes.{Scene, loaded, settling}
use Rattle.hosts.proofs.Accepted.{accepted_valid, ground_of, begun_view}
use Rattle.hosts.proofs.Firsts.{FirstOrNone, first}
use Rattle.hosts.proofs.Views.{View, view_of}
use Rattle.hosts.proofs.Refused.{done_open}
use Rattle.hosts.proofs.Courses.{Course, Lasts, AnyRow, Going, busy_inside, ended_calm, ended_going, ended_within, within_ended}
use Rattle.hosts.proofs.LowRows.{LowRow, low_going, low_within}
use Rattle.hosts.proofs.Phases.{stands, Stands, stands_lasts, deed_at_lem}
use Rattle.hosts.proofs.Settling.{settles, waits}
use Rattle.hosts.proofs.Passing.{OnTrack, head_inside, on_track}
use Rattle.hosts.proofs.Searching.{TypeTwo}
use Rattle.hosts.proofs.Silent.{Silent, Early, early_silent}
use Rattle.refusals.specs.Numbers.{done}

-- settling and searching move no byte
pub early_at :
    {Rows : List ℕ → Type 0} (c : Course Rows) (t : ℕ) (v : View) {n : ℕ} {missing : Bool} {a : Activity}
    → Stands c t v n missing a
    → busy_in a ≡ true
    → Rows v.row
    → TypeTwo (job_of v.order.command)
    → Early a
    → Silent (deed_at c.host c.desk (t + n))
early_at c t v {a = a} here busy rows two early =
    subst Silent (sym (deed_at_lem c t v here busy rows)) (early_silent _ _ a two early)

-- accepted, and not over with that
pub record TakenUp (s : Scene) (command : Command) : Type 0 where
  pub decodes : decoded_of s.machine.chip s.byte ≡ Some command
  pub works : class_of command ≡ Works
  pub accepted : (load_register s.machine s.lines 0 s.byte).outcome ≡ done
  pub stays : ends_at_once command s.lines ≡ false

module _ {s : Scene} {command : Command} (g : TakenUp s command) where
  pub given_valid : Valid s.machine
  given_valid = accepted_valid s.machine s.lines s.byte g.accepted

  pub given_ring : Held s.machine.ring
  given_ring = valid_ring s.machine given_valid

  pub given_view : view_of (loaded s) ≡ ground_of s command
  given_view = begun_view s command g.accepted g.decodes g.works g.stays

-- it ends in byte time n, with bit 4 or without, and the row is as it was lent all along
pub record OverAt (s : Scene) (n : ℕ) (missing : Bool) : Type 0 where
  pub ends : EndsAt s.host (loaded s) n
  pub told : (at s.host (loaded s) n).machine.flags.missing ≡ missing
  pub row : (k : ℕ) → k ≤ n → (at s.host (loaded s) k).row ≡ s.row

-- its byte times, over a row that is as long as the ring
pub record Working (Rows : List ℕ → Type 0) (s : Scene) (command : Command) : Type 0 where
  pub given : TakenUp s command
  pub going : Going Rows s.host (loaded s)
  pub begin : going.within 0 ≡ true
  pub whole : length s.row ≡ s.machine.ring.length
  pub rows : Rows s.row

-- over a row with no cell above 511, as long as no other command is accepted
module _ {s : Scene} {command : Command} (g : TakenUp s command) (alone : Undisturbed s.host (loaded s))
    (whole : length s.row ≡ s.machine.ring.length) (low : LowRow s.row) where
  pub low_working_lem : Working LowRow s command
  low_working_lem =
      let valid = load_valid s.machine s.lines 0 s.byte (given_valid g) in
      let same = whole ∙ sym (ap (λ (v : View). v.ring.length) (given_view g)) in
      record {
        given = g;
        going = low_going s.host (loaded s) alone valid same;
        begin = low_within s.host (loaded s) alone valid same 0;
        whole = whole;
        rows = low;
      }

-- ending by itself in byte time n, over any row
module _ {s : Scene} {command : Command} (g : TakenUp s command) (n : ℕ) (alone : AloneUntil s.host (loaded s) n)
    (ends : EndsAt s.host (loaded s) n) where
  given_some : 0 < n
  unfolding at busy_in
  given_some =
      busy_inside s.host (loaded s) n ends 0 (omega arith) (ap (λ (v : View). busy_in v.activity) (given_view g))

  pub ended_working : Working AnyRow s command
  unfolding at
  ended_working =
      record {
        given = g;
        going = ended_going s.host (loaded s) n alone ends;
        begin = ended_within s.host (loaded s) n alone ends 0 (omega arith);
        whole =
            (open_row (loaded s).machine (length s.row)
            (done_open s.host (loaded s) n alone 0 given_some (ended_calm s.host (loaded s) n alone ends 0 given_some).done)
            ).1
            ∙ ap (λ (v : View). v.ring.length) (given_view g);
        rows = tt;
      }

  pub ended_upto : (k : ℕ) → ended_working.going.within k ≡ true → k ≤ n
  unfolding ended_working
  ended_upto = within_ended s.host (loaded s) n alone ends

module _ {Rows : List ℕ → Type 0} {s : Scene} {command : Command} (w : Working Rows s command) where
  abbrev pub course_of : Course Rows
  course_of = record { host = s.host; desk = loaded s; going = w.going }

  abbrev pub ground : View
  ground = ground_of s command

  pub ground_track : OnTrack ground
  ground_track = record { whole = w.whole; inside = (given_ring w.given).inside }

  pub long : 2048 ≤ length s.row
  long = omega (arith, w.whole, (given_ring w.given).least)

  -- ---- settling

  pub settled_at : (k : ℕ) → k ≤ settling s → Stands course_of 0 ground k false (Settle (settling s - k))
  unfolding turns_on at
  settled_at k l =
      settles course_of 0 ground w.rows (settling s) k l (record { inside = w.begin; view = given_view w.given })

  -- ---- waiting for HLT

  -- the first byte time after the settling with HLT on
  pub record Heads : Type 0 where
    pub begun : ℕ
    pub settled : settling s ≤ begun
    pub hlt : (s.host.lines begun).hlt ≡ true
    pub off : (k : ℕ) → settling s ≤ k → k < begun → (s.host.lines k).hlt ≡ false

  -- it is on at once
  abbrev pub heads_on : (s.host.lines (settling s)).hlt ≡ true → Heads
  heads_on on =
      record { begun = settling s; settled = omega arith; hlt = on; off = λ k l m. absurd (omega arith) }

  -- up to there nothing happens
  waits_at :
      (k : ℕ)
      → settling s ≤ k
      → ((i : ℕ) → settling s ≤ i → i < k → (s.host.lines i).hlt ≡ false)
      → Stands course_of 0 ground k false (Settle 0)
  waits_at k l off =
      let on : settling s + (k - settling s) ≡ k = omega arith in
      let none : settling s - settling s ≡ 0 = omega arith in
      rw on at
      (waits course_of 0 ground w.rows (settling s) (k - settling s)
      (λ i h.
      ap (λ (n : ℕ). (s.host.lines n).hlt) (zero-add (settling s + i)) ∙ off (settling s + i) (omega arith) (omega arith))
      (rw none at (settled_at (settling s) (omega arith))))

  -- settling or waiting
  record Waits (k : ℕ) : Type 0 where
    doing : Activity
    early : Early doing
    busy : busy_in doing ≡ true
    stand : Stands course_of 0 ground k false doing

  waiting :
      (k : ℕ) → ((i : ℕ) → settling s ≤ i → i < k → (s.host.lines i).hlt ≡ false) → Waits k
  unfolding busy_in
  waiting k off = by (dec_lt k (settling s))
    where
      by : Dec (k < settling s) → Waits k
      by (yes l) = record { doing = Settle _; early = Early.settles; busy = refl; stand = settled_at k (omega arith) }
      by (no l) = record { doing = Settle 0; early = Early.settles; busy = refl; stand = waits_at k (omega arith) off }

  wait_lasts :
      (k : ℕ)
      → ((i : ℕ) → settling s ≤ i → i < k → (s.host.lines i).hlt ≡ false)
      → Lasts course_of s.row k
  wait_lasts k off =
      let here = waiting k off in
      rw (zero-add k) at (stands_lasts course_of 0 ground here.stand here.busy)

  pub settling_lasts : (k : ℕ) → k ≤ settling s → Lasts course_of s.row k
  settling_lasts k l = wait_lasts k (λ i m h. absurd (omega arith))

  -- a command that ends by itself has seen HLT on
  pub heads_by : (n : ℕ) → EndsAt s.host (loaded s) n → Heads
  heads_by n ends = by (first (λ k. (s.host.lines (settling s + k)).hlt) n)
    where
      off_at : (n : ℕ)
          → ((k : ℕ) → k < n → (s.host.lines (settling s + k)).hlt ≡ false)
          → (i : ℕ)
          → settling s ≤ i
          → i < settling s + n
          → (s.host.lines i).hlt ≡ false
      off_at n none i l h =
          let on : settling s + (i - settling s) ≡ i = omega arith in
          rw on at (none (i - settling s) (omega arith))

      by : FirstOrNone (λ k. (s.host.lines (settling s + k)).hlt) n → Heads
      by (inl (k, l, f)) =
          record { begun = settling s + k; settled = omega arith; hlt = f.passes; off = off_at k f.none }
      by (inr none) =
          absurd
          (true≢false
          (sym (wait_lasts n (λ i l h. off_at n none i l (omega arith))).busy ∙ ends.over))

  module _ (heads : Heads) where
    -- the view as it begins
    abbrev pub beginning : View
    beginning = stands ground heads.begun false (Settle 0)

    pub beginning_track : OnTrack beginning
    beginning_track = on_track ground ground_track heads.begun false (Settle 0)

    pub beginning_inside : beginning.ring.position < length s.row
    beginning_inside = head_inside beginning beginning_track

    pub begins : Stands course_of heads.begun beginning 0 false (Settle 0)
    unfolding turns_on
    begins =
        let here = waits_at heads.begun heads.settled heads.off in
        let same : 0 + heads.begun ≡ heads.begun + 0 = omega arith in
        record {
          inside = rw same at here.inside;
          view = ap (λ (k : ℕ). view_of (at s.host (loaded s) k)) (sym same) ∙ here.view;
        }

    -- up to there it is Busy, and moves no byte
    pub waits_lasts : (k : ℕ) → k < heads.begun → Lasts course_of s.row k
    waits_lasts k l = wait_lasts k (λ i m h. heads.off i m (omega arith))

    pub waits_silent : TypeTwo (job_of command) → (k : ℕ) → k < heads.begun → Silent (deed_at s.host (loaded s) k)
    unfolding order_of
    waits_silent two k l =
        let here = waiting k (λ i m h. heads.off i m (omega arith)) in
        rw (zero-add k) at (early_at course_of 0 ground here.stand here.busy w.rows two here.early)

    -- it ends where it comes to be idle, and lasts up to there
    pub over_at :
        {n : ℕ} {missing : Bool}
        → Stands course_of heads.begun beginning n missing Idle
        → ((k : ℕ) → k < n → Lasts course_of s.row (heads.begun + k))
        → OverAt s (heads.begun + n) missing
    unfolding busy_in
    over_at {n} idle lasting =
        record {
          ends = record {
            busy = λ k l. (by k l (dec_lt k heads.begun)).busy;
            over = ap (λ (v : View). busy_in v.activity) idle.view;
          };
          told = ap (λ (v : View). v.missing) idle.view;
          row = λ k l. same k l (dec_lt k (heads.begun + n));
        }
      where
        by : (k : ℕ) → k < heads.begun + n → Dec (k < heads.begun) → Lasts course_of s.row k
        by k l (yes h) = waits_lasts k h
        by k l (no h) =
            let e : heads.begun + (k - heads.begun) ≡ k = omega arith in
            rw e at (lasting (k - heads.begun) (omega arith))

        same : (k : ℕ) → k ≤ heads.begun + n → Dec (k < heads.begun + n) → (at s.host (loaded s) k).row ≡ s.row
        same k l (yes h) = (by k h (dec_lt k heads.begun)).same
        same k l (no h) =
            let e : heads.begun + n ≡ k = omega arith in
            rw e at (ap (λ (v : View). v.row) idle.view)

-- A search, over what it is after, where it starts, and how many index pulses it has counted before: it goes on until a cell
-- ends what it is after, or until the fifth pulse. Assumes nothing.
use mathlib.Core.Path.{◌≡◌, refl, sym, ap, ◌∙◌, subst}
use mathlib.Core.Bool.{Bool, true, false}
use mathlib.Core.List.{List}
use Prim.Native.Nat.{ℕ, zero, suc, ◌+◌, ◌-◌, ◌≤◌, ◌<◌}
use native.Mathlib.Nat.{add-zero, zero-add}
use native.Mathlib.Omega.{arith}
use lib.Dec.{leb, eqb}
use lib.ListN.{length}
use borrow.Author.Tests.{le-leb, lt-leb}
use Rattle.activity.specs.declared.Seen.{Seen}
use Rattle.activity.specs.Acts.{pass}
use Rattle.activity.specs.Limits.{busy_in}
use Rattle.activity.specs.declared.Activity.{Activity}
use Rattle.activity.specs.declared.Activity.TheVariants.{Idle, Settle}
use Rattle.activity.specs.declared.Deed.{Deed}
use Rattle.activity.specs.declared.Deed.TheVariants.{NotFound}
use Rattle.registers.specs.declared.Flags.{Flags}
use Rattle.search.specs.Search.{pulses_seen}
use Rattle.act.specs.Turns.{job_begun, begun_activity}
use Rattle.effects.proofs.Apart.{flags_after}
use Rattle.reachable.specs.ByteTimes.{turns_on}
use Rattle.hosts.specs.Bytes.{deed_at}
use Rattle.hosts.specs.Tracks.{pulses_in}
use Rattle.hosts.proofs.Pulses.{pulse_time, pulses_few, pulses_then}
use Rattle.hosts.proofs.Firsts.{FirstOrNone, first}
use Rattle.hosts.proofs.Keeps.{Keeps}
use Rattle.hosts.proofs.Views.{View, Outside, seen_in, act_in}
use Rattle.hosts.proofs.Courses.{Course, desk_at, beside_at, Lasts}
use Rattle.hosts.proofs.Phases.{stands, PhasePasses, PassesTo, Leaves, Stands, stands_lasts, flags_on, passes_on, loses_on, lasts, bit_stays}
use Rattle.hosts.proofs.Settling.{settle_begins}
use Rattle.hosts.proofs.Passing.{OnTrack, head_inside, pulses_from, pulses_on}
use Rattle.command.specs.Commands.{job_of}

-- ---- what it is after

-- With so many pulses counted and the first n cells looked at it is doing this; with cell n there ends what it is after, or
-- not; and then it goes on with that.
pub record Seeker (v : View) : Type 0 where
  pub doing : ℕ → ℕ → Activity
  pub ends : ℕ → Bool
  pub then : ℕ → Activity
  pub deed : Deed
  pub keeps : Keeps deed
  pub busy : (pulses n : ℕ) → busy_in (doing pulses n) ≡ true

-- the pulses with byte time n, where so many have been counted before it
abbrev pub counted_with : View → ℕ → ℕ → ℕ
counted_with v pulses n = pulses_seen pulses (eqb (turns_on n v.ring).position 0)

-- one byte time of it: "the fifth ends the command with bit 4 before its cell is looked at"
pub record SeeksIn (v : View) (x : Seeker v) (missing : Bool) (o : Outside) (pulses n : ℕ) : Type 0 where
  pub lost :
      leb 5 (counted_with v pulses n) ≡ true
      → act_in (stands v n missing (x.doing pulses n)) o ≡ pass (seen_in (stands v n missing (x.doing pulses n)) o) Idle NotFound
  pub on :
      leb 5 (counted_with v pulses n) ≡ false
      → x.ends n ≡ false
      → PassesTo (stands v n missing (x.doing pulses n)) o (x.doing (counted_with v pulses n) (suc n))
  pub hit :
      leb 5 (counted_with v pulses n) ≡ false
      → x.ends n ≡ true
      → act_in (stands v n missing (x.doing pulses n)) o
      ≡ pass (seen_in (stands v n missing (x.doing pulses n)) o) (x.then n) x.deed

-- ---- where it starts

-- what its first byte time finds: settled, with HLT on, so that the search begins in it, or a search that has begun
pub data Entry (v : View) (hlt : Bool) (begins : Activity) : Activity → Type 0 where
  settled :
      hlt ≡ true
      → ((s : Seen) → job_begun s (job_of v.order.command) ≡ begins)
      → ((s : Seen) → begun_activity v.order s begins ≡ begins)
      → Entry v hlt begins (Settle 0)
  begun : Entry v hlt begins begins

entry_busy : {v : View} {hlt : Bool} {begins a : Activity} → Entry v hlt begins a → busy_in begins ≡ true → busy_in a ≡ true
unfolding busy_in
entry_busy (settled on e enters) busy = refl
entry_busy begun busy = busy

entry_acts :
    {v : View} {hlt : Bool} {begins a : Activity} (missing : Bool) (o : Outside)
    → Entry v hlt begins a
    → o.hlt ≡ hlt
    → act_in (stands v 0 missing a) o ≡ act_in (stands v 0 missing begins) o
entry_acts {v} missing o (settled on e enters) same = settle_begins v o 0 missing _ (same ∙ on) e enters
entry_acts missing o begun same = refl

-- in byte time t, with the view v
pub record SearchFrom {Rows : List ℕ → Type 0} (c : Course Rows) (t : ℕ) (v : View) : Type 0 where
  pub track : OnTrack v
  pub rows : Rows v.row
  pub seeker : Seeker v
  pub seeks : (missing : Bool) (o : Outside) (pulses n : ℕ) → SeeksIn v seeker missing o pulses n
  pub counted : ℕ
  pub few : counted < 5
  pub first : Activity
  pub entry : Entry v (c.host.lines t).hlt (seeker.doing counted 0) first
  pub begins : Stands c t v 0 v.missing first

module _ {Rows : List ℕ → Type 0} {c : Course Rows} {t : ℕ} {v : View} (s : SearchFrom c t v) where
  abbrev x : Seeker v
  x = s.seeker

  -- the byte times before the fifth pulse
  abbrev pub fifth : ℕ
  fifth = pulse_time (4 - s.counted) (length v.row) v.ring.position

  -- what it does n byte times on
  unfoldable pub seek_at : ℕ → Activity
  seek_at zero = s.first
  seek_at (suc n) = s.seeker.doing (s.counted + pulses_from v (suc n)) (suc n)

  pub seek_busy : (n : ℕ) → busy_in (seek_at n) ≡ true
  unfolding seek_at
  seek_busy zero = entry_busy s.entry (x.busy s.counted 0)
  seek_busy (suc n) = x.busy _ (suc n)

  -- it acts as the search that has counted so many, from its first byte time on
  acts_as :
      (o : Outside) (n : ℕ)
      → o.hlt ≡ (c.host.lines (t + n)).hlt
      → act_in (stands v n v.missing (seek_at n)) o
      ≡ act_in (stands v n v.missing (x.doing (s.counted + pulses_from v n) n)) o
  unfolding seek_at pulses_in
  acts_as o zero same =
      entry_acts v.missing o s.entry (rw (add-zero t) at same)
      ∙ ap (λ (p : ℕ). act_in (stands v 0 v.missing (x.doing p 0)) o) (sym (add-zero s.counted))
  acts_as o (suc n) same = refl

  few_at : (n : ℕ) → n ≤ fifth → s.counted + pulses_from v n < 5
  few_at n l =
      omega (arith, s.few, pulses_few (4 - s.counted) (length v.row) v.ring.position (head_inside v s.track) n l)

  counts : (n : ℕ) → n ≤ fifth → counted_with v (s.counted + pulses_from v n) n ≡ s.counted + pulses_from v (suc n)
  counts n l = pulses_on v s.track s.counted n (few_at n l)

  unlost : (n : ℕ) → n < fifth → leb 5 (counted_with v (s.counted + pulses_from v n) n) ≡ false
  unlost n l = rw (counts n (omega arith)) (lt-leb 5 (s.counted + pulses_from v (suc n)) (few_at (suc n) l))

  five : leb 5 (counted_with v (s.counted + pulses_from v fifth) fifth) ≡ true
  five =
      rw (counts fifth (omega arith))
      (le-leb 5 (s.counted + pulses_from v (suc fifth))
      (omega (
        arith,
        s.few,
        pulses_then (4 - s.counted) (length v.row) v.ring.position (head_inside v s.track),
      )))

  -- ---- how it goes on

  -- what it is after has not ended with the first n cells
  abbrev pub Unmet : ℕ → Type 0
  Unmet n = (k : ℕ) → k < n → s.seeker.ends k ≡ false

  pub seeking : (n : ℕ) → n ≤ fifth → Unmet n → Stands c t v n v.missing (seek_at n)
  unfolding seek_at
  seeking n l unmet =
      lasts c t v s.rows seek_at n (λ k m. seek_busy k)
      (λ k m o same.
      rw (acts_as o k same)
      (subst
      (λ (pulses : ℕ).
      PhasePasses (seen_in (stands v k v.missing (seek_at k)) o)
      (act_in (stands v k v.missing (x.doing (s.counted + pulses_from v k) k)) o)
      (x.doing pulses (suc k)))
      (counts k (omega arith))
      ((s.seeks v.missing o (s.counted + pulses_from v k) k).on (unlost k (omega arith)) (unmet k m))))
      s.begins

  -- a status bit that each of its deeds leaves
  pub seek_bit :
      (bit : Flags → Bool) (n : ℕ)
      → n ≤ fifth
      → Unmet n
      → ((k : ℕ) → k ≤ n → Leaves bit (deed_at c.host c.desk (t + k)))
      → bit (desk_at c (t + suc n)).machine.flags ≡ bit (desk_at c t).machine.flags
  seek_bit bit n l unmet leaves =
      let none : t + 0 ≡ t = omega arith in
      (rw (zero-add (suc n)) at
      (bit_stays c t v s.rows bit {missing = v.missing} 0 seek_at (suc n)
      (λ k m. rw (zero-add k) (seeking k (omega arith) (λ i h. unmet i (omega arith)))) (λ k m. seek_busy k)
      (λ k m. rw (zero-add k) (leaves k (omega arith)))))
      ∙ ap (λ (k : ℕ). bit (desk_at c k).machine.flags) none

  module _ (n : ℕ) (soon : n < fifth) (unmet : Unmet n) (hit : s.seeker.ends n ≡ true) where
    here : Stands c t v n v.missing (seek_at n)
    here = seeking n (omega arith) unmet

    hits :
        act_in (stands v n v.missing (seek_at n)) (beside_at c (t + n))
        ≡ pass (seen_in (stands v n v.missing (seek_at n)) (beside_at c (t + n))) (x.then n) x.deed
    hits =
        acts_as (beside_at c (t + n)) n refl
        ∙ (s.seeks v.missing (beside_at c (t + n)) (s.counted + pulses_from v n) n).hit (unlost n soon) hit

    -- with cell n there ends what it is after
    pub seek_hit : Stands c t v (suc n) v.missing (s.seeker.then n)
    seek_hit = passes_on c t v s.rows here (seek_busy n) (record { deed = x.deed; acts = hits; keeps = x.keeps })

    pub hit_flags :
        (desk_at c (t + suc n)).machine.flags
        ≡ flags_after (desk_at c (t + n)).machine.flags (beside_at c (t + n)).drq s.seeker.deed
    hit_flags = flags_on c t v here (seek_busy n) s.rows hits

  -- or the fifth pulse comes: bit 4
  pub seek_lost : Unmet fifth → Stands c t v (suc fifth) true Idle
  seek_lost unmet =
      loses_on c t v s.rows (seeking fifth (omega arith) unmet) (seek_busy fifth)
      (acts_as (beside_at c (t + fifth)) fifth refl
      ∙ (s.seeks v.missing (beside_at c (t + fifth)) (s.counted + pulses_from v fifth) fifth).lost five)

  -- up to then it is Busy
  pub seek_lasts : (n : ℕ) → n ≤ fifth → Unmet n → (k : ℕ) → k ≤ n → Lasts c v.row (t + k)
  seek_lasts n l unmet k m = stands_lasts c t v (seeking k (omega arith) (λ i h. unmet i (omega arith))) (seek_busy k)

  -- one or the other
  pub sought : FirstOrNone s.seeker.ends fifth
  sought = first s.seeker.ends fifth

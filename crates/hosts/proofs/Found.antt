-- A Read Sector or Write Sector from its acceptance on: it finds the ID that it goes by, or it ends with Record Not Found at the
-- fifth pulse, and there is none. Assumes nothing.
use mathlib.Core.Path.{◌≡◌, sym, ap, ◌∙◌, subst, refl}
use mathlib.Core.Bool.{Bool, true, false, true≢false}
use mathlib.Core.List.{List}
use mathlib.Core.Logic.{◌⊎◌, inl, inr}
use Prim.Native.Nat.{ℕ, zero, suc, ◌+◌, ◌-◌, ◌%◌, ◌≤◌, ◌<◌}
use native.Mathlib.Nat.{mod-add-mod}
use native.Mathlib.Decide.{dec_lt}
use native.Mathlib.Omega.{arith}
use lib.ListN.{length}
use Rattle.scan.specs.Marks.{lead_of}
use Rattle.scan.specs.Streams.{id_width, id_from, scan_after}
use Rattle.command.specs.Commands.{job_of}
use Rattle.command.specs.Orders.{order_of}
use Rattle.command.specs.Bits.{ibm_lengths}
use Rattle.command.specs.Sizes.{field_size}
use Rattle.command.specs.declared.Command.{Command}
use Rattle.activity.specs.declared.Seen.{Seen}
use Rattle.activity.specs.declared.Activity.TheVariants.{Settle, Search}
use Rattle.search.specs.Search.{after_match}
use Rattle.act.specs.Turns.{job_begun, begun_activity}
use Rattle.registers.specs.declared.Flags.{Flags}
use Rattle.effects.proofs.Apart.{flags_after}
use Rattle.fields.specs.Rings.{cells_of}
use Rattle.reachable.specs.ByteTimes.{turns_on}
use Rattle.hosts.specs.Hosts.{at}
use Rattle.hosts.specs.Bytes.{deed_at}
use Rattle.hosts.specs.Scenes.{Scene, loaded}
use Rattle.hosts.specs.Tracks.{position_at}
use Rattle.command.proofs.Tables.{field_size_most}
use Rattle.hosts.proofs.Pulses.{pulse_time, pulse_least}
use Rattle.hosts.proofs.Firsts.{First, FirstOrNone}
use Rattle.hosts.proofs.Views.{Outside}
use Rattle.hosts.proofs.Courses.{Lasts}
use Rattle.hosts.proofs.Phases.{Stands}
use Rattle.hosts.proofs.Passing.{stream_from, place}
use Rattle.hosts.proofs.Windows.{cells_after}
use Rattle.hosts.proofs.Seeking as seeking
use Rattle.hosts.proofs.Seeking.{SeeksIn, settled}
use Rattle.hosts.proofs.Searching.{TypeTwo, begun_two, hit_at, id_seeker, id_seeks}
use Rattle.hosts.proofs.RingIds.{IdOnRing, Hit, hit_ring, ring_hit, after_hit}
use Rattle.hosts.proofs.Silent.{Silent, Early}
use Rattle.hosts.proofs.Working.{Working, course_of, long, Heads, beginning, beginning_track, beginning_inside, begins, OverAt, over_at, waits_silent, early_at}
use Rattle.effects.specs.Effects.{effect_of, delivered, address_named, record_over, record_read, cell_taken, stepped, halted}

pub id_narrow : (mfm : Bool) → id_width mfm ≤ 10
unfolding lead_of
id_narrow false = omega arith
id_narrow true = omega arith

module _ {Rows : List ℕ → Type 0} {s : Scene} {command : Command} (w : Working Rows s command)
    (two : TypeTwo (job_of command)) (heads : Heads w) where
  -- the search of Type II
  pub two_begins : (seen : Seen) → job_begun seen (job_of (beginning w heads).order.command) ≡ Search 0 (scan_after s.machine.mfm (stream_from (beginning w heads)) 0)
  unfolding order_of scan_after
  two_begins = begun_two (job_of command) two

  pub two_enters :
      (seen : Seen)
      → begun_activity (beginning w heads).order seen (Search 0 (scan_after s.machine.mfm (stream_from (beginning w heads)) 0))
      ≡ Search 0 (scan_after s.machine.mfm (stream_from (beginning w heads)) 0)
  unfolding begun_activity
  two_enters seen = refl

  pub looks : (missing : Bool) (o : Outside) (pulses n : ℕ) → SeeksIn (beginning w heads) (id_seeker (beginning w heads)) missing o pulses n
  unfolding order_of
  looks = id_seeks (beginning w heads) (beginning_track w heads) two

  abbrev pub id_search : seeking.SearchFrom (course_of w) heads.begun (beginning w heads)
  id_search =
      record {
        track = beginning_track w heads;
        rows = w.rows;
        seeker = id_seeker (beginning w heads);
        seeks = looks;
        counted = 0;
        few = omega arith;
        first = Settle 0;
        entry = settled heads.hlt two_begins two_enters;
        begins = begins w heads;
      }

  -- the byte times before its fifth pulse
  abbrev pub fifth_of : ℕ
  fifth_of = pulse_time 4 (length s.row) (beginning w heads).ring.position

  seek_early : (n : ℕ) → Early (seeking.seek_at id_search n)
  unfolding seeking.seek_at
  seek_early zero = Early.settles
  seek_early (suc n) = Early.searches

  -- with its cell q there ends the first ID that it goes by
  pub record Found : Type 0 where
    pub q : ℕ
    pub soon : q < fifth_of
    pub first : First (hit_at (beginning w heads)) q

  -- there ends none before the fifth pulse
  pub record Lost : Type 0 where
    pub none : (k : ℕ) → k < fifth_of → hit_at (beginning w heads) k ≡ false

  pub searched : Found ⊎ Lost
  searched = by (seeking.sought id_search)
    where
      by : FirstOrNone (hit_at (beginning w heads)) fifth_of → Found ⊎ Lost
      by (inl (q, soon, f)) = inl (record { q = q; soon = soon; first = f })
      by (inr none) = inr (record { none = none })

module _ {Rows : List ℕ → Type 0} {s : Scene} {command : Command} {w : Working Rows s command}
    {two : TypeTwo (job_of command)} {heads : Heads w} where
  -- ---- none

  module _ (f : Lost w two heads) where
    -- "the fifth ends the command with bit 4"
    pub lost_over : OverAt s (heads.begun + suc (fifth_of w two heads)) true
    lost_over =
        over_at w heads (seeking.seek_lost (id_search w two heads) f.none)
        (λ k l. seeking.seek_lasts (id_search w two heads) (fifth_of w two heads) (omega arith) f.none k (omega arith))

    -- what stands on the ring would have passed within a round
    pub lost_none : (p : ℕ) → IdOnRing s p → ⊥
    lost_none p on =
        let (k, near, hit) = ring_hit s command heads.begun (beginning_inside w heads) p on in
        true≢false
        (sym hit
        ∙ f.none k
        (omega (
          arith,
          id_narrow s.machine.mfm,
          long w,
          pulse_least 4 (length s.row) (beginning w heads).ring.position (beginning_inside w heads),
        )))

  -- ---- the ID

  module _ (f : Found w two heads) where
    -- the byte times up to its last cell, that one too
    abbrev pub found_time : ℕ
    found_time = heads.begun + suc f.q

    pub hit : Hit s command heads.begun f.q
    hit = hit_ring s command heads.begun (omega (arith, long w)) f.q f.first.passes

    -- where it stands, and the bytes of the data field after it
    abbrev pub found_place : ℕ
    found_place = position_at (length s.row) (beginning w heads).ring.position hit.a

    abbrev pub found_size : ℕ
    found_size =
        field_size (ibm_lengths s.machine.chip s.byte) (id_from s.machine.mfm (cells_of s.row) found_place).length

    pub found_on : IdOnRing s found_place
    found_on = hit.on_ring

    pub found_view :
        Stands (course_of w) heads.begun (beginning w heads) (suc f.q) false
        (after_match (ibm_lengths s.machine.chip s.byte) (id_from s.machine.mfm (cells_of s.row) found_place).length
        (job_of command))
    unfolding order_of
    found_view =
        subst
        (λ (code : ℕ). Stands (course_of w) heads.begun (beginning w heads) (suc f.q) false
        (after_match (ibm_lengths s.machine.chip s.byte) code (job_of command)))
        hit.length_is
        (seeking.seek_hit (id_search w two heads) f.q f.soon f.first.none f.first.passes)

    pub found_size_lem : found_size ≤ 1024
    found_size_lem = field_size_most _ _

    -- the cells after it
    pub found_cells :
        (i : ℕ)
        → cells_after (beginning w heads) (suc f.q) i
        ≡ cells_of s.row (found_place + id_width s.machine.mfm + i)
    found_cells = after_hit s command heads.begun f.q hit

    -- and the head i byte times later
    pub found_place_lem :
        (i : ℕ)
        → (turns_on (suc f.q + i) (beginning w heads).ring).position
        ≡ (found_place + id_width s.machine.mfm + i) % length s.row
    found_place_lem i =
        place (beginning w heads) (beginning_track w heads) (suc f.q + i)
        ∙ ap (λ (k : ℕ). k % length s.row) (omega (arith, hit.ends))
        ∙ sym (mod-add-mod ((beginning w heads).ring.position + hit.a) (length s.row) (id_width s.machine.mfm + i))
        ∙ ap (λ (k : ℕ). k % length s.row) (omega arith)

    -- it has passed within a round and its width
    pub found_soon : suc f.q < length s.row + id_width s.machine.mfm
    found_soon =
        let (k, near, hits) =
        ring_hit s command heads.begun (beginning_inside w heads) found_place found_on in
        by k near hits (dec_lt k f.q)
      where
        by : (k : ℕ)
            → suc k < length s.row + id_width s.machine.mfm
            → hit_at (beginning w heads) k ≡ true
            → Dec (k < f.q)
            → suc f.q < length s.row + id_width s.machine.mfm
        by k near hits (yes l) = absurd (true≢false (sym hits ∙ f.first.none k l))
        by k near hits (no l) = omega arith

    -- ---- up to it

    pub found_lasts : (k : ℕ) → k ≤ f.q → Lasts (course_of w) s.row (heads.begun + k)
    found_lasts k l = seeking.seek_lasts (id_search w two heads) f.q (omega (arith, f.soon)) f.first.none k l

    -- no byte has been moved
    pub found_silent : (k : ℕ) → k < found_time → Silent (deed_at s.host (loaded s) k)
    unfolding order_of
    found_silent k l = by (dec_lt k heads.begun)
      where
        by : Dec (k < heads.begun) → Silent (deed_at s.host (loaded s) k)
        by (yes h) = waits_silent w heads two k h
        by (no h) =
            let j : ℕ = k - heads.begun in
            let e : heads.begun + j ≡ k = omega arith in
            rw e at
            (early_at (course_of w) heads.begun (beginning w heads)
            (seeking.seeking (id_search w two heads) j (omega (arith, f.soon)) (λ i m. f.first.none i (omega arith)))
            (seeking.seek_busy (id_search w two heads) j) w.rows two (seek_early w two heads j))

    -- "a good match clears it": bit 3
    pub found_crc : (at s.host (loaded s) found_time).machine.flags.crc ≡ false
    unfolding flags_after effect_of delivered address_named record_over record_read cell_taken stepped halted
    found_crc = ap (λ (g : Flags). g.crc) (seeking.hit_flags (id_search w two heads) f.q f.soon f.first.none f.first.passes)

-- The Write Sector of demand 2, whole: the ID that it went by, the track that it left, and the bytes that it took.
-- Assumes nothing.
use mathlib.Core.Path.{◌≡◌, refl, sym, ap, ◌∙◌}
use mathlib.Core.Bool.{Bool, true, false, true≢false}
use mathlib.Core.Logic.{◌⊎◌, inl, inr}
use Prim.Native.Nat.{ℕ, suc, ◌+◌, ◌-◌, ◌%◌, ◌≤◌, ◌<◌}
use native.Mathlib.Nat.{mod-lt}
use native.Mathlib.Decide.{dec_lt, ℕ_discrete}
use native.Mathlib.Omega.{arith}
use lib.ListN.{length}
use Rattle.common.proofs.Cases.{never}
use Rattle.scan.specs.Streams.{id_width}
use Rattle.command.specs.Commands.{class_of, job_of}
use Rattle.command.specs.Orders.{order_of}
use Rattle.command.specs.declared.Command.TheVariants.{WriteSector}
use Rattle.activity.specs.declared.Activity.TheVariants.{Preamble}
use Rattle.activity.specs.declared.Deed.{Deed}
use Rattle.activity.specs.declared.Deed.TheVariants.{Nothing, Take, Written}
use Rattle.search.specs.Search.{after_match}
use Rattle.writing.specs.Writing.{last_kept, mark_place, preamble_deed}
use Rattle.registers.specs.declared.Ring.{Ring}
use Rattle.registers.specs.declared.Flags.{Flags}
use Rattle.accepting.specs.Accepting.{held_by}
use Rattle.fields.specs.Rings.{cells_of}
use Rattle.wd.proofs.Valid.{Held}
use Rattle.reachable.specs.ByteTimes.{turns_on}
use Rattle.reachable.proofs.Counts.{turns_position}
use Rattle.hosts.specs.Hosts.{served_at, at, AloneUntil}
use Rattle.hosts.specs.Bytes.{deed_at, takes, taken}
use Rattle.hosts.proofs.RingLaws.{turns_length, turns_add}
use Rattle.hosts.proofs.Accepted.{given_flags, given_dr}
use Rattle.hosts.proofs.Views.{View}
use Rattle.hosts.proofs.ByteTimes.{kind_later}
use Rattle.hosts.proofs.Courses.{AnyRow, ends_once}
use Rattle.hosts.proofs.Phases.{stands, from_there}
use Rattle.hosts.proofs.Passing.{OnTrack, on_track}
use Rattle.hosts.proofs.Searching.{writes_two}
use Rattle.hosts.proofs.RingIds.{IdOnRing}
use Rattle.hosts.proofs.Working.{TakenUp, given_ring, Working, ended_working, ended_upto, course_of, Heads, heads_by, beginning, beginning_track}
use Rattle.hosts.proofs.Found.{Found, Lost, searched, lost_over, found_time, found_place, found_size, found_on, found_view, found_place_lem, found_silent}
use Rattle.hosts.proofs.DrByte.{found_byte}
use Rattle.hosts.proofs.Collected.{listed, listed_same, Stretch, collects}
use Rattle.command.proofs.Tables.{field_size_most}
use Rattle.exact.specs.Demand2.{Session, write_scene, begun, Commands, NoMark, after}
use Rattle.exact.proofs.NextCommand.{later}
use Rattle.exact.proofs.SectorField.{Field, field_reach}
use Rattle.exact.proofs.OneMark.{Behind}
use Rattle.exact.proofs.OldIds.{WrittenOver}
use Rattle.exact.proofs.WriteActs.{silent_still, asks_still}
use Rattle.exact.proofs.WriteStages.{WriteBegun, field, takes_ring, written_over, took_dr, asks_deed, take_deed, high_deed, low_deed, last_deed}
use Rattle.exact.proofs.WrittenTrack.{written_over_track, written_behind}

-- the ring stays one as it turns
turns_held : (n : ℕ) (r : Ring) → Held r → Held (turns_on n r)
turns_held n r h =
    record {
      least = rw (turns_length n r) h.least;
      most = rw (turns_length n r) h.most;
      inside =
          rw (turns_position n r h.inside, turns_length n r)
          (mod-lt (r.position + n) (omega (arith, h.inside)));
    }

module _ (s : Session) (k : Commands s) where
  pub alone : AloneUntil s.writer (begun s) s.written
  alone i l = k.next i (omega (arith, later s k))

  -- "ends by itself with no error bit": it is not held by protection
  not_held : held_by WriteSector s.lines ≡ false
  unfolding class_of at
  not_held = by (held_by WriteSector s.lines) refl
    where
      by : (held : Bool) → held_by WriteSector s.lines ≡ held → held_by WriteSector s.lines ≡ false
      by false e = e
      by true e =
          let z : true ≡ false =
          sym e
          ∙ sym (ap (λ (f : Flags). f.protected) (given_flags (write_scene s) WriteSector k.writes refl k.accepted))
          ∙ sym (kind_later s.writer (begun s) s.written alone).0
          ∙ k.fine.protected in
          never (cc)

  pub given : TakenUp (write_scene s) WriteSector
  unfolding class_of
  given =
      record {
        decodes = k.writes;
        works = refl;
        accepted = k.accepted;
        stays = simp (not_held, k.ready);
      }

  abbrev pub working : Working AnyRow (write_scene s) WriteSector
  working = ended_working given s.written alone k.ends

  abbrev pub heads : Heads working
  heads = heads_by working s.written k.ends

  pub found : Found working writes_two heads
  found = by (searched working writes_two heads)
    where
      by : Found working writes_two heads ⊎ Lost working writes_two heads → Found working writes_two heads
      by (inl f) = f
      by (inr f) =
          let is = lost_over f in
          let same = ends_once s.writer (begun s) _ s.written is.ends k.ends in
          absurd (true≢false (sym (rw same at is.told) ∙ k.fine.missing))

  -- ---- after the ID

  -- the byte times up to its last cell, where it stands, and the bytes of the field
  abbrev pub time : ℕ
  time = found_time found

  abbrev pub p : ℕ
  p = found_place found

  abbrev pub size : ℕ
  size = found_size found

  pub on_ring : IdOnRing (write_scene s) (found_place found)
  on_ring = found_on found

  -- the view as the field begins
  abbrev pub there : View
  there = stands (beginning working heads) (suc found.q) false (Preamble (size + 3) 0)

  there_track : OnTrack there
  there_track =
      on_track (beginning working heads) (beginning_track working heads) (suc found.q) false (Preamble (size + 3) 0)

  pub writes_field : WriteBegun (course_of working) s.written time size there
  unfolding after_match order_of job_of
  writes_field =
      record {
        alone = alone;
        ends = k.ends;
        upto = ended_upto given s.written alone k.ends;
        start =
            from_there (course_of working) heads.begun (beginning working heads)
            (found_view found);
        whole = there_track.whole;
        held =
            turns_held (suc found.q) (beginning working heads).ring
            (turns_held heads.begun s.machine.ring (given_ring given));
        short = field_size_most _ _;
        single = k.single;
        served = k.fine.lost;
      }

  abbrev pub written : Field
  written = field (course_of working) time size there writes_field

  -- the byte time of data cell i
  abbrev pub cell_time : ℕ → ℕ
  cell_time i = time + (mark_place s.machine.mfm + i)

  -- each data cell took DR as the host left it
  pub took_byte :
      (i : ℕ)
      → i < size
      → written.bytes i ≡ (served_at s.writer (cell_time i) (at s.writer (begun s) (cell_time i))).machine.regs.dr
  took_byte i l = took_dr (course_of working) time size there writes_field i l

  after_id : (j : ℕ) → (turns_on j there.ring).position ≡ (p + id_width s.machine.mfm + j) % length s.track
  after_id j =
      ap (λ (r : Ring). r.position) (turns_add (suc found.q) j (beginning working heads).ring) ∙ found_place_lem found j

  -- over the cell that is its own
  pub took_place :
      (i : ℕ)
      → i < size
      → (at s.writer (begun s) (cell_time i)).machine.ring.position
      ≡ (p + id_width s.machine.mfm + (mark_place s.machine.mfm + i)) % length s.track
  took_place i l =
      ap (λ (r : Ring). r.position) (takes_ring (course_of working) time size there writes_field i (omega arith))
      ∙ after_id (mark_place s.machine.mfm + i)

  -- the FF ends it
  pub over : time + field_reach written ≡ s.written
  over = written_over (course_of working) time size there writes_field

  low_byte : (i : ℕ) → i < size → written.bytes i < 256
  unfolding class_of
  low_byte i l =
      rw (took_byte i l)
      (found_byte s.writer (begun s) (given_dr (write_scene s) WriteSector k.writes refl k.accepted k.dr)
      (cell_time i))

  -- ---- the bytes that it took

  abbrev doing : ℕ → Deed
  doing i = deed_at s.writer (begun s) i

  takes_at : (i j : ℕ) (d : Deed) → time + j ≡ i → doing (time + j) ≡ d → takes (doing i) ≡ takes d
  takes_at i j d e is = ap (λ (x : ℕ). takes (doing x)) (sym e) ∙ ap takes is

  -- it takes them in the byte times of the data cells, and in no other
  pub stretch :
      Stretch (λ i. takes (deed_at s.writer (begun s) i)) (time + mark_place s.machine.mfm) size s.written
  unfolding takes
  stretch =
      record {
        within = omega (arith, over);
        before = λ i l. early i l (dec_lt i (time));
        during =
            λ i l.
            takes_at (time + mark_place s.machine.mfm + i) (mark_place s.machine.mfm + i) (Take _)
            (omega arith) (take_deed (course_of working) time size there writes_field i l);
        behind =
            λ i l h.
            late i l h (ℕ_discrete i (cell_time size)) (ℕ_discrete i (cell_time (size + 1)));
      }
    where
      early :
          (i : ℕ)
          → i < time + mark_place s.machine.mfm
          → Dec (i < time)
          → takes (deed_at s.writer (begun s) i) ≡ false
      early i l (yes h) = (silent_still (found_silent found i h)).takes_none
      early i l (no h) =
          takes_at i (i - time) (preamble_deed (i - time + 1)) (omega arith)
          (asks_deed (course_of working) time size there writes_field (i - time) (omega arith))
          ∙ (asks_still (i - time + 1)).takes_none

      late :
          (i : ℕ)
          → time + mark_place s.machine.mfm + size ≤ i
          → i < s.written
          → Dec (i ≡ cell_time size)
          → Dec (i ≡ cell_time (size + 1))
          → takes (deed_at s.writer (begun s) i) ≡ false
      late i l h (yes e) d =
          takes_at i (mark_place s.machine.mfm + size) Nothing (sym e)
          (high_deed (course_of working) time size there writes_field)
      late i l h (no e) (yes d) =
          takes_at i (mark_place s.machine.mfm + (size + 1)) Nothing (sym d)
          (low_deed (course_of working) time size there writes_field)
      late i l h (no e) (no d) =
          takes_at i (mark_place s.machine.mfm + (size + 2)) (Written false) (omega (arith, over))
          (last_deed (course_of working) time size there writes_field)

  -- one for each data cell
  pub took_list : taken s.writer (begun s) s.written ≡ listed written.bytes size
  took_list =
      collects (λ i. takes (deed_at s.writer (begun s) i))
      (λ i. (served_at s.writer i (at s.writer (begun s) i)).machine.regs.dr)
      (time + mark_place s.machine.mfm) size s.written stretch
      ∙ listed_same _ written.bytes size
      (λ i l.
      ap (λ (x : ℕ). (served_at s.writer x (at s.writer (begun s) x)).machine.regs.dr) (omega arith)
      ∙ sym (took_byte i l))

  -- ---- the track that it left

  pub left_over : WrittenOver s.track (at s.writer (begun s) s.written).row p written
  left_over = written_over_track (course_of working) time size there writes_field p on_ring.inside after_id

  pub left_behind :
      NoMark s.machine.mfm (after s.machine.mfm s.track p) (last_kept s.machine.mfm)
      → Behind written
      (λ j. cells_of (at s.writer (begun s) s.written).row (p + id_width s.machine.mfm + j))
  left_behind clear = written_behind (course_of working) time size there writes_field p on_ring.inside after_id low_byte clear

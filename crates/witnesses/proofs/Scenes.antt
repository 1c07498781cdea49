-- Scenes that demand 3 speaks of, and what it says of them: one whose ID has its data mark just outside its window, and one
-- with E and C. Assumes nothing.
use mathlib.Core.Path.{◌≡◌, refl, sym, ap, ◌∙◌}
use mathlib.Core.Bool.{true, false, not-eq-not}
use mathlib.Core.List.{List, [], ◌∷◌, ◌++◌}
use mathlib.Core.Logic.{◌⊎◌, inl, inr}
use Prim.Native.Nat.{ℕ, ◌+◌, ◌≤◌, ◌<◌}
use native.Mathlib.Decide.{dec_lt}
use native.Mathlib.Omega.{arith}
use lib.Dec.{ltb}
use lib.ListN.{replicate}
use borrow.Author.Tests.{ltb-true}
use Rattle.common.specs.Bits.{bit_of}
use Rattle.common.proofs.Arms.{count, Gives, range}
use Rattle.common.proofs.Cases.{never}
use Rattle.crc.specs.Crc.{crc_bit, crc_bits, crc_byte}
use Rattle.scan.specs.Marks.{lead_of}
use Rattle.scan.specs.Rows.{length_within}
use Rattle.scan.specs.declared.Id.{Id}
use Rattle.scan.specs.Streams.{MarkAt, behind, IdAt, crc_from, id_from, IdEnds}
use Rattle.command.specs.Bits.{settles_first, is_multiple, side_of, side_asked}
use Rattle.command.specs.Commands.{decoded_by_both, decoded_of}
use Rattle.command.specs.declared.Chip.{Chip}
use Rattle.command.specs.declared.Chip.TheVariants.{Wd1793, Wd1797}
use Rattle.command.specs.Times.{settle_time_of}
use Rattle.activity.specs.Limits.{busy_in, counts_within}
use Rattle.registers.specs.Registers.{guarded, load_refusal}
use Rattle.registers.specs.Rings.{ring_within, ring_next}
use Rattle.registers.specs.declared.Lines.{Lines}
use Rattle.fields.specs.Rings.{cells_of}
use Rattle.wd.specs.Machines.{valid_of, fresh_machine, power_on}
use Rattle.wd.specs.Loads.{command_answer, load_register}
use Rattle.reachable.specs.ByteTimes.{turns_on}
use Rattle.hosts.specs.Hosts.{at, EndsAt}
use Rattle.hosts.specs.Scenes.{Scene, loaded, SideSuits, Suits, not_found}
use Rattle.hosts.specs.Tracks.{passing}
use Rattle.hosts.proofs.LowRows.{all_low, low_by}
use Rattle.hosts.proofs.Courses.{ends_once}
use Rattle.in_time.specs.Demand3.{InTimePremises, stream_of, OnRing, FirstWhole, window_cells, f9, MarkInWindow}
use Rattle.in_time.proofs.Demand3.{first_once, whole_ring, in_time}
use Rattle.in_time.proofs.Scenes.{reader, reader_quiet, scene_by, asked_by, scene_asked, fresh, fresh_accepts}
use Rattle.multiple.specs.Multiple.{EndedReadSector}
use Rattle.data_marks.specs.ShownMarks.{MarkShown}
use Rattle.data_marks.proofs.ShownMarks.{mark_shown}
use Rattle.witnesses.proofs.LastBusy.{ends_after}
use Rattle.witnesses.proofs.Runs.{id_side_0, id_side_1, outside, runs}

-- in FM no mark stands where no cell is flagged
pub unmarked :
    (cells : ℕ → ℕ) (first n : ℕ)
    → Gives (λ k. ltb (cells k) 256) true (count first n)
    → (a b : ℕ)
    → first ≤ a
    → a < first + n
    → MarkAt false cells a b
    → ⊥
unfolding MarkAt
unmarked cells first n plain a b low high (byte, e) =
    let few = ltb-true (cells a) 256 (sym (range (λ k. ltb (cells k) 256) first n plain low high)) in
    omega arith

-- an FM ID stands at a flagged FE with six cells after it that are not flagged
pub id_at :
    (cells : ℕ → ℕ) (a : ℕ)
    → cells a ≡ 0x1FE
    → Gives (λ i. ltb (cells (behind false a + i)) 256) true (count 0 6)
    → IdAt false cells a
unfolding MarkAt
id_at cells a mark plain =
    record {
      mark = (omega arith, mark);
      plain = λ i l.
          ltb-true _ _ (sym (range (λ i. ltb (cells (behind false a + i)) 256) 0 6 plain (omega arith) l));
    }

-- ---- no data mark in the window

outside_asked : InTimePremises outside
unfolding all_low power_on length_within fresh_machine
outside_asked = scene_asked (fresh false Wd1793) outside.row (fresh_accepts false Wd1793) refl (low_by outside.row refl)

outside_first : FirstWhole outside 6
unfolding lead_of id_from crc_from crc_byte crc_bits crc_bit passing cells_of bit_of settles_first side_asked turns_on power_on
    length_within fresh_machine
outside_first =
    record {
      id = record { track = 0; side = 0; sector = 1; length = 0; good = true };
      ends = (0, refl, id_at (stream_of outside) 0 refl refl, refl);
      suits = record { track = refl; sector = refl; side = λ asks. never (cc); good = refl };
      first = λ k l other (a, p, stands, says) suits. absurd (omega arith);
    }

outside_unmarked : MarkInWindow outside 6 → ⊥
unfolding lead_of window_cells passing cells_of bit_of settles_first turns_on power_on length_within fresh_machine
outside_unmarked m =
    unmarked (stream_of outside) 7 30 refl m.a m.byte m.after (omega (arith, m.within)) m.stands

outside_ends : EndsAt reader (loaded outside) 37
outside_ends = ends_after reader (loaded outside) 36 reader_quiet runs.of_outside.goes runs.of_outside.over

-- it ends 30 cells after the ID, in byte time 37, with INTRQ and Record Not Found, though an ID matches; the row stays
pub outside_window :
    InTimePremises outside
    × OnRing outside
    × EndsAt reader (loaded outside) 37
    × ((at reader (loaded outside) 37).machine.wires.intrq ≡ true)
    × ((l : Lines) → not_found (at reader (loaded outside) 37).machine l ≡ true)
    × ((at reader (loaded outside) 37).row ≡ outside.row)
outside_window =
    let (n, ends, says) = in_time outside outside_asked in
    let same : n ≡ 37 = ends_once reader (loaded outside) n 37 ends outside_ends in (
      outside_asked,
      whole_ring outside outside_asked 6 outside_first,
      outside_ends,
      rw same at says.raised,
      λ l. rw same at ((says.exactly l).1 (inr (6, outside_first, outside_unmarked))),
      says.row 37 (omega arith),
    )

-- ---- E and C

-- An ID of side 1 at cell 100, which passes while the head settles and has no data mark; one of side 0 at cell 469, where the
-- search begins, with no data mark in its window either; and one of side 1 at cell 476, whose data mark, F9, is in its window. So a
-- machine that did not settle, or did not look at the side, would end with Record Not Found.
abbrev three_ids : List ℕ
three_ids =
    replicate 100 0x00
    ++ id_side_1
    ++ replicate 362 0x00
    ++ id_side_0
    ++ id_side_1
    ++ replicate 25 0x00
    ++ (0x1F9 ∷ [])
    ++ replicate 1539 0x00

-- 8E asks for side 1, on both chips
suits_side_1 : (chip : Chip) → SideSuits chip 0x8E 1
unfolding bit_of
suits_side_1 Wd1793 = λ asks. refl
suits_side_1 Wd1797 = refl

only_side_1 : (chip : Chip) (side : ℕ) → SideSuits chip 0x8E side → side ≡ 1
unfolding bit_of
only_side_1 Wd1793 side suits = suits refl
only_side_1 Wd1797 side suits = suits

module _ (chip : Chip) where
  -- a Read Sector of side 1 at power-on, TR 0 and SR 1, with E, and C and S, which on the WD1797 are U and L
  abbrev settled : Scene
  settled = scene_by 0x8E (fresh false chip) three_ids

  settled_asked : InTimePremises settled
  unfolding all_low decoded_of decoded_by_both bit_of is_multiple load_register load_refusal guarded valid_of ring_within length_within counts_within busy_in
      power_on fresh_machine command_answer
  settled_asked = asked_by 0x8E (fresh false chip) three_ids refl refl refl refl (low_by three_ids refl)

  -- the ID of side 0 is passed over
  not_asked : (k : ℕ) → k < 13 → (other : Id) → IdEnds false (stream_of settled) k other → Suits settled other → ⊥
  unfolding lead_of id_from passing cells_of bit_of settles_first settle_time_of side_of side_asked turns_on ring_next power_on length_within
      fresh_machine
  not_asked k l other (a, p, stands, says) suits = by (dec_lt 0 a)
    where
      by : Dec (0 < a) → ⊥
      by (yes some) = unmarked (stream_of settled) 1 6 refl a 0xFE some (omega arith) stands.mark
      by (no none) =
          let here : a ≡ 0 = omega arith in
          let side : other.side ≡ 0 = ap (λ (id : Id). id.side) says ∙ (rw here refl) in
          omega (arith, only_side_1 chip other.side suits.side)

  settled_first : FirstWhole settled 13
  unfolding lead_of id_from crc_from crc_byte crc_bits crc_bit passing cells_of bit_of settles_first settle_time_of side_of side_asked
      turns_on ring_next power_on length_within fresh_machine
  settled_first =
      record {
        id = record { track = 0; side = 1; sector = 1; length = 0; good = true };
        ends = (7, refl, id_at (stream_of settled) 7 refl refl, refl);
        suits = record { track = refl; sector = refl; side = suits_side_1 chip; good = refl };
        first = not_asked;
      }

  settled_mark : MarkInWindow settled 13
  unfolding MarkAt lead_of window_cells passing cells_of bit_of settles_first settle_time_of turns_on ring_next power_on length_within
      fresh_machine
  settled_mark =
      record {
        a = 39;
        byte = 0xF9;
        data_mark = f9 refl refl;
        stands = (omega arith, refl);
        after = omega arith;
        within = omega arith;
      }

  -- nothing that Record Not Found is for
  settled_served : (OnRing settled → ⊥) ⊎ ((k : ℕ) × FirstWhole settled k × (MarkInWindow settled k → ⊥)) → ⊥
  settled_served (inl nowhere) = nowhere (whole_ring settled settled_asked 13 settled_first)
  settled_served (inr (k, first, none)) =
      let same : k ≡ 13 = first_once settled settled_asked k 13 first settled_first in
      none (rw same settled_mark)

  -- it ends, within 469 + 2,048 + 1,078 byte times, with INTRQ and without Record Not Found
  pub settled_side_1 :
      InTimePremises settled
      × ((n : ℕ)
      × EndsAt reader (loaded settled) n
      × (n ≤ 3595)
      × ((at reader (loaded settled) n).machine.wires.intrq ≡ true)
      × ((l : Lines) → not_found (at reader (loaded settled) n).machine l ≡ false))
  unfolding bit_of settles_first settle_time_of power_on length_within fresh_machine
  settled_side_1 =
      let (n, ends, says) = in_time settled settled_asked in (
        settled_asked,
        (
          n,
          ends,
          says.found (whole_ring settled settled_asked 13 settled_first),
          says.raised,
          λ l. not-eq-not.0 (λ told. settled_served ((says.exactly l).0 told)),
        ),
      )

  -- and shows which mark it met
  pub settled_shows_mark : (n : ℕ) × EndedReadSector settled n × MarkShown settled n
  settled_shows_mark =
      let (asked, (n, ends, soon, raised, found)) = settled_side_1 in
      let over : EndedReadSector settled n =
      record {
        reads = asked.reads;
        accepted = asked.accepted;
        alone = λ k l. asked.alone k (ends.busy k l);
        ends = ends;
      } in
      (n, over, mark_shown settled n over asked.ready settled.lines (found settled.lines))

-- The viewer and the machine agree: where the viewer finds a sector whose ID is the only one that the command goes by, a Read
-- Sector hands over the bytes of the cells that the viewer hands back. Assumes nothing.
use mathlib.Core.Path.{◌≡◌, refl, sym, ap, ap₂, ◌∙◌}
use mathlib.Core.Bool.{Bool, true}
use mathlib.Core.List.{List, map}
use mathlib.Core.Logic.{◌⊎◌, inl, inr}
use Prim.Native.Nat.{ℕ, ◌+◌, ◌-◌, ◌%◌, ◌<◌}
use native.Mathlib.Nat.{mod-eq_of_lt}
use native.Mathlib.Omega.{arith}
use lib.ListN.{length, get_or, drop, length-drop}
use lib.Seq.{get_or-drop}
use Rattle.std.specs.Prelude.{Result}
use Rattle.refusals.specs.declared.Refusal.{Refusal}
use Rattle.scan.specs.Marks.{byte_of}
use Rattle.scan.specs.Streams.{id_width, id_from}
use Rattle.command.specs.Bits.{ibm_lengths}
use Rattle.command.specs.Sizes.{field_size}
use Rattle.viewer.specs.declared.Place.{Place}
use Rattle.viewer.specs.Views.{part_of, part_cells}
use Rattle.viewer.specs.Plain.{SectorAt, FirstSector}
use Rattle.viewer.proofs.Views.{found_zero, found_one}
use Rattle.command.specs.Commands.{class_of}
use Rattle.command.specs.declared.Command.TheVariants.{ReadSector}
use Rattle.accepting.specs.Accepting.{held_by, writes}
use Rattle.fields.specs.Rings.{cells_of}
use Rattle.hosts.specs.Hosts.{at}
use Rattle.hosts.specs.Scenes.{Scene, loaded, Suits}
use Rattle.hosts.specs.Bytes.{handed}
use Rattle.hosts.proofs.Searching.{reads_two}
use Rattle.hosts.proofs.RingIds.{IdOnRing}
use Rattle.hosts.proofs.Working.{TakenUp}
use Rattle.hosts.proofs.Found.{Lost, searched, lost_none, found_place, found_size, found_on, found_cells}
use Rattle.hosts.proofs.ReadThrough.{working, heads, FoundId, cells_on, Meets}
use Rattle.hosts.proofs.Collected.{listed, listed_same, listed_cells}
use Rattle.hosts.proofs.ReadThrough as through
use Rattle.hosts.proofs.ReadStatus as status
use Rattle.in_time.specs.Demand3.{InTimePremises, OnRing}
use Rattle.in_time.proofs.Hits.{id_ring}
use Rattle.in_time.proofs.Demand3.{in_time}
use Rattle.agreement.specs.Agreement.{Reads, shown, Finds, on_side_0, on_side_1, Viewed, CellByCell, Agrees, Agreement}
use Rattle.agreement.proofs.SectorAfter.{in_row, deleted_told, sector_field}

-- ---- a sector of the track, and the command that goes by its ID

module _ (s : Scene) (n p from to : ℕ) (reading : Reads s n)
    (sector : SectorAt s.machine.mfm s.row s.machine.regs.tr s.machine.regs.sr p from to)
    (suits : Suits s (id_from s.machine.mfm (cells_of s.row) p))
    (lengths : ibm_lengths s.machine.chip s.byte ≡ true)
    (only : (a b : OnRing s) → a.cell ≡ b.cell) where
  abbrev mfm : Bool
  mfm = s.machine.mfm

  given : TakenUp s ReadSector
  unfolding class_of held_by writes
  given =
      record {
        decodes = reading.reads;
        works = refl;
        accepted = reading.accepted;
        stays = simp reading.ready;
      }

  abbrev command : through.EndedSingle s n
  command =
      record {
        given = given;
        alone = λ k l. reading.alone k (reading.ends.busy k l);
        ends = reading.ends;
        single = reading.single;
      }

  -- ---- it goes by that ID

  inside : p < length s.row
  inside = omega (arith, sector.begins, sector.ends, sector.inside)

  on_ring : IdOnRing s p
  on_ring = record { inside = inside; stands = sector.id; suits = suits }

  found : FoundId command
  found = by (searched (working command) reads_two (heads command))
    where
      by : FoundId command ⊎ Lost (working command) reads_two (heads command) → FoundId command
      by (inl f) = f
      by (inr f) = absurd (lost_none f p on_ring)

  same_place : found_place found ≡ p
  same_place =
      only (id_ring (found_on found)) (id_ring on_ring)

  -- ---- and meets its field

  abbrev size : ℕ
  size = found_size found

  ends : to ≡ from + size
  unfolding field_size
  ends =
      sector.ends
      ∙ ap₂ (λ (ibm : Bool) (q : ℕ). from + field_size ibm (id_from mfm (cells_of s.row) q).length) (sym lengths) (sym same_place)

  many : to - from ≡ size
  many = omega (arith, ends)

  passes : (j : ℕ) → cells_on command found j ≡ cells_of s.row (p + id_width mfm + j)
  passes j =
      found_cells found j
      ∙ ap (λ (q : ℕ). cells_of s.row (q + id_width mfm + j)) same_place

  abbrev meets : Meets s n
  meets =
      record {
        reads = command;
        found = found;
        mark = sector.mark;
        place = sector.cell;
        field = sector_field mfm s.row _ _ p from to sector (cells_on command found) passes size ends;
      }

  -- ---- its bytes

  byte_is : (i : ℕ) → i < to - from → through.byte meets i ≡ byte_of (get_or s.row (from + i) 0)
  byte_is i l =
      ap byte_of
      (passes (sector.cell + i)
      ∙ ap (cells_of s.row) (omega (arith, sector.begins))
      ∙ in_row mfm s.row _ _ p from to sector (from + i) (omega arith))

  handed_cells : handed s.host (loaded s) n ≡ map byte_of (part_of s.row from to)
  handed_cells =
      through.handed_list meets
      ∙ ap (listed (through.byte meets)) (sym many)
      ∙ listed_same (through.byte meets) (λ i. byte_of (get_or (drop from s.row) i 0)) (to - from)
      (λ i l. byte_is i l ∙ ap byte_of (sym (get_or-drop from s.row i 0)))
      ∙ listed_cells byte_of (drop from s.row) (to - from) (rw (length-drop from s.row) (omega (arith, sector.inside)))

  handed_place : (i : ℕ) → i < to - from
      → (at s.host (loaded s) (through.from meets + i)).machine.ring.position ≡ from + i
  handed_place i l =
      through.handed_place meets i (omega (arith, many))
      ∙ ap (λ (q : ℕ). (q + id_width mfm + (sector.cell + i)) % length s.row) same_place
      ∙ ap (λ (q : ℕ). q % length s.row) (omega (arith, sector.begins))
      ∙ mod-eq_of_lt (omega (arith, sector.inside))

  cell_by_cell : CellByCell s from to n (through.from meets)
  cell_by_cell =
      let most = through.within meets in
      record {
        within = omega (arith, many);
        cell = handed_place;
        byte = λ i l. through.handed_byte meets i (omega (arith, many)) ∙ byte_is i l;
      }

  -- ---- all of it

  agrees : (s0 s1 : List ℕ) → shown s s0 s1 ≡ part_of s.row from to → Agrees s s0 s1 from to n
  agrees s0 s1 part =
      record {
        bytes = handed_cells ∙ ap (map byte_of) (sym part);
        each = (through.from meets, cell_by_cell);
        status = λ l. rw (deleted_told mfm s.row _ _ p from to sector) at (status.told meets l);
        lost = status.late_only meets;
      }

-- ---- the sector that the viewer finds

module _ (s : Scene) (s0 s1 : List ℕ) (from to : ℕ) (viewed : Viewed s s0 s1 from to) where
  -- the sector of the track that it finds, and what it hands back
  record Sector : Type 0 where
    p : ℕ
    is : FirstSector s.machine.mfm s.row s.machine.regs.tr s.machine.regs.sr p from to
    part : shown s s0 s1 ≡ part_of s.row from to

  its : Sector
  unfolding part_cells
  its = by viewed.finds
    where
      on : (side : List ℕ) → side ≡ s.row → shown s s0 s1 ≡ part_of side from to
          → (p : ℕ) → FirstSector s.machine.mfm side s.machine.regs.tr s.machine.regs.sr p from to → Sector
      on side e part p f =
          record { p = p; is = rw e at f; part = part ∙ ap (λ (row : List ℕ). part_of row from to) e }

      by : Finds s s0 s1 from to → Sector
      by (on_side_0 e place) =
          let f = found_zero s0 s1 s.machine.mfm s.machine.regs.tr s.machine.regs.sr from to place in
          on s0 e (ap (λ (x : Result Place Refusal). part_cells x s0 s1) place) f.0 f.1
      by (on_side_1 e place) =
          let f = found_one s0 s1 s.machine.mfm s.machine.regs.tr s.machine.regs.sr from to place in
          on s1 e (ap (λ (x : Result Place Refusal). part_cells x s0 s1) place) f.0 f.1

  its_suits : Suits s (id_from s.machine.mfm (cells_of s.row) its.p)
  its_suits =
      record {
        track = its.is.is.of_track;
        sector = its.is.is.of_sector;
        side = viewed.side its.p its.is;
        good = its.is.is.good;
      }

  -- whatever HLT does, if the command ends by itself
  pub agree_ended : (n : ℕ) → Reads s n → Agrees s s0 s1 from to n
  agree_ended n reading = agrees s n its.p from to reading its.is.is its_suits viewed.lengths viewed.only s0 s1 its.part

  -- "where the viewer finds a sector on a track whose ID is the only one of its track and sector, a Read Sector's data bytes
  -- are those cells' bytes": of every scene of demand 3, which says that it ends
  pub agree : InTimePremises s → Agreement s s0 s1 from to
  agree asked =
      let (n, ends, time) = in_time s asked in (
        n,
        ends,
        agree_ended n
            (record {
              reads = asked.reads;
              single = asked.single;
              accepted = asked.accepted;
              ready = asked.ready;
              alone = asked.alone;
              ends = ends;
            }),
      )

-- The Read Sector of demand 2 after its Write Sector: it goes by the same ID, and meets the field that was written.
-- Assumes nothing.
use mathlib.Core.Path.{◌≡◌, refl, sym, ap, ap₂, ◌∙◌, subst}
use mathlib.Core.Bool.{Bool}
use mathlib.Core.List.{List}
use mathlib.Core.Logic.{◌⊎◌, inl, inr}
use Prim.Native.Nat.{ℕ, ◌+◌, ◌-◌, ◌%◌}
use native.Mathlib.Omega.{arith}
use lib.ListN.{length}
use Rattle.scan.specs.DataMarks.{mark_byte}
use Rattle.scan.specs.Streams.{MarkAt, IdAt, id_width, id_from}
use Rattle.scan.specs.declared.Id.{Id}
use Rattle.command.specs.Commands.{class_of}
use Rattle.command.specs.Sizes.{field_size}
use Rattle.command.specs.declared.Command.TheVariants.{ReadSector}
use Rattle.writing.specs.Writing.{last_kept, last_zero, mark_place}
use Rattle.accepting.specs.Accepting.{writes, held_by}
use Rattle.fields.specs.Rings.{cells_of}
use Rattle.hosts.specs.Hosts.{served_at, at}
use Rattle.hosts.proofs.Idling.{left_row}
use Rattle.hosts.specs.Scenes.{Suits}
use Rattle.hosts.proofs.Searching.{reads_two}
use Rattle.hosts.proofs.RingIds.{same_side_suits, IdOnRing}
use Rattle.hosts.proofs.Working.{TakenUp}
use Rattle.hosts.proofs.Found.{Lost, searched, lost_none, found_place, found_size, found_on, found_cells}
use Rattle.hosts.proofs.ReadThrough.{FieldIn, EndedSingle, working, heads, FoundId, cells_on, Meets}
use Rattle.exact.specs.Demand2.{Session, begun, asked, write_scene, read_scene, Commands, FewerPremises, after, clear_cells}
use Rattle.exact.proofs.SectorField.{Field}
use Rattle.exact.proofs.OneMark.{Behind, mark_there}
use Rattle.exact.proofs.NextCommand.{later, asked_fixed}
use Rattle.exact.proofs.OldIds.{WrittenOver, stood_before, stands_still}
use Rattle.exact.proofs.WriteSession as write
use Rattle.exact.proofs.WrittenField.{field_read}

module _ (s : Session) (p : ℕ) (a : FewerPremises s p) where
  abbrev k : Commands s
  k = a.commands

  abbrev mfm : Bool
  mfm = s.machine.mfm

  -- the write: where the ID stands that it went by, and its field
  abbrev p' : ℕ
  p' = write.p s k

  abbrev field : Field
  field = write.written s k

  -- the track as it left it
  abbrev now : List ℕ
  now = (at s.writer (begun s) s.written).row

  -- ---- the write's ID is the one

  one : (q : ℕ) → IdOnRing (write_scene s) q → q ≡ p
  one q on = a.one_match q on.inside on.stands on.suits

  pub here : write.p s k ≡ p
  here = one p' (write.on_ring s k)

  over : WrittenOver s.track now (p') field
  over = write.left_over s k

  behind : Behind field (λ j. cells_of now (p' + id_width mfm + j))
  unfolding clear_cells last_kept
  behind = write.left_behind s k (rw here a.no_mark)

  -- ---- the machine and the track that the read finds

  same_mfm : (asked s).machine.mfm ≡ mfm
  same_mfm = (asked_fixed s).density

  same_row : (asked s).row ≡ now
  unfolding served_at
  same_row =
      let e : s.written + (s.waited - s.written) ≡ s.waited = omega (arith, later s k) in
      rw e at
      (left_row s.writer (begun s) s.written (s.waited - s.written) (λ i l. k.next i (omega arith)) k.ends.over)

  pub given : TakenUp (read_scene s) ReadSector
  unfolding class_of held_by writes
  given =
      record {
        decodes = k.reads;
        works = refl;
        accepted = k.accepted_then;
        stays = simp k.ready_then;
      }

  abbrev pub reading : EndedSingle (read_scene s) s.read
  reading = record { given = given; alone = k.alone; ends = k.ends_then; single = k.same_m ∙ k.single }

  -- ---- it goes by the same ID

  suits_then : (id : Id) → Suits (write_scene s) id → Suits (read_scene s) id
  suits_then id e =
      record {
        track = e.track ∙ sym k.same_tr;
        sector = e.sector ∙ sym k.same_sr;
        side = same_side_suits s.machine.chip (asked s).machine.chip s.byte s.byte_then id.side k.same_side e.side;
        good = e.good;
      }

  suits_before : (id : Id) → Suits (read_scene s) id → Suits (write_scene s) id
  suits_before id e =
      record {
        track = e.track ∙ k.same_tr;
        sector = e.sector ∙ k.same_sr;
        side = same_side_suits (asked s).machine.chip s.machine.chip s.byte_then s.byte id.side (sym k.same_side) e.side;
        good = e.good;
      }

  now_length : length (asked s).row ≡ length s.track
  now_length = ap length same_row ∙ over.same_length

  -- what stands there now, by the machine and the row that it finds
  abbrev id_now : ℕ → Id
  id_now = id_from (asked s).machine.mfm (cells_of (asked s).row)

  abbrev id_before : ℕ → Id
  id_before = id_from mfm (cells_of s.track)

  -- the write's own ID is there for it
  still : IdOnRing (read_scene s) p'
  still =
      let on = write.on_ring s k in
      let there = stands_still s.track now p' field over behind on.stands in
      record {
        inside = rw now_length on.inside;
        stands = rw (same_mfm, same_row) there.0;
        suits =
            suits_then (id_now p')
            (subst (Suits (write_scene s)) (sym ((λ i. id_from (same_mfm i) (cells_of (same_row i)) p') ∙ there.1)) on.suits);
      }

  -- what stands there for the read stood there for the write
  stood_at : (x : ℕ) → IdOnRing (read_scene s) x → IdOnRing (write_scene s) x × (id_now x ≡ id_before x)
  stood_at x on =
      let stands_now : IdAt mfm (cells_of now) x = rw (same_mfm, same_row) at on.stands in
      let old = stood_before s.track now p' field over behind x (omega (arith, on.inside, now_length)) stands_now in
      let same : id_now x ≡ id_before x = (λ i. id_from (same_mfm i) (cells_of (same_row i)) x) ∙ old.1 in (
        record {
          inside = omega (arith, on.inside, now_length);
          stands = old.0;
          suits = subst (Suits (write_scene s)) same (suits_before (id_now x) on.suits);
        },
        same,
      )

  -- so it is the one that it finds
  pub found : FoundId reading
  found = by (searched (working reading) reads_two (heads reading))
    where
      by : FoundId reading ⊎ Lost (working reading) reads_two (heads reading) → FoundId reading
      by (inl f) = f
      by (inr f) = absurd (lost_none f p' still)

  abbrev q : ℕ
  q = found_place found

  stood : IdOnRing (write_scene s) q × (id_now q ≡ id_before q)
  stood = stood_at q (found_on found)

  same_place : q ≡ p'
  same_place = one q stood.0 ∙ sym here

  -- ---- it meets the field

  pub same_size : found_size found ≡ write.size s k
  same_size =
      ap₂ (λ (ibm : Bool) (id : Id). field_size ibm id.length) k.same_lengths (stood.1 ∙ ap id_before same_place)

  -- what passes then is what was written
  pub passes : Behind (write.written s k) (cells_on reading found)
  passes =
      record {
        low = behind.low;
        clear = behind.clear;
        are =
            λ j l.
            found_cells found j
            ∙ ap (λ (x : ℕ). cells_of (asked s).row (x + id_width (asked s).machine.mfm + j)) same_place
            ∙ ap₂ (λ (d : Bool) (row : List ℕ). cells_of row (p' + id_width d + j)) same_mfm same_row
            ∙ over.inner j l;
      }

  pub reads_field :
      FieldIn (asked s).machine.mfm (cells_on reading found) (found_size found)
      (write.written s k).data_mark (mark_place s.machine.mfm)
  reads_field =
      field_read field (cells_on reading found) passes (asked s).machine.mfm _ same_mfm same_size

  -- all of that
  abbrev pub meets : Meets (read_scene s) s.read
  meets =
      record {
        reads = reading;
        found = found;
        mark = (write.written s k).data_mark;
        place = mark_place s.machine.mfm;
        field = reads_field;
      }

  -- the mark that was written stands after the ID
  pub mark_stands :
      MarkAt s.machine.mfm (after s.machine.mfm (asked s).row p) (last_zero s.machine.mfm)
      (mark_byte (write.written s k).data_mark)
  mark_stands =
      subst (λ (q : ℕ). MarkAt mfm (after mfm (asked s).row q) (last_zero mfm) (mark_byte field.data_mark)) here
      (subst (λ (row : List ℕ). MarkAt mfm (after mfm row p') (last_zero mfm) (mark_byte field.data_mark)) (sym same_row)
      (mark_there field (after mfm now p') behind mfm refl))

  -- the cell that is j cells after the ID
  pub same_cell :
      (j : ℕ)
      → (found_place found + id_width (asked s).machine.mfm + j)
      % length (asked s).row
      ≡ (write.p s k + id_width s.machine.mfm + j) % length s.track
  same_cell j =
      ap (λ (x : ℕ). (x + id_width (asked s).machine.mfm + j) % length (asked s).row) same_place
      ∙ ap₂ (λ (d : Bool) (size : ℕ). (p' + id_width d + j) % size) same_mfm now_length

-- The track that a Write Sector leaves: its field after the ID that it went by, and all else as it was. Assumes nothing.
use mathlib.Core.Path.{◌≡◌, refl, sym, ap, ◌∙◌}
use mathlib.Core.List.{List}
use Prim.Native.Nat.{ℕ, ◌+◌, ◌%◌, ◌≤◌, ◌<◌}
use native.Mathlib.Omega.{arith}
use lib.ListN.{length, get_or}
use Rattle.common.specs.Laid.{laid_row}
use Rattle.common.proofs.Laid.{laid_length, laid_in, laid_out}
use Rattle.scan.specs.Marks.{lead_of}
use Rattle.scan.specs.Streams.{id_width}
use Rattle.writing.specs.Writing.{last_kept}
use Rattle.fields.specs.Rings.{cells_of}
use Rattle.reachable.specs.ByteTimes.{turns_on}
use Rattle.hosts.proofs.RingLaws.{mark_moved}
use Rattle.hosts.proofs.Views.{View}
use Rattle.hosts.proofs.Passing.{place}
use Rattle.hosts.proofs.Courses.{Course, desk_at, AnyRow}
use Rattle.exact.specs.Demand2.{NoMark, after}
use Rattle.exact.proofs.RoundPlaces.{round_apart}
use Rattle.exact.proofs.SectorField.{Field, cell_of, field_reach, numbers}
use Rattle.exact.proofs.OneMark.{Behind}
use Rattle.exact.proofs.OldIds.{WrittenOver}
use Rattle.exact.proofs.WriteStages.{WriteBegun, field, took, written_row, places}

module _ {n : ℕ} (c : Course AnyRow) (t size : ℕ) (v : View) (b : WriteBegun c n t size v) (p : ℕ)
    (inside : p < length v.row)
    (after_id : (j : ℕ) → (turns_on j v.ring).position ≡ (p + id_width v.mfm + j) % length v.row) where
  abbrev f : Field
  f = field c t size v b

  abbrev now : List ℕ
  now = (desk_at c n).row

  now_length : length now ≡ length v.row
  now_length =
      ap length (written_row c t size v b)
      ∙ laid_length v.row (λ j. (turns_on j v.ring).position) (cell_of f) (field_reach f)

  on_ring : (row : List ℕ) → length row ≡ length v.row → (j : ℕ)
      → cells_of row (p + id_width v.mfm + j) ≡ get_or row (turns_on j v.ring).position 0
  unfolding cells_of
  on_ring row e j =
      ap (λ (x : ℕ). get_or row x 0) (ap (λ (size : ℕ). (p + id_width v.mfm + j) % size) e ∙ sym (after_id j))

  -- so many cells from the head on
  from_head : (j : ℕ) → (turns_on j v.ring).position ≡ (v.ring.position + j) % length v.row
  from_head = place v (record { whole = b.whole; inside = b.held.inside })

  as_laid : (q : ℕ) → get_or now q 0 ≡ get_or (laid_row v.row (λ j. (turns_on j v.ring).position) (cell_of f) (field_reach f)) q 0
  as_laid q = ap (λ (row : List ℕ). get_or row q 0) (written_row c t size v b)

  pub written_over_track : WrittenOver v.row now p f
  unfolding lead_of
  written_over_track =
      record {
        same_length = now_length;
        inside = inside;
        fits = narrow;
        inner =
            λ j l.
            on_ring now now_length j
            ∙ as_laid (turns_on j v.ring).position
            ∙ laid_in v.row (λ j. (turns_on j v.ring).position) (cell_of f) (field_reach f) (places c t size v b) j 0 l;
        outer =
            λ j l h.
            on_ring now now_length j
            ∙ as_laid (turns_on j v.ring).position
            ∙ laid_out v.row (λ j. (turns_on j v.ring).position) (cell_of f) (field_reach f) (turns_on j v.ring).position 0
            (λ i k e.
            round_apart (length v.row) v.ring.position i j (omega (arith, b.held.inside, b.whole)) (omega arith) h
            (sym (from_head i) ∙ sym e ∙ from_head j))
            ∙ sym (on_ring v.row refl j);
        stood = λ j. sym (on_ring v.row refl j);
      }
    where
      narrow : id_width v.mfm + field_reach f ≤ length v.row
      narrow =
          let n = numbers v.mfm in
          omega (arith, n.id_fits, n.kept_first, n.mark_last, n.near, b.short, b.held.least, b.whole)

  -- where no mark stood in the cells that were kept, and DR held bytes
  pub written_behind :
      ((i : ℕ) → i < size → took c t size v b i < 256)
      → NoMark v.mfm (after v.mfm v.row p) (last_kept v.mfm)
      → Behind f (λ j. cells_of now (p + id_width v.mfm + j))
  written_behind low clear =
      record {
        low = low;
        clear =
            λ a byte l mark.
            clear a byte l
            (mark_moved v.mfm f.old (after v.mfm v.row p) a a (λ i r. sym (on_ring v.row refl (a + i))) byte
            mark);
        are = written_over_track.inner;
      }

-- A step of the program, by what its calls say. Assumes nothing.
use mathlib.Core.Path.{◌≡◌, refl}
use mathlib.Core.Bool.{true, false, ◌&&◌}
use mathlib.Core.List.{List, []}
use Prim.Native.Nat.{ℕ, ◌+◌, ◌-◌}
use native.Mathlib.Nat.{add-zero}
use lib.Dec.{eqb}
use lib.ListN.{length, take}
use lib.Seq.{length-take-le}
use borrow.Author.Tests.{eqb-true}
use Rattle.std.proofs.Common.{Option, None, option_map}
use Rattle.common.proofs.Cases.{both}
use Rattle.picture.specs.Reader.{verdict_of, refused_by, answer_of, filled_of, reader_answer, reader_room}
use Rattle.list.specs.declared.Run.{Run}
use Rattle.list.specs.declared.buffers.Buffers.{Buffers}
use Rattle.list.specs.Input.{Filled, input_left}
use Rattle.list.specs.Listing.{picture_text, is_refused, taken_of}
use Rattle.list.specs.Steps.{step_text, next_run, Stepped}

-- no byte is left: the reader refuses and writes nothing
none_taken : (room : ℕ) → taken_of [] room ≡ None
unfolding taken_of is_refused reader_answer answer_of verdict_of refused_by
none_taken room = refl

none_cells : (room : List ℕ) → room ≡ reader_room [] room
unfolding reader_room filled_of verdict_of
none_cells room = refl

module _ (run : Run) (kept : ℕ) (before : Buffers) (filled : List ℕ) (held : ℕ) (fills : Filled before.input kept filled held) where
  -- the input is at its end after a picture
  pub ended : (page : List ℕ) → page ≡ [] → (eqb held 0 && run.listed) ≡ true
      → Stepped run kept before
      (record { held = None; listed = run.listed; written = run.written })
      (record { input = filled; cells = before.cells; page = page })
  unfolding step_text next_run input_left
  ended page empty over =
      let parts = both (eqb held 0) run.listed over in
      let none : held ≡ 0 = eqb-true held 0 parts.0 in
      record {
        filled = filled;
        held = held;
        fills = fills;
        printed = [];
        says = rw (none, parts.1) refl;
        goes = rw (none, parts.1, none_taken, add-zero) refl;
        left = rw (none, none_taken) refl;
        cells = rw none (none_cells before.cells);
        text = empty;
      }

  -- the next picture is listed or refused
  pub listed :
      (taken left : Option ℕ) (count : ℕ) (after : Buffers)
      → (eqb held 0 && run.listed) ≡ false
      → taken ≡ taken_of (take held filled) (length before.cells)
      → after.page ≡ picture_text (take held filled) before.cells
      → after.cells ≡ reader_room (take held filled) before.cells
      → count ≡ length after.page
      → left ≡ option_map (λ n. held - n) taken
      → after.input ≡ input_left filled held taken
      → Stepped run kept before (record { held = left; listed = true; written = run.written + count }) after
  unfolding step_text next_run
  listed taken left count after test is page cells all_printed behind moves =
      let all : length (take held filled) ≡ held = length-take-le held filled fills.within in
      record {
        filled = filled;
        held = held;
        fills = fills;
        printed = after.page;
        says = rw (all, test) page;
        goes = rw (behind, all_printed, is, all) refl;
        left = rw is at moves;
        cells = cells;
        text = refl;
      }

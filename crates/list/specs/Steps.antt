-- A step of the program: the next picture of the input. What the input holds is not the program's to say, so a step is a
-- relation: some bytes were read, and the rest follows from them. Assumes nothing.
use Rattle.std.specs.Prelude.{◌≡◌, Bool, true, cond, ◌&&◌, List, [], option_map, ℕ, ◌+◌, ◌-◌, eqb, length, take}
use Rattle.picture.specs.Reader.{reader_room}
use Rattle.list.specs.declared.Run.{Run}
use Rattle.list.specs.declared.buffers.Buffers.{Buffers}
use Rattle.list.specs.Input.{Filled, input_left}
use Rattle.list.specs.Listing.{picture_text, taken_of}

-- "only wholly empty input is 9 at a picture's start": where a picture was listed and no byte is held, nothing is printed
unfoldable pub step_text : Bool → List ℕ → List ℕ → List ℕ
step_text listed bytes room = cond (eqb (length bytes) 0 && listed) [] (picture_text bytes room)

-- the run goes on after the picture's bytes; "A refusal .. ends the run", and so does the input's end. So many bytes are
-- written by then.
unfoldable pub next_run : List ℕ → ℕ → ℕ → Run
next_run bytes room written =
    record {
      held = option_map (λ taken. length bytes - taken) (taken_of bytes room);
      listed = true;
      written = written;
    }

-- a step from a run that goes on with so many bytes held, and from what the buffers hold, to the next run and what they hold
-- then. The text that is printed is the page's, and as many bytes as it has are handed to the C library.
pub record Stepped (run : Run) (kept : ℕ) (before : Buffers) (next : Run) (after : Buffers) : Type 0 where
  pub filled : List ℕ
  pub held : ℕ
  pub fills : Filled before.input kept filled held
  pub printed : List ℕ
  pub says : printed ≡ step_text run.listed (take held filled) before.cells
  pub goes : next ≡ next_run (take held filled) (length before.cells) (run.written + length printed)
  pub left : after.input ≡ input_left filled held (taken_of (take held filled) (length before.cells))
  pub cells : after.cells ≡ reader_room (take held filled) before.cells
  pub text : after.page ≡ printed

-- The program from its start to its end, step after step. Assumes nothing.
use Rattle.std.specs.Prelude.{◌≡◌, ◌⊎◌, false, List, [], ◌++◌, Some, None, ℕ, ◌+◌, length}
use Rattle.list.specs.declared.Run.{Run}
use Rattle.list.specs.declared.buffers.Buffers.{Buffers}
use Rattle.list.specs.Steps.{Stepped}

-- how far the program has come: its run, and what its buffers hold
pub record Progress : Type 0 where
  pub run : Run
  pub buffers : Buffers

-- "reads pictures, one after another", "A refusal .. ends the run": so many steps, each from where the one before stopped, and
-- none after the last one; and what they print, one text after another
pub data StepsMade (start : Progress) : ℕ → List ℕ → Progress → Type 0 where
  none : StepsMade start 0 [] start
  more : {n kept : ℕ} {text : List ℕ} {p q : Progress} → StepsMade start n text p → p.run.held ≡ Some kept
      → (step : Stepped p.run kept p.buffers q.run q.buffers)
      → StepsMade start (n + 1) (text ++ step.printed) q

-- before the first picture
abbrev pub first_run : Run
first_run = record { held = Some 0; listed = false; written = 0 }

-- a proved program has to end: after so many steps, more than any input has pictures
abbrev pub most_pictures : ℕ
most_pictures = 0x1000000000000

-- all steps, up to the last one: as many bytes are handed to the C library as their texts have
pub record WholeRun (before : Buffers) (written : ℕ) (after : Buffers) : Type 0 where
  pub made : ℕ
  pub text : List ℕ
  pub last : Run
  pub steps : StepsMade (record { run = first_run; buffers = before }) made text (record { run = last; buffers = after })
  pub count : written ≡ length text
  pub over : (last.held ≡ None) ⊎ (made ≡ most_pictures)

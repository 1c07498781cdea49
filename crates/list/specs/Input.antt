-- The buffer of the input. Assumes nothing.
use Rattle.std.specs.Prelude.{◌≡◌, List, Option, Some, None, ℕ, ◌+◌, ◌-◌, ◌≤◌, length, get_or, take}
use Rattle.common.specs.Laid.{laid_row}

-- a buffer `before` with so many bytes held at its front is read on into: it becomes `after`, and `held` bytes are held then.
-- Those held before stay. What is read after them, and how much, is the C library's to say.
pub record Filled (before : List ℕ) (kept : ℕ) (after : List ℕ) (held : ℕ) : Type 0 where
  pub front : take kept after ≡ take kept before
  pub size : length after ≡ length before
  pub more : kept ≤ held
  pub within : held ≤ length after

-- so many bytes from a place on, moved to the front
abbrev pub moved : List ℕ → ℕ → ℕ → List ℕ
moved buffer from n = laid_row buffer (λ i. i) (λ i. get_or buffer (from + i) 0) n

-- the buffer, of which so many bytes are held, after a picture: the bytes after the picture's move to the front, and where it
-- is refused all stay
unfoldable pub input_left : List ℕ → ℕ → Option ℕ → List ℕ
input_left buffer held None = buffer
input_left buffer held (Some taken) = moved buffer taken (held - taken)

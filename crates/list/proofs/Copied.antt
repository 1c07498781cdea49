-- What is copied to the front of a buffer is what was to be moved there, and all else stays. Assumes nothing.
use mathlib.Core.Path.{◌≡◌, sym, ◌∙◌}
use mathlib.Core.List.{List}
use Prim.Native.Nat.{ℕ, ◌+◌, ◌≤◌, ◌<◌}
use native.Mathlib.Nat.{sub-zero}
use native.Mathlib.Decide.{dec_lt}
use native.Mathlib.Omega.{arith}
use lib.ListN.{length, get_or}
use Rattle.std.proofs.lemmas.Grind.{same_number_lists}
use Rattle.std.specs.List.{CopiedTo, SameFrom}
use Rattle.common.proofs.Laid.{laid_in, laid_out, laid_length, first_places}
use Rattle.list.specs.Input.{moved}

pub copied :
    (before after : List ℕ) (from n : ℕ)
    → n ≤ length before
    → length after ≡ length before
    → CopiedTo before after from 0 n
    → SameFrom before after (0 + n)
    → after ≡ moved before from n
copied before after from n fits size front rest =
    same_number_lists after (moved before from n) (size ∙ sym (laid_length before place content n)) (λ k h. by k (dec_lt k n))
  where
    place : ℕ → ℕ
    place i = i

    content : ℕ → ℕ
    content i = get_or before (from + i) 0

    by : (k : ℕ) → Dec (k < n) → get_or after k 0 ≡ get_or (moved before from n) k 0
    by k (yes l) =
        rw sub-zero at (front k 0 (omega arith) (omega arith))
        ∙ sym (laid_in before place content n (first_places before n fits) k 0 l)
    by k (no l) = rest k 0 (omega arith) ∙ sym (laid_out before place content n k 0 (λ i h e. omega arith))

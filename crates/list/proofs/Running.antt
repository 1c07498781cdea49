-- The program's steps, one after another, as its loop makes them. Assumes nothing.
use mathlib.Core.Path.{◌≡◌, sym, ap, ◌∙◌}
use mathlib.Core.List.{List, [], ◌++◌}
use Prim.Native.Nat.{ℕ, ◌+◌, ◌*◌, ◌≤◌}
use native.Mathlib.Omega.{arith}
use lib.ListN.{length, length-append}
use Rattle.std.proofs.Common.{Some}
use Rattle.list.specs.declared.Run.{Run}
use Rattle.list.specs.Listing.{listing_room}
use Rattle.list.specs.Steps.{Stepped, next_run}
use Rattle.list.specs.Runs.{Progress, StepsMade}
use Rattle.list.specs.Runs.StepsMade.{none, more}

-- the steps made up to here: their texts are what is printed, and that can be counted
pub record Going (start : Progress) (made : ℕ) (here : Progress) : Type 0 where
  pub text : List ℕ
  pub steps : StepsMade start made text here
  pub count : here.run.written ≡ length text
  pub bound : here.run.written ≤ made * listing_room

-- before the first step nothing is printed
pub not_yet : (start : Progress) → start.run.written ≡ 0 → Going start 0 start
not_yet start nothing = record { text = []; steps = none; count = nothing; bound = omega (arith, nothing) }

module _ (start here : Progress) (made : ℕ) (going : Going start made here) where
  pub one_more :
      (next : Progress) (kept : ℕ) → here.run.held ≡ Some kept
      → Stepped here.run kept here.buffers next.run next.buffers
      → next.run.written ≤ here.run.written + listing_room
      → Going start (made + 1) next
  unfolding next_run
  one_more next kept on step most =
      record {
        text = going.text ++ step.printed;
        steps = more going.steps on step;
        count =
            ap (λ (r : Run). r.written) step.goes
            ∙ ap (λ (n : ℕ). n + length step.printed) going.count
            ∙ sym (length-append going.text step.printed);
        bound = omega (arith, going.bound);
      }

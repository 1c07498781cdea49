-- A number that a line takes stands after those that it has. Assumes nothing.
use Rattle.std.proofs.Common.{◌≡◌, [], ◌∷◌, ℕ, ◌+◌, ◌<◌, ◌++◌, length, set, Ok, arith}
use Rattle.std.proofs.lemmas.List.{take_more_set}
use Rattle.script.specs.Lines.{items_of, numbers_with}
use Rattle.script.specs.declared.lines.Numbers.{Numbers}

abbrev pub numbers_and : Numbers → ℕ → Numbers
numbers_and n number = record { cells = set n.cells n.count number; count = n.count + 1 }

-- where there is room
pub number_taken : (n : Numbers) (number : ℕ) → n.count < 65 → numbers_with n number ≡ Ok (numbers_and n number)
unfolding numbers_with
number_taken n number room = grind arith

pub number_last : (n : Numbers) (number : ℕ) → n.count < length n.cells → items_of (numbers_and n number) ≡ items_of n ++ number ∷ []
unfolding items_of
number_last n number room = take_more_set n.cells n.count number room

-- The numbers of refusals: document 01, "Numbers handed back". "The definition gives this paper's number and values for each of
-- the enum's cases." Assumes nothing.
use Rattle.std.specs.Prelude.{List, ◌++◌, ℕ, Result, Ok, Err, ⊤, codes, decimal}
use Rattle.refusals.specs.declared.Refusal.{Refusal}
use Rattle.refusals.specs.declared.Refusal.TheVariants.{Length, Machine, Track, Cell, Register, Busy, Command, Kind, End, Side, Sector, Room}

-- what a call gives beside its values
abbrev pub Outcome : Type 0
Outcome = Result ⊤ Refusal

abbrev pub done : Outcome
done = Ok tt

abbrev pub refused : Refusal → Outcome
refused refusal = Err refusal

-- the number of a refusal
unfoldable pub number_of : Refusal → ℕ
number_of Length = 1
number_of Machine = 2
number_of Track = 3
number_of Cell = 4
number_of Register = 5
number_of Busy = 6
number_of Command = 7
number_of Kind = 8
number_of End = 9
number_of Side = 10
number_of Sector = 11
number_of Room = 12

-- 0: "done"
unfoldable pub number_in : Outcome → ℕ
number_in (Ok _) = 0
number_in (Err refusal) = number_of refusal

-- "A refusal prints `refused` and its number": the bytes of the word and a space, and the number in decimal
unfoldable pub refused_text : Refusal → List ℕ
refused_text refusal = codes "refused " ++ decimal (number_of refusal)

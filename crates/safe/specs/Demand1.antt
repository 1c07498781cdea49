-- Demand 1, "Safe on every input": document 01's table "Numbers handed back", for the calls of the controller, on both chips.
-- Assumes nothing.
use Rattle.std.specs.Prelude.{◌≡◌, true, false, List, ◌⊎◌, ◌↔◌, ℕ, suc, ◌%◌, ◌≤◌, ◌<◌, length}
use Rattle.common.specs.Bits.{bit_of}
use Rattle.command.specs.declared.Chip.{Chip}
use Rattle.command.specs.declared.Chip.TheVariants.{Wd1793, Wd1797}
use Rattle.registers.specs.declared.Lines.{Lines}
use Rattle.wd.specs.declared.Machine.{Machine}
use Rattle.wd.specs.declared.Called.{Called}
use Rattle.wd.specs.declared.Read.{Read}
use Rattle.wd.specs.declared.Passed.{Passed}
use Rattle.wd.specs.Machines.{power_on}
use Rattle.wd.specs.Reads.{read_register}
use Rattle.wd.specs.Rows.{under, Run}
use Rattle.reachable.specs.ByteTimes.{machine_after, row_after, outcome_after, signals, Makes, Counts}
use Rattle.reachable.specs.Limits.{EachCount, Within}
use Rattle.refusals.specs.Numbers.{number_in, done}

-- ---- the conditions

-- from the first to the last
abbrev pub Between : ℕ → ℕ → ℕ → Type 0
Between first last n = (first ≤ n) × (n ≤ last)

-- 1: "outside 2,048..10,416"
abbrev pub OutOfRange : ℕ → Type 0
OutOfRange size = Between 2048 10416 size → ⊥

-- 2: "position not below L, L out of range, or a count above the largest its activity holds in any machine grown from
-- power-on": the limits of `Limits`, which no such machine goes above and each of which one reaches
pub data Invalid (m : Machine) : Type 0 where
  position : m.ring.length ≤ m.ring.position → Invalid m
  range : OutOfRange m.ring.length → Invalid m
  count : (EachCount (Within m.activity) → ⊥) → Invalid m

-- 3: "lent track is not L cells"
abbrev pub NotItsLength : Machine → List ℕ → Type 0
NotItsLength m row = length row ≡ m.ring.length → ⊥

-- 4: "the cell under the head .. is above 511"
abbrev pub AboveFlagged : Machine → List ℕ → Type 0
AboveFlagged m row = 511 < under m row

-- 5: "register number above 3"
abbrev pub NoSuchRegister : ℕ → Type 0
NoSuchRegister number = 3 < number

-- 6: "TR, SR or any command byte outside D0-DF"
pub data Guarded (number b : ℕ) : Type 0 where
  tr : number ≡ 1 → Guarded number b
  sr : number ≡ 2 → Guarded number b
  command : number ≡ 0 → (Between 0xD0 0xDF b → ⊥) → Guarded number b

-- ".. loaded while Busy": bit 0 of the status byte that a read hands back
pub record WhileBusy (m : Machine) (l : Lines) (number b : ℕ) : Type 0 where
  pub busy : bit_of (read_register m l 0).byte 0 ≡ true
  pub guarded : Guarded number b

-- "00-0F Restore, 10-1F Seek, 20-3F Step, 40-5F Step-in, 60-7F Step-out, all Type I; even 80-9E Read Sector; A0-BF Write
-- Sector; C0, C4 Read Address; .. F0, F4 Write Track; D0-DF Force Interrupt." And "On both chips E0, E2, E4, E6 are no longer
-- commands."
abbrev pub TakenByBoth : ℕ → Type 0
TakenByBoth b =
    Between 0x00 0x0F b
    ⊎ Between 0x10 0x1F b
    ⊎ Between 0x20 0x3F b
    ⊎ Between 0x40 0x5F b
    ⊎ Between 0x60 0x7F b
    ⊎ (Between 0x80 0x9E b × (b % 2 ≡ 0))
    ⊎ Between 0xA0 0xBF b
    ⊎ ((b ≡ 0xC0) ⊎ (b ≡ 0xC4))
    ⊎ ((b ≡ 0xF0) ⊎ (b ≡ 0xF4))
    ⊎ Between 0xD0 0xDF b

-- "so C2, C6, .. F2, F6 become commands for this chip only"
abbrev pub TakenWithU : Chip → ℕ → Type 0
TakenWithU Wd1793 b = ⊥
TakenWithU Wd1797 b = ((b ≡ 0xC2) ⊎ (b ≡ 0xC6)) ⊎ ((b ≡ 0xF2) ⊎ (b ≡ 0xF6))

abbrev pub IsCommand : Chip → ℕ → Type 0
IsCommand chip b = TakenByBoth b ⊎ TakenWithU chip b

-- 7: "the byte is no command", by chip
abbrev pub NoCommand : Chip → ℕ → Type 0
NoCommand chip b = IsCommand chip b → ⊥

-- A run comes to its byte time n, counted from 0: those before it are done, and none of them ends with DRQ or INTRQ on.
pub record ComesTo (m : Machine) (l : Lines) (limit : ℕ) (row : List ℕ) (n : ℕ) : Type 0 where
  pub below : n < limit
  pub done : (k : ℕ) → k < n → outcome_after k m l row ≡ done
  pub quiet : (k : ℕ) → k < n → signals (machine_after (suc k) m l row) ≡ false

-- ---- the table's rows, call by call: number k has a row where its condition holds

pub data AtPowerOn (size : ℕ) : ℕ → Type 0 where
  power_on_1 : OutOfRange size → AtPowerOn size 1

pub data AtLoad (m : Machine) (l : Lines) (number b : ℕ) : ℕ → Type 0 where
  load_2 : Invalid m → AtLoad m l number b 2
  load_5 : NoSuchRegister number → AtLoad m l number b 5
  load_6 : WhileBusy m l number b → AtLoad m l number b 6
  load_7 : number ≡ 0 → NoCommand m.chip b → AtLoad m l number b 7

pub data AtRead (m : Machine) (number : ℕ) : ℕ → Type 0 where
  read_2 : Invalid m → AtRead m number 2
  read_5 : NoSuchRegister number → AtRead m number 5

pub data AtByteTime (m : Machine) (row : List ℕ) : ℕ → Type 0 where
  byte_time_2 : Invalid m → AtByteTime m row 2
  byte_time_3 : NotItsLength m row → AtByteTime m row 3
  byte_time_4 : AboveFlagged m row → AtByteTime m row 4

-- A run is asked 4 in each of its byte times, so not at all with limit 0: "Limit 0 only makes the checks for 2 and 3."
pub data AtRun (m : Machine) (l : Lines) (limit : ℕ) (row : List ℕ) : ℕ → Type 0 where
  run_2 : Invalid m → AtRun m l limit row 2
  run_3 : NotItsLength m row → AtRun m l limit row 3
  run_4 : (n : ℕ)
      → ComesTo m l limit row n
      → AboveFlagged (machine_after n m l row) (row_after n m l row)
      → AtRun m l limit row 4

-- "Given exactly when": a call asks its conditions in turns, each with a number. A number is given exactly when one of its
-- turns has its condition and no earlier turn has, and 0 exactly when none has. So a number that has no turn is never given.
pub record InTurn (number_at : ℕ → ℕ) (Turn : ℕ → Type 0) (number : ℕ) : Type 0 where
  pub exactly : (k : ℕ) → 0 < k → (number ≡ k) ↔ ((t : ℕ) × (number_at t ≡ k) × Turn t × ((s : ℕ) → s < t → Turn s → ⊥))
  pub done : (number ≡ 0) ↔ ((t : ℕ) → Turn t → ⊥)

-- "Lowest first": the rows of the table are the turns, each with its own number
abbrev pub Given : (ℕ → Type 0) → ℕ → Type 0
Given Row number = InTurn (λ t. t) Row number

-- ---- each call: its number, and what it hands back where that is not 0

-- "power-on FM machine of 2,048", of the chip that was named
pub record SafePowerOn (size : ℕ) (chip : Chip) (r : Called) : Type 0 where
  pub given : Given (AtPowerOn size) (number_in r.outcome)
  pub refused : (r.outcome ≡ done → ⊥) → r.machine ≡ (power_on 2048 false chip).machine

-- "as given"
pub record SafeLoad (m : Machine) (l : Lines) (number b : ℕ) (r : Called) : Type 0 where
  pub given : Given (AtLoad m l number b) (number_in r.outcome)
  pub refused : (r.outcome ≡ done → ⊥) → r.machine ≡ m

-- "as given, byte 0"
pub record SafeRead (m : Machine) (number : ℕ) (r : Read) : Type 0 where
  pub given : Given (AtRead m number) (number_in r.outcome)
  pub refused : (r.outcome ≡ done → ⊥) → (r.machine ≡ m) × (r.byte ≡ 0)

-- "as given, track untouched": "changes no cell of a lent track in that byte time"
pub record SafeByteTime (m : Machine) (row : List ℕ) (r : Passed) (row' : List ℕ) : Type 0 where
  pub given : Given (AtByteTime m row) (number_in r.outcome)
  pub refused : (r.outcome ≡ done → ⊥) → (r.machine ≡ m) × (row' ≡ row)

-- "A run stopped by 4 hands back the machine before the refused byte time, with the count passed until then; earlier writes
-- stay.": n byte times have passed, and the next one's cell is above 511; "It counts step pulses in and out too."
pub record StoppedAt (m : Machine) (l : Lines) (limit : ℕ) (row : List ℕ) (n : ℕ) (r : Run) : Type 0 where
  pub comes : ComesTo m l limit row n
  pub cell : AboveFlagged (machine_after n m l row) (row_after n m l row)
  pub machine : r.ran.machine ≡ machine_after n m l row
  pub writes : r.row ≡ row_after n m l row
  pub counts : Counts m l row n r.ran.tally

-- "as given, track untouched": no byte time has passed, so no step pulse has been given
pub record RefusedRun (m : Machine) (row : List ℕ) (r : Run) : Type 0 where
  pub machine : r.ran.machine ≡ m
  pub untouched : r.row ≡ row
  pub passed : r.ran.tally.passed ≡ 0
  pub inward : r.ran.tally.inward ≡ 0
  pub outward : r.ran.tally.outward ≡ 0

pub record SafeRun (m : Machine) (l : Lines) (limit : ℕ) (row : List ℕ) (r : Run) : Type 0 where
  pub given : Given (AtRun m l limit row) (number_in r.ran.outcome)
  pub refused : (number_in r.ran.outcome ≡ 2) ⊎ (number_in r.ran.outcome ≡ 3) → RefusedRun m row r
  -- "A run call makes byte times .. It reports how many passed. It counts step pulses in and out too."
  pub done : r.ran.outcome ≡ done
      → Makes m l limit row r.ran.tally.passed r × Counts m l row r.ran.tally.passed r.ran.tally
  pub stopped : number_in r.ran.outcome ≡ 4 → StoppedAt m l limit row r.ran.tally.passed r

-- What refusal 2 asks of the counts: document 01, "Numbers handed back". Assumes nothing.
use Rattle.std.specs.Prelude.{◌≡◌, Bool, ℕ, ◌≤◌}
use Rattle.scan.specs.declared.Part.{Part}
use Rattle.scan.specs.declared.Scan.{Scan}
use Rattle.scan.specs.declared.Scan.TheVariants.{Gap, Field}
use Rattle.activity.specs.declared.Activity.{Activity}
use Rattle.activity.specs.declared.Activity.TheVariants.{Seek, Stop, Settle, Search, Window, Data, Hunt, Address, Preamble, Put}
use Rattle.wd.specs.declared.Machine.{Machine}
use Rattle.reachable.specs.Growth.{Grown}

-- P holds of each count of each activity, with its limit. A count is known by when an activity holds it: `Seek n` holds n.
pub record EachCount (P : (Activity → ℕ → Type 0) → ℕ → Type 0) : Type 0 where
  pub seek_left : P (λ a n. a ≡ Seek n) 938
  pub stop_left : P (λ a n. a ≡ Stop n) 938
  pub settle_left : P (λ a n. a ≡ Settle n) 938
  pub search_pulses : P (λ a n. (scan : Scan) × (a ≡ Search n scan)) 4
  pub search_run : P (λ a n. (pulses : ℕ) × (a ≡ Search pulses (Gap n))) 3
  pub search_passed : P (λ a n. (pulses : ℕ) × (part : Part) × (a ≡ Search pulses (Field part)) × (part.passed ≡ n)) 5
  pub window_left : P (λ a n. (passed : ℕ) × (run : ℕ) × (a ≡ Window n passed run)) 1026
  pub window_passed : P (λ a n. (left : ℕ) × (run : ℕ) × (a ≡ Window left n run)) 42
  pub window_run : P (λ a n. (left : ℕ) × (passed : ℕ) × (a ≡ Window left passed n)) 3
  pub data_left : P (λ a n. (crc : ℕ) × (deleted : Bool) × (a ≡ Data n crc deleted)) 1026
  pub hunt_pulses : P (λ a n. (run : ℕ) × (a ≡ Hunt n run)) 4
  pub hunt_run : P (λ a n. (pulses : ℕ) × (a ≡ Hunt pulses n)) 3
  pub address_passed : P (λ a n. (crc : ℕ) × (track : ℕ) × (a ≡ Address n crc track)) 5
  pub preamble_left : P (λ a n. (passed : ℕ) × (a ≡ Preamble n passed)) 1027
  pub preamble_passed : P (λ a n. (left : ℕ) × (a ≡ Preamble left n)) 37
  pub put_left : P (λ a n. (crc : ℕ) × (a ≡ Put n crc)) 1027

-- no such count of the activity is above the limit
abbrev pub Within : Activity → (Activity → ℕ → Type 0) → ℕ → Type 0
Within a Holds limit = (n : ℕ) → Holds a n → n ≤ limit

-- some machine grown from power-on is at the limit
abbrev pub Reached : (Activity → ℕ → Type 0) → ℕ → Type 0
Reached Holds limit = (m : Machine) × Grown m × Holds m.activity limit

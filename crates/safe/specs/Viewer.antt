-- Demand 1 for the viewer: its numbers of document 01's table "Numbers handed back". Assumes nothing.
use Rattle.std.specs.Prelude.{◌≡◌, Bool, List, [], ◌⊎◌, ℕ, ◌<◌, length, get_or}
use Rattle.viewer.specs.Plain.{SectorAt}
use Rattle.safe.specs.Demand1.{OutOfRange, Given}

-- ---- the conditions

-- 1: "a length outside .. in the viewer"
abbrev pub WrongLength : List ℕ → List ℕ → Type 0
WrongLength s0 s1 = OutOfRange (length s0) ⊎ OutOfRange (length s1)

-- 4: "any cell lent to the viewer, is above 511"
abbrev pub HasAbove : List ℕ → Type 0
HasAbove side = (i : ℕ) × (i < length side) × (511 < get_or side i 0)

abbrev pub AnyAbove : List ℕ → List ℕ → Type 0
AnyAbove s0 s1 = HasAbove s0 ⊎ HasAbove s1

-- 11: "the viewer finds no such sector"
abbrev pub HasSector : Bool → List ℕ → ℕ → ℕ → Type 0
HasSector mfm side track sector = (a : ℕ) × (from : ℕ) × (to : ℕ) × SectorAt mfm side track sector a from to

abbrev pub NoSuchSector : List ℕ → List ℕ → Bool → ℕ → ℕ → Type 0
NoSuchSector s0 s1 mfm track sector = HasSector mfm s0 track sector ⊎ HasSector mfm s1 track sector → ⊥

-- ---- the table's rows

pub data AtViewer (s0 s1 : List ℕ) (mfm : Bool) (track sector : ℕ) : ℕ → Type 0 where
  viewer_1 : WrongLength s0 s1 → AtViewer s0 s1 mfm track sector 1
  viewer_4 : AnyAbove s0 s1 → AtViewer s0 s1 mfm track sector 4
  viewer_11 : NoSuchSector s0 s1 mfm track sector → AtViewer s0 s1 mfm track sector 11

-- ---- the number, and what the viewer hands back where that is not 0

-- "empty part", and "An empty part is of side 0": it starts where side 0 does, at p0 in memory
pub record SafeView (s0 s1 : List ℕ) (p0 : ℕ × ℕ) (mfm : Bool) (track sector : ℕ)
    (number : ℕ) (part : List ℕ) (start : ℕ × ℕ) : Type 0 where
  pub given : Given (AtViewer s0 s1 mfm track sector) number
  pub refused : (number ≡ 0 → ⊥) → (part ≡ []) × (start ≡ p0)

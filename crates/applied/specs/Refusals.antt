-- Demand 1 for one bad input of each call: what it gets, by number, and what it leaves. Assumes nothing.
use Rattle.std.specs.Prelude.{◌≡◌, Bool, true, false, List, [], ◌⊎◌, ◌↔◌, ℕ, ◌<◌, replicate}
use mir.Val.{has_key}
use Rattle.refusals.specs.Numbers.{number_in}
use Rattle.registers.specs.declared.Lines.{Lines}
use Rattle.picture.specs.declared.Answer.{Answer}
use Rattle.wd.specs.declared.Called.{Called}
use Rattle.wd.specs.declared.Read.{Read}
use Rattle.wd.specs.declared.Passed.{Passed}
use Rattle.wd.specs.declared.Ran.{Ran}
use Rattle.reachable.proofs.Samples.{sample_length}
use Rattle.command.proofs.Cases.{refused_bytes}
use Rattle.command.specs.declared.Chip.{Chip}
use Rattle.command.specs.declared.Chip.TheVariants.{Wd1793, Wd1797}
use Rattle.in_time.proofs.Scenes.{fresh}
use Rattle.uses.specs.CallContracts.{PowerOnCall, LoadCall, ReadCall, ByteTimeCall, RunCall, PictureCall, ViewCall, NumberCall}
use Rattle.refusals.specs.Numbers.{number_in, done}

-- 2,048 cells above 511
abbrev pub high : List ℕ
high = replicate sample_length 512

-- "E0, E2, E4, E6"
abbrev pub NoLonger : ℕ → Type 0
NoLonger b = (b ≡ 0xE0) ⊎ (b ≡ 0xE2) ⊎ (b ≡ 0xE4) ⊎ (b ≡ 0xE6)

-- the machine at power-on, of either density and chip, under any lines
pub record Refusals : Type 0 where
  -- "L 2,047, .. refused 1", "10,417 refused": "power-on FM machine of 2,048"
  pub short : (mfm : Bool) (chip : Chip) (r : Called) → PowerOnCall 2047 mfm chip r → (number_in r.outcome ≡ 1) × (r.machine ≡ fresh false chip)
  pub long : (mfm : Bool) (chip : Chip) (r : Called) → PowerOnCall 10417 mfm chip r → (number_in r.outcome ≡ 1) × (r.machine ≡ fresh false chip)
  -- "80, C4 accepted; 9F, C3 refused 7"
  pub command : (mfm : Bool) (chip : Chip) (l : Lines) (r : Called) → LoadCall (fresh mfm chip) l 0 0x80 r → r.outcome ≡ done
  pub no_command : (mfm : Bool) (chip : Chip) (l : Lines) (r : Called)
      → LoadCall (fresh mfm chip) l 0 0x9F r
      → (number_in r.outcome ≡ 7) × (r.machine ≡ fresh mfm chip)
  -- "On both chips E0, E2, E4, E6 are no longer commands."
  pub no_longer : (mfm : Bool) (chip : Chip) (l : Lines) (b : ℕ)
      → NoLonger b
      → (r : Called)
      → LoadCall (fresh mfm chip) l 0 b r
      → (number_in r.outcome ≡ 7) × (r.machine ≡ fresh mfm chip)
  -- 7: "the byte is no command": of the 256, those of the list, 60 on the WD1793 and 56 on the WD1797, and no others
  pub listed : (mfm : Bool) (chip : Chip) (l : Lines) (b : ℕ)
      → b < 256
      → (r : Called)
      → LoadCall (fresh mfm chip) l 0 b r
      → (number_in r.outcome ≡ 7) ↔ (has_key (refused_bytes chip) b ≡ true)
  -- "C2, C6, .. F2, F6 become commands for this chip only"
  pub with_u : (mfm : Bool) (l : Lines) (r : Called) → LoadCall (fresh mfm Wd1797) l 0 0xC2 r → r.outcome ≡ done
  pub without_u : (mfm : Bool) (l : Lines) (r : Called)
      → LoadCall (fresh mfm Wd1793) l 0 0xC2 r
      → (number_in r.outcome ≡ 7) × (r.machine ≡ fresh mfm Wd1793)
  -- 5: "as given, byte 0"
  pub no_register : (mfm : Bool) (chip : Chip) (l : Lines) (r : Read)
      → ReadCall (fresh mfm chip) l 4 r
      → (number_in r.outcome ≡ 5) × (r.machine ≡ fresh mfm chip) × (r.byte ≡ 0)
  -- 4: "the cell under the head .. is above 511"
  pub above : (mfm : Bool) (chip : Chip) (l : Lines) (r : Passed) (row : List ℕ)
      → ByteTimeCall (fresh mfm chip) l high r row
      → (number_in r.outcome ≡ 4) × (r.machine ≡ fresh mfm chip) × (row ≡ high)
  -- 3: "lent track is not L cells", in a run: nothing is counted
  pub no_track : (mfm : Bool) (chip : Chip) (l : Lines) (limit : ℕ) (r : Ran) (row : List ℕ)
      → RunCall (fresh mfm chip) l limit [] r row
      → (number_in r.outcome ≡ 3)
      × (r.machine ≡ fresh mfm chip)
      × (row ≡ [])
      × (r.tally ≡ record { passed = 0; inward = 0; outward = 0 })
  -- 4 in a run: "with the count passed until then"
  pub stopped : (mfm : Bool) (chip : Chip) (l : Lines) (limit : ℕ) (r : Ran) (row : List ℕ)
      → 0 < limit
      → RunCall (fresh mfm chip) l limit high r row
      → (number_in r.outcome ≡ 4)
      × (r.machine ≡ fresh mfm chip)
      × (row ≡ high)
      × (r.tally ≡ record { passed = 0; inward = 0; outward = 0 })
  -- 9: "picture .. is empty"
  pub no_picture : (room : List ℕ) (r : Answer) (room' : List ℕ)
      → PictureCall [] room r room'
      → (number_in r.outcome ≡ 9) × (r.track ≡ 0) × (r.side ≡ 0) × (room' ≡ room)
  -- 1, in the viewer: "empty part", "of side 0"
  pub no_sides : (p0 : ℕ × ℕ) (mfm : Bool) (track sector : ℕ) (part : List ℕ) (start : ℕ × ℕ) (number : ℕ)
      → ViewCall [] [] p0 mfm track sector part start
      → NumberCall [] [] mfm track sector number
      → (number ≡ 1) × (part ≡ []) × (start ≡ p0)

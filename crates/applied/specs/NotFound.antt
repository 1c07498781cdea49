-- Demand 3 over empty tracks, the shortest and the longest: the byte times that a Read Sector takes there. Assumes nothing.
use Rattle.std.specs.Prelude.{◌≡◌, Bool, true, false, List, ℕ, ◌+◌, ◌*◌, ◌≤◌}
use Rattle.registers.specs.declared.Lines.{Lines}
use Rattle.wd.specs.declared.Passed.{Passed}
use Rattle.reachable.proofs.Samples.{empty_track}
use Rattle.hosts.specs.Hosts.{Desk}
use Rattle.uses.specs.CallContracts.{ByteTimeCall}
use Rattle.uses.specs.Uses.{Use, throughout, no_command, head_loaded, passed}
use Rattle.uses.specs.Courses.{not_found_bit, busy_bit, Shows, Accepted, since, Course, took}
use Rattle.refusals.specs.Numbers.{done}

-- this byte, accepted with the drive ready by a machine of this density whose head is on this cell of an empty track of L cells; at
-- power-on that is cell 0
pub record OverEmpty (L : ℕ) (mfm : Bool) (byte cell : ℕ) (c : Accepted) : Type 0 where
  pub density : c.machine.mfm ≡ mfm
  pub command : c.byte ≡ byte
  pub ring : c.machine.ring ≡ record { length = L; position = cell }
  pub row : c.row ≡ empty_track L
  pub ready : c.lines.ready ≡ true

-- with HLT on throughout it takes so many byte times, and ends with Record Not Found
abbrev pub TakesThere : ℕ → Bool → ℕ → ℕ → ℕ → Type 0
TakesThere L mfm byte cell many = (c : Accepted) (course : Course c)
    → OverEmpty L mfm byte cell c
    → throughout head_loaded course.calls ≡ true
    → head_loaded course.before course.after course.last ≡ true
    → (took course ≡ many) × Shows course.after not_found_bit true

pub record NotFound : Type 0 where
  -- in every use, as it goes on: no byte time is refused
  pub goes_on : (L : ℕ) (mfm : Bool) (cell : ℕ) (c : Accepted) (e : Desk) (u : Use (since c) e)
      → OverEmpty L mfm 0x80 cell c
      → throughout head_loaded u ≡ true
      → throughout no_command u ≡ true
      → (l : Lines) (r : Passed) (row : List ℕ)
      → ByteTimeCall e.machine l e.row r row
      → r.outcome ≡ done
  -- "within 5L": when so many byte times have passed Busy is off, in every use
  pub over : (L : ℕ) (mfm : Bool) (cell : ℕ) (c : Accepted) (e : Desk) (u : Use (since c) e)
      → OverEmpty L mfm 0x80 cell c
      → throughout head_loaded u ≡ true
      → throughout no_command u ≡ true
      → 5 * L ≤ passed u
      → Shows e busy_bit false
  -- "No match, L 2,048: search from cell 0 ends at byte time 8,193, from cell 1 at 10,240."
  pub from_0 : (mfm : Bool) → TakesThere 2048 mfm 0x80 0 8193
  pub from_1 : (mfm : Bool) → TakesThere 2048 mfm 0x80 1 10240
  -- "Demand 3's formulas hold over the new range."
  pub longest_from_0 : (mfm : Bool) → TakesThere 10416 mfm 0x80 0 41665
  pub longest_from_1 : (mfm : Bool) → TakesThere 10416 mfm 0x80 1 52080
  -- "Counted after settling": with E that takes the head 469 (FM) or 938 (MFM) cells on, here to cell 0 and to cell 1
  pub fm_from_0 : TakesThere 2048 false 0x84 1579 (469 + 8193)
  pub fm_from_1 : TakesThere 2048 false 0x84 1580 (469 + 10240)
  pub mfm_from_0 : TakesThere 2048 true 0x84 1110 (938 + 8193)
  pub mfm_from_1 : TakesThere 2048 true 0x84 1111 (938 + 10240)
  -- and from cell 0, as at power-on, past a pulse that does not count: the fifth is the sixth in all
  pub settled : (mfm : Bool) → TakesThere 2048 mfm 0x84 0 10241

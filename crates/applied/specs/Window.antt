-- Demand 3 over FM tracks with one ID, whose data mark is the last cell of its window or the one after it. Assumes nothing.
use Rattle.std.specs.Prelude.{◌≡◌, Bool, true, false, List, [], ◌∷◌, ◌++◌, ℕ, ◌≤◌, replicate}
use Rattle.hosts.specs.Hosts.{Desk}
use Rattle.command.specs.declared.Chip.TheVariants.{Wd1793}
use Rattle.in_time.proofs.Scenes.{fresh}
use Rattle.witnesses.proofs.Runs.{id_side_0}
use Rattle.uses.specs.Uses.{Use, throughout, no_command, head_loaded, passed}
use Rattle.uses.specs.Courses.{not_found_bit, busy_bit, Shows, Accepted, since, Course, took}

-- the ID 00 00 01 00 from cell 0 on; the data mark FB is the 30th cell after it, or the 31st
abbrev pub thirtieth : List ℕ
thirtieth = id_side_0 ++ replicate 29 0x00 ++ (0x1FB ∷ []) ++ replicate 2011 0x00

abbrev pub thirty_first : List ℕ
thirty_first = id_side_0 ++ replicate 30 0x00 ++ (0x1FB ∷ []) ++ replicate 2010 0x00

-- 80 (Read Sector), accepted at power-on with the drive ready, TR 0 and SR 1, over this track
pub record ReadOver (mfm : Bool) (track : List ℕ) (c : Accepted) : Type 0 where
  pub machine : c.machine ≡ fresh mfm Wd1793
  pub command : c.byte ≡ 0x80
  pub row : c.row ≡ track
  pub ready : c.lines.ready ≡ true

pub record Window : Type 0 where
  -- "within L + 1,078": when 3,126 byte times have passed Busy is off, in every use
  pub over : (c : Accepted) (e : Desk) (u : Use (since c) e)
      → ReadOver false thirtieth c
      → throughout head_loaded u ≡ true
      → throughout no_command u ≡ true
      → 3126 ≤ passed u
      → Shows e busy_bit false
  -- "Data mark at cell 30 (FM) .. served; 31 .. Record Not Found.": with HLT on throughout
  pub served : (c : Accepted) (course : Course c)
      → ReadOver false thirtieth c
      → throughout head_loaded course.calls ≡ true
      → head_loaded course.before course.after course.last ≡ true
      → (took course ≤ 3126) × Shows course.after not_found_bit false
  pub missed : (c : Accepted) (course : Course c)
      → ReadOver false thirty_first c
      → throughout head_loaded course.calls ≡ true
      → head_loaded course.before course.after course.last ≡ true
      → (took course ≤ 3126) × Shows course.after not_found_bit true

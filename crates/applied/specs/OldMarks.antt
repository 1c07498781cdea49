-- Request f over tracks with one record, whose mark is F9 or FA. Assumes nothing.
use Rattle.std.specs.Prelude.{◌≡◌, Bool, true, false, List, [], ◌∷◌, ◌++◌, ℕ, ◌+◌, replicate}
use Rattle.witnesses.proofs.Runs.{id_side_0}
use Rattle.uses.specs.Uses.{throughout, head_loaded}
use Rattle.uses.specs.Courses.{deleted_bit, not_found_bit, crc_error_bit, Shows, Accepted, Course, took}
use Rattle.applied.specs.Window.{ReadOver}

-- FM: the ID 00 00 01 00 from cell 0 on, a mark with this byte just after it, 128 bytes E5, and these two bytes for their CRC
abbrev pub one_record : ℕ → ℕ → ℕ → List ℕ
one_record mark high low =
    id_side_0
    ++ ((mark + 256) ∷ [])
    ++ replicate 128 0xE5
    ++ (high ∷ low ∷ [])
    ++ replicate 1910 0x00

-- MFM: the same ID, and after it the marks F9 and FA, and no other
abbrev pub old_in_mfm : List ℕ
old_in_mfm =
    (0x1A1 ∷ 0x1A1 ∷ 0x1A1 ∷ 0xFE ∷ 0x00 ∷ 0x00 ∷ 0x01 ∷ 0x00 ∷ 0xEA ∷ 0x2D ∷ [])
    ++ (0x1A1 ∷ 0x1A1 ∷ 0x1A1 ∷ 0xF9 ∷ 0x1A1 ∷ 0x1A1 ∷ 0x1A1 ∷ 0xFA ∷ [])
    ++ replicate 2030 0x00

-- what a Read Sector shows after the record's last cell
pub record RecordShown (c : Accepted) (course : Course c) (deleted bad : Bool) : Type 0 where
  pub ends : took course ≡ 138
  pub found : Shows course.after not_found_bit false
  pub mark : Shows course.after deleted_bit deleted
  pub crc : Shows course.after crc_error_bit bad

-- in every use with HLT on throughout
abbrev pub InEveryUse : (Accepted → Type 0) → ((c : Accepted) → Course c → Type 0) → Type 0
InEveryUse Asked Says =
    (c : Accepted) (course : Course c)
    → Asked c
    → throughout head_loaded course.calls ≡ true
    → head_loaded course.before course.after course.last ≡ true
    → Says c course

pub record OldMarks : Type 0 where
  -- "F9 counts as deleted, FA as normal."
  pub f9_deleted : InEveryUse (ReadOver false (one_record 0xF9 0x30 0xC6)) (λ c course. RecordShown c course true false)
  pub fa_normal : InEveryUse (ReadOver false (one_record 0xFA 0x6B 0xCB)) (λ c course. RecordShown c course false false)
  -- the CRC starts with the mark that was met: after FA one that starts with FB is bad
  pub fb_crc : InEveryUse (ReadOver false (one_record 0xFA 0x5D 0x30)) (λ c course. RecordShown c course false true)
  -- "In FM only": in MFM both are passed over
  pub in_mfm : InEveryUse (ReadOver true old_in_mfm) (λ c course. Shows course.after not_found_bit true)

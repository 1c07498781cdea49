-- Document 01, "Cases": those marked P, "proved together, as one statement over one list", of both chips. Assumes nothing.
use Rattle.std.specs.Prelude.{Bool, List, [], ◌∷◌, ℕ}
use Rattle.crc.specs.Crc.{crc_over, preset}
use Rattle.command.specs.declared.Chip.{Chip}
use Rattle.registers.specs.declared.Lines.{Lines}
use Rattle.refusals.specs.Numbers.{number_in}
use Rattle.wd.specs.Machines.{fresh_machine, power_on}
use Rattle.wd.specs.Loads.{load_register}

-- the bytes of a field, a command byte, a length
pub data Case : Type 0 where
  field : List ℕ → Case
  command : ℕ → Case
  size : ℕ → Case

-- What a case gives: the register "from FFFF"; the number of a command's load, 0 where it is accepted, into a machine at
-- power-on, whatever its density, its chip and the lines; the number of power-on.
abbrev pub given_by : Bool → Chip → Lines → Case → ℕ
given_by mfm chip l (field bytes) = crc_over preset bytes
given_by mfm chip l (command b) = number_in (load_register (fresh_machine 2048 mfm chip) l 0 b).outcome
given_by mfm chip l (size length) = number_in (power_on length mfm chip).outcome

-- "FE gives EF21, FB BF84, F8 8FE7; A1 A1 A1 CDB4, then FE B230; FE 00 00 01 00 D2C3."
-- "80, C4 accepted; 9F, C3 refused 7."
-- "L 2,047, .. refused 1; 2,048, .. taken."; "01's case becomes 10,416 taken, 10,417 refused"
abbrev pub marked : List (Case × ℕ)
marked =
    (field (0xFE ∷ []), 0xEF21)
    ∷ (field (0xFB ∷ []), 0xBF84)
    ∷ (field (0xF8 ∷ []), 0x8FE7)
    ∷ (field (0xA1 ∷ 0xA1 ∷ 0xA1 ∷ []), 0xCDB4)
    ∷ (field (0xA1 ∷ 0xA1 ∷ 0xA1 ∷ 0xFE ∷ []), 0xB230)
    ∷ (field (0xFE ∷ 0x00 ∷ 0x00 ∷ 0x01 ∷ 0x00 ∷ []), 0xD2C3)
    ∷ (command 0x80, 0)
    ∷ (command 0xC4, 0)
    ∷ (command 0x9F, 7)
    ∷ (command 0xC3, 7)
    ∷ (size 2047, 1)
    ∷ (size 10417, 1)
    ∷ (size 2048, 0)
    ∷ (size 10416, 0)
    ∷ []

-- What the bits of a command byte ask for: document 01, "Registers and commands", and document 02, i. All but the decoding of a
-- byte and its rate code stands here: no other definition that code follows looks at bits. (The demands say the bits anew.) Assumes
-- nothing.
use Rattle.std.specs.Prelude.{ℕ, Bool, true, false, cond, Option, Some, None}
use Rattle.common.specs.Bits.{bit_of}
use Rattle.scan.specs.declared.DataMark.{DataMark}
use Rattle.scan.specs.declared.DataMark.TheVariants.{Fb, F8}
use Rattle.command.specs.declared.Chip.{Chip}
use Rattle.command.specs.declared.Chip.TheVariants.{Wd1793, Wd1797}
use Rattle.command.specs.declared.bits.Flag.{Flag}
use Rattle.command.specs.declared.bits.Flag.TheVariants.{Update, Head, Verify, Multiple, Side, Settle, Compare, Mark, Lengths, Select, AtOnce, AtIndex, AtNotReady, AtReady}

-- ---- Type I

-- "TR moves (wrapping) if bit 4"
unfoldable pub updates_track : ℕ → Bool
updates_track byte = bit_of byte 4

-- "bit 3 loads or unloads the head"
unfoldable pub loads_head : ℕ → Bool
loads_head byte = bit_of byte 3

-- "V (bit 2)"
unfoldable pub verifies_track : ℕ → Bool
verifies_track byte = bit_of byte 2

-- ---- "Bits of Type II: 4 m, 3 S, 2 E, 1 C, 0 mark." Type III has E alone. On the 1797 "bit 3 of Type II becomes L and bit 1
-- becomes U; bit 1 of Type III commands is U too".

unfoldable pub is_multiple : ℕ → Bool
is_multiple byte = bit_of byte 4

-- "if E is 1": Types II and III
unfoldable pub settles_first : ℕ → Bool
settles_first byte = bit_of byte 2

-- U, of Types II and III: what goes to the side output; the 1793 has none, and its output stays off
unfoldable pub selects_side : Chip → ℕ → Bool
selects_side Wd1793 byte = false
selects_side Wd1797 byte = bit_of byte 1

-- S or U as a side
unfoldable pub side_of : Bool → ℕ
side_of flag = cond flag 1 0

-- "On the 1793 C asks that the ID's side equal S."; on the 1797 "for Type II the ID's side must equal U"
unfoldable pub side_asked : Chip → ℕ → Option ℕ
side_asked Wd1793 byte = cond (bit_of byte 1) (Some (side_of (bit_of byte 3))) None
side_asked Wd1797 byte = Some (side_of (bit_of byte 1))

-- "With L 1 the length codes are as before", which are IBM's (000: "For IBM compatibility, the 'b' flag should be set to a one")
unfoldable pub ibm_lengths : Chip → ℕ → Bool
ibm_lengths Wd1793 byte = true
ibm_lengths Wd1797 byte = bit_of byte 3

-- "Write Sector still writes FB or F8.": F8, the deleted one, where bit 0 is on
unfoldable pub mark_written : ℕ → DataMark
mark_written byte = cond (bit_of byte 0) F8 Fb

-- ---- Force Interrupt: "Bit 3 raises INTRQ at once, bit 2 at each index pulse, bits 0 and 1 when Ready comes on or goes off
-- between byte times."

abbrev pub forces_at_once : ℕ → Bool
forces_at_once byte = bit_of byte 3

abbrev pub forces_at_index : ℕ → Bool
forces_at_index byte = bit_of byte 2

abbrev pub forces_at_not_ready : ℕ → Bool
forces_at_not_ready byte = bit_of byte 1

abbrev pub forces_at_ready : ℕ → Bool
forces_at_ready byte = bit_of byte 0

-- ---- whether a flag is on: S and C, and L and U, mean something on one chip only

abbrev pub flag_of : ℕ → Flag → Bool
flag_of byte Update = updates_track byte
flag_of byte Head = loads_head byte
flag_of byte Verify = verifies_track byte
flag_of byte Multiple = is_multiple byte
flag_of byte Side = bit_of byte 3
flag_of byte Settle = settles_first byte
flag_of byte Compare = bit_of byte 1
flag_of byte Mark = bit_of byte 0
flag_of byte Lengths = bit_of byte 3
flag_of byte Select = bit_of byte 1
flag_of byte AtOnce = forces_at_once byte
flag_of byte AtIndex = forces_at_index byte
flag_of byte AtNotReady = forces_at_not_ready byte
flag_of byte AtReady = forces_at_ready byte

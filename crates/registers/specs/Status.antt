-- The status byte, document 01, "Registers and commands". Assumes nothing.
use Rattle.std.specs.Prelude.{Bool, cond, not, ℕ, ◌+◌}
use Rattle.registers.specs.declared.Flags.{Flags}
use Rattle.registers.specs.declared.Lines.{Lines}
use Rattle.registers.specs.declared.Status.{Status}

unfoldable pub bit_for : Bool → ℕ → ℕ
bit_for on mask = cond on mask 0

-- ---- "The status bits bear names"

-- "Not Ready 7; 6 protected"
abbrev pub status_not_ready : ℕ
status_not_ready = 0x80

abbrev pub status_protected : ℕ
status_protected = 0x40

-- "5 head loaded and HLT on (Type I) or deleted mark (read)"
abbrev pub status_deleted : ℕ
status_deleted = 0x20

-- "4 Seek Error or Record Not Found; 3 CRC"
abbrev pub status_not_found : ℕ
status_not_found = 0x10

abbrev pub status_crc : ℕ
status_crc = 0x08

-- "2 track 0 (Type I) or Lost Data; 1 index (Type I) or DRQ; 0 Busy"
abbrev pub status_lost_data : ℕ
status_lost_data = 0x04

abbrev pub status_drq : ℕ
status_drq = 0x02

abbrev pub status_busy : ℕ
status_busy = 0x01

-- ---- the byte

-- bits 6, 5, 2 and 1, which each type of command gives in its own way
unfoldable pub type_bits : Bool → Bool → Bool → Bool → ℕ
type_bits six five two one =
    (bit_for six status_protected + bit_for five status_deleted) + (bit_for two status_lost_data + bit_for one status_drq)

-- "Bits 7 and, for Type I, 6, 5, 2 follow the lines at the read; index is on if the last byte time was a pulse."
abbrev pub type1_of : Bool → Bool → Lines → ℕ
type1_of engaged index l = type_bits l.protect engaged l.track0 index

-- "For Types II and III bit 6 is set only by a write refused for protection."
abbrev pub type2_of : Flags → Bool → ℕ
type2_of f drq = type_bits f.protected f.deleted f.lost drq

-- the bits of the type, and those of every type
unfoldable pub status_from : ℕ → Flags → Bool → Bool → Status
status_from varying f busy ready =
    record {
      byte =
          (bit_for (not ready) status_not_ready + bit_for f.missing status_not_found)
          + varying
          + (bit_for f.crc status_crc + bit_for busy status_busy);
    }

-- A command under any host: the load that it begins with, the track, and the IDs that it goes by. Assumes nothing.
use Rattle.std.specs.Prelude.{◌≡◌, Bool, true, cond, ◌||◌, List, ℕ, ◌%◌, eqb}
use Rattle.common.specs.Bits.{bit_of}
use Rattle.scan.specs.declared.Id.{Id}
use Rattle.command.specs.declared.Chip.{Chip}
use Rattle.command.specs.declared.Chip.TheVariants.{Wd1793, Wd1797}
use Rattle.registers.specs.declared.Lines.{Lines}
use Rattle.wd.specs.declared.Machine.{Machine}
use Rattle.wd.specs.Reads.{read_register}
use Rattle.wd.specs.Loads.{load_register}
use Rattle.hosts.specs.Hosts.{Host, Desk}

-- A command byte loaded into a machine under some lines, the track that is lent from then on, and what the host does then:
-- any register calls between byte times, and any lines in all of them.
pub record Scene : Type 0 where
  pub machine : Machine
  pub lines : Lines
  pub byte : ℕ
  pub row : List ℕ
  pub host : Host

-- after the load
abbrev pub loaded : Scene → Desk
loaded s = record { machine = (load_register s.machine s.lines 0 s.byte).machine; row = s.row }

-- "settle for 469 (FM) or 938 (MFM) byte times if E is 1"; "Bits of Type II: 4 m, 3 S, 2 E, 1 C, 0 mark."
abbrev pub settling : Scene → ℕ
settling s = cond (bit_of s.byte 2) (cond s.machine.mfm 938 469) 0

-- ".. with C, its side is S"; on the 1797 bit 1 "becomes U", and "the ID's side must equal U"
abbrev pub SideSuits : Chip → ℕ → ℕ → Type 0
SideSuits Wd1793 byte side = bit_of byte 1 ≡ true → side ≡ cond (bit_of byte 3) 1 0
SideSuits Wd1797 byte side = side ≡ cond (bit_of byte 1) 1 0

-- "An ID matches if its track is TR and, for Type II, its sector is SR and, with C, its side is S", or on the 1797 U; "with a good CRC"
pub record SuitsFor (chip : Chip) (byte tr sr : ℕ) (id : Id) : Type 0 where
  pub track : id.track ≡ tr
  pub sector : id.sector ≡ sr
  pub side : SideSuits chip byte id.side
  pub good : id.good ≡ true

-- with TR and SR as the load finds them
abbrev pub Suits : Scene → Id → Type 0
Suits s = SuitsFor s.machine.chip s.byte s.machine.regs.tr s.machine.regs.sr

-- what the two low bits of a length stand for
unfoldable pub by_code : ℕ → ℕ → ℕ → ℕ → ℕ → ℕ
by_code zeroth first second third code =
    cond (eqb (code % 4) 0) zeroth
    (cond (eqb (code % 4) 1) first
    (cond (eqb (code % 4) 2) second
    third))

-- "The two low bits of length give 128, 256, 512, 1,024." On the 1797 "bit 3 of Type II becomes L": "With L 1 the length codes are as
-- before; with L 0 the codes 0 to 3 mean 256, 512, 1,024, 128."
unfoldable pub field_bytes : Chip → ℕ → ℕ → ℕ
field_bytes Wd1793 byte code = by_code 128 256 512 1024 code
field_bytes Wd1797 byte code = cond (bit_of byte 3) (by_code 128 256 512 1024 code) (by_code 256 512 1024 128 code)

-- "bit 5 on if F8, else off"; "F9 counts as deleted, FA as normal": whether a data mark with this byte counts as deleted
abbrev pub counts_deleted : ℕ → Bool
counts_deleted b = eqb b 0xF8 || eqb b 0xF9

-- "5 .. deleted mark (read); 4 .. Record Not Found; 3 CRC": bits of the status byte that a read hands back under these lines
abbrev pub deleted_mark : Machine → Lines → Bool
deleted_mark m l = bit_of (read_register m l 0).byte 5

abbrev pub not_found : Machine → Lines → Bool
not_found m l = bit_of (read_register m l 0).byte 4

abbrev pub crc_error : Machine → Lines → Bool
crc_error m l = bit_of (read_register m l 0).byte 3

-- A command from the call that begins it to the call that it ends with, as their contracts tell. Assumes nothing.
use Rattle.std.specs.Prelude.{◌≡◌, Bool, true, false, List, [], ◌⊎◌, ℕ, ◌+◌, ◌*◌, ◌%◌, ◌≤◌, length}
use Rattle.common.specs.Bits.{bit_of}
use Rattle.command.specs.declared.Chip.{Chip}
use Rattle.command.specs.declared.Chip.TheVariants.{Wd1797}
use Rattle.registers.specs.declared.Lines.{Lines}
use Rattle.wd.specs.declared.Machine.{Machine}
use Rattle.wd.specs.declared.Called.{Called}
use Rattle.wd.specs.declared.Read.{Read}
use Rattle.wd.specs.declared.Passed.{Passed}
use Rattle.hosts.specs.Hosts.{Host, Desk}
use Rattle.hosts.specs.Scenes.{Scene, settling}
use Rattle.in_time.specs.Demand3.{OnRing}
use Rattle.uses.specs.CallContracts.{LoadCall, ReadCall, ByteTimeCall}
use Rattle.uses.specs.Uses.{Made, Use, throughout, no_command, passed_in, passed, made_then, host_of}
use Rattle.refusals.specs.Numbers.{done}

-- ---- what the status byte shows

-- "The status bits bear names: Not Ready 7; 6 protected; 5 .. deleted mark (read); 4 .. Record Not Found; 3 CRC; 2 .. Lost Data;
-- 1 .. DRQ; 0 Busy": a place in the byte for each
abbrev pub protected_bit : ℕ
protected_bit = 6

abbrev pub deleted_bit : ℕ
deleted_bit = 5

abbrev pub not_found_bit : ℕ
not_found_bit = 4

abbrev pub crc_error_bit : ℕ
crc_error_bit = 3

abbrev pub lost_data_bit : ℕ
lost_data_bit = 2

abbrev pub busy_bit : ℕ
busy_bit = 0

-- a read of the status there, under any lines, hands back a byte with this bit on, or with this bit off
abbrev pub Shows : Desk → ℕ → Bool → Type 0
Shows d bit on = (l : Lines) (r : Read) → ReadCall d.machine l 0 r → bit_of r.byte bit ≡ on

-- some read of it has shown that: what a caller knows that has made one
abbrev pub Showed : Desk → ℕ → Bool → Type 0
Showed d bit on = (l : Lines) × (r : Read) × ReadCall d.machine l 0 r × (bit_of r.byte bit ≡ on)

-- "no error bit": bits 6, 4, 3 and 2 are off; the others are no errors: 7 is a line, 5 the deleted mark, 1 DRQ and 0 Busy
pub record NoErrorBit (Says : Desk → ℕ → Bool → Type 0) (d : Desk) : Type 0 where
  pub unprotected : Says d protected_bit false
  pub found : Says d not_found_bit false
  pub crc : Says d crc_error_bit false
  pub not_late : Says d lost_data_bit false

-- a read that found its sector: no error bit but Lost Data, and bit 5 by what its mark counts as
pub record FoundGood (d : Desk) (deleted : Bool) : Type 0 where
  pub unprotected : Shows d protected_bit false
  pub found : Shows d not_found_bit false
  pub crc : Shows d crc_error_bit false
  pub mark : Shows d deleted_bit deleted

-- ---- a command

-- "accepted": a byte loaded into the command register, and the row that is lent from then on
pub record Accepted : Type 0 where
  pub machine : Machine
  pub lines : Lines
  pub byte : ℕ
  pub row : List ℕ
  pub answer : Called
  pub call : LoadCall machine lines 0 byte answer
  pub outcome : answer.outcome ≡ done

-- after that call
abbrev pub since : Accepted → Desk
since c = record { machine = c.answer.machine; row = c.row }

-- "ending by itself": any calls, none of them an accepted command; Busy before the last of them, and no longer after it
pub record Course (c : Accepted) : Type 0 where
  pub before : Desk
  pub after : Desk
  pub calls : Use (since c) before
  pub last : Made before after
  pub alone : throughout no_command calls ≡ true
  pub alone_last : no_command before after last ≡ true
  pub under_way : Showed before busy_bit true
  pub ended : Showed after busy_bit false

-- the byte times that it took
abbrev pub took : {c : Accepted} → Course c → ℕ
took course = passed course.calls + passed_in course.last

-- ---- as a host's

-- a host that makes no call, under lines with Ready and HLT on
abbrev pub silent : Host
silent = record { calls = λ n. []; lines = λ n. record { ready = true; protect = false; track0 = false; hlt = true } }

-- the command, and what a host does from then on
abbrev pub scene_of : Accepted → Host → Scene
scene_of c h = record { machine = c.machine; lines = c.lines; byte = c.byte; row = c.row; host = h }

-- the command and its track alone, for what does not depend on the host
abbrev pub track_of : Accepted → Scene
track_of c = scene_of c silent

-- the calls of its course, and then what another host does
abbrev pub course_then : {c : Accepted} → Course c → Host → Host
course_then course h = host_of course.calls (made_then course.last h)

-- the command with its course, after which the host makes no call
abbrev pub course_scene : {c : Accepted} → Course c → Scene
course_scene {c} course = scene_of c (course_then course silent)

-- ---- which command

-- "even 80-9E Read Sector"; "Bits of Type II: 4 m, ..": with m or without
pub record SectorRead (multiple : Bool) (b : ℕ) : Type 0 where
  pub first : 0x80 ≤ b
  pub last : b ≤ 0x9E
  pub even : b % 2 ≡ 0
  pub m : bit_of b 4 ≡ multiple

abbrev pub SingleRead : ℕ → Type 0
SingleRead = SectorRead false

abbrev pub MultipleRead : ℕ → Type 0
MultipleRead = SectorRead true

-- "A0-BF Write Sector", a single one
pub record SingleWrite (b : ℕ) : Type 0 where
  pub first : 0xA0 ≤ b
  pub last : b ≤ 0xBF
  pub single : bit_of b 4 ≡ false

-- any of the commands that read: "even 80-9E Read Sector; .. C0, C4 Read Address"; "C2, C6, .. F2, F6 become commands for this chip only"
pub data ReadByte (chip : Chip) (b : ℕ) : Type 0 where
  read_sector : 0x80 ≤ b → b ≤ 0x9E → b % 2 ≡ 0 → ReadByte chip b
  read_address : (b ≡ 0xC0) ⊎ (b ≡ 0xC4) → ReadByte chip b
  read_address_with_u : chip ≡ Wd1797 → (b ≡ 0xC2) ⊎ (b ≡ 0xC6) → ReadByte chip b

-- any of those that write: "A0-BF Write Sector; .. F0, F4 Write Track"
pub data WriteByte (chip : Chip) (b : ℕ) : Type 0 where
  write_sector : 0xA0 ≤ b → b ≤ 0xBF → WriteByte chip b
  write_track : (b ≡ 0xF0) ⊎ (b ≡ 0xF4) → WriteByte chip b
  write_track_with_u : chip ≡ Wd1797 → (b ≡ 0xF2) ⊎ (b ≡ 0xF6) → WriteByte chip b

-- ---- as long as it lasts

-- where a use of demand 3's command has come to after n byte times
pub record Ending (c : Accepted) (e : Desk) (n : ℕ) : Type 0 where
  -- the next byte time is not refused
  pub goes_on : (l : Lines) (r : Passed) (row : List ℕ) → ByteTimeCall e.machine l e.row r row → r.outcome ≡ done
  -- "within L + 1,078 byte times where such an ID exists, and .. within 5L, where none does"
  pub where_one : OnRing (track_of c) → settling (track_of c) + (length c.row + 1078) ≤ n → Shows e busy_bit false
  pub where_none : (OnRing (track_of c) → ⊥) → settling (track_of c) + 5 * length c.row ≤ n → Shows e busy_bit false

-- What was bought: the three demands and the accident of March, in the tender's words, over the contracts of the calls, as the
-- prover gives them to the caller (`uses`: `CallContracts`, `Uses`, `Courses`). Assumes nothing.
use Rattle.std.specs.Prelude.{◌≡◌, Bool, true, false, List, ◌⊎◌, ◌↔◌, ℕ, suc, ◌+◌, ◌*◌, ◌≤◌, ◌<◌, length, get_or}
use Rattle.common.specs.Bits.{bit_of}
use Rattle.command.specs.declared.Chip.{Chip}
use Rattle.registers.specs.declared.Lines.{Lines}
use Rattle.picture.specs.declared.Answer.{Answer}
use Rattle.wd.specs.declared.Machine.{Machine}
use Rattle.wd.specs.declared.Called.{Called}
use Rattle.wd.specs.declared.Read.{Read}
use Rattle.wd.specs.declared.Passed.{Passed}
use Rattle.wd.specs.declared.Ran.{Ran}
use Rattle.safe.specs.Demand1.{SafePowerOn, SafeLoad, SafeRead, SafeByteTime, SafeRun}
use Rattle.safe.specs.Pictures.{SafePicture}
use Rattle.safe.specs.Viewer.{SafeView}
use Rattle.hosts.specs.Hosts.{Host, Desk}
use Rattle.hosts.specs.Scenes.{settling, field_bytes}
use Rattle.exact.specs.Demand2.{JustOne, NoMark, after, clear_cells, ReadsBack}
use Rattle.in_time.specs.Demand3.{OnRing, FirstWhole, MarkInWindow, FifthPulse}
use Rattle.lost_data.specs.LostData.{ByteLost, ZeroWritten, Terminated, PutOver, NeverSilently}
use Rattle.uses.specs.CallContracts.{PowerOnCall, PoweredOn, LoadCall, ReadCall, ByteTimeCall, RunCall, PictureCall, ViewCall, NumberCall}
use Rattle.uses.specs.Uses.{Use, documented, Answered, throughout, no_command, head_loaded, passed, host_of, IsHost}
use Rattle.uses.specs.Courses.{not_found_bit, lost_data_bit, Shows, Showed, NoErrorBit, FoundGood, Ending, Accepted, since, Course, took, silent, track_of, SingleRead, SingleWrite, ReadByte, WriteByte}
use Rattle.uses.specs.Sessions.{WriteThenRead, session_of, bytes_taken, length_code, bytes_loaded, bytes_read, Serves}
use Rattle.demands.specs.Requests.{Requests}
use Rattle.refusals.specs.Numbers.{done}

-- ---- 1. "Safe on every input: any register byte, track, drive line or machine state. A bad one gets a refusal by number, hands
-- back the machine as it came and changes no cell of a lent track in that byte time."
pub record Demand1 : Type 0 where
  pub power_on_call : (size : ℕ) (mfm : Bool) (chip : Chip) (r : Called) → PowerOnCall size mfm chip r → SafePowerOn size chip r
  pub load : (m : Machine) (l : Lines) (number b : ℕ) (r : Called) → LoadCall m l number b r → SafeLoad m l number b r
  pub read : (m : Machine) (l : Lines) (number : ℕ) (r : Read) → ReadCall m l number r → SafeRead m number r
  pub byte_time_call :
      (m : Machine) (l : Lines) (row : List ℕ) (r : Passed) (row' : List ℕ) → ByteTimeCall m l row r row' → SafeByteTime m row r row'
  pub run :
      (m : Machine) (l : Lines) (limit : ℕ) (row : List ℕ) (r : Ran) (row' : List ℕ)
      → RunCall m l limit row r row'
      → SafeRun m l limit row (record { ran = r; row = row' })
  pub picture :
      (bytes room : List ℕ) (r : Answer) (room' : List ℕ) → PictureCall bytes room r room' → SafePicture bytes room r room'
  pub view :
      (s0 s1 : List ℕ) (p0 : ℕ × ℕ) (mfm : Bool) (track sector : ℕ) (part : List ℕ) (start : ℕ × ℕ) (number : ℕ)
      → ViewCall s0 s1 p0 mfm track sector part start
      → NumberCall s0 s1 mfm track sector number
      → SafeView s0 s1 p0 mfm track sector number part start

-- ---- 2. "Exact: after any run of calls, registers, status, DRQ, INTRQ and every track cell are those that document 01 gives,
-- reading and writing alike." (Demand2's first fields.) "A single Write Sector accepted with the drive ready that ends by itself
-- with no error bit reads back the same by a Read Sector on the same registers and flags (bit 0 aside, which is 0 there), the next
-- command, accepted with the drive ready and ending by itself, where one track is lent throughout, changed by nothing but these
-- two commands, and holds just one ID of that track and sector, with no mark in the 11 (FM) or 22 (MFM) cells after it."
pub record ReadBackAsked (t : WriteThenRead) (p : ℕ) : Type 0 where
  pub writes : SingleWrite t.write.byte
  pub ready : t.write.lines.ready ≡ true
  pub dr : t.write.machine.regs.dr < 256  -- DR holds a byte, as its type says
  pub no_error : NoErrorBit Showed t.writing.after
  pub reads : SingleRead t.read.byte
  pub ready_then : t.read.lines.ready ≡ true
  pub same_tr : t.read.machine.regs.tr ≡ t.write.machine.regs.tr
  pub same_sr : t.read.machine.regs.sr ≡ t.write.machine.regs.sr
  pub same_flags : (place : ℕ) → 1 ≤ place → place ≤ 4 → bit_of t.read.byte place ≡ bit_of t.write.byte place
  pub just_one :
      JustOne t.write.machine.mfm t.write.row t.write.machine.regs.tr t.write.machine.regs.sr p
  pub no_mark :
      NoMark t.write.machine.mfm (after t.write.machine.mfm t.write.row p) (clear_cells t.write.machine.mfm)

pub record ReadBack (t : WriteThenRead) (p : ℕ) : Type 0 where
  -- byte for byte, each in its own byte time and over its own cell, whatever the host does; 128, 256, 512 or 1,024 of them
  pub same : ReadsBack (session_of t) p
  pub many : length (bytes_taken t) ≡ field_bytes t.write.machine.chip t.write.byte (length_code t p)
  pub good : FoundGood t.reading.after (bit_of t.write.byte 0)
  -- for a host that serves each DRQ before the next byte time, the bytes given to `load_register(3)` are the bytes returned by
  -- `read_register(3)`, in order, with DRQ on before each and no Lost Data
  pub seen : Serves t → bytes_read t.reading.calls ≡ bytes_loaded t.writing.calls
  pub all_seen : Serves t → bytes_loaded t.writing.calls ≡ bytes_taken t
  pub none_lost : Serves t → Shows t.reading.after lost_data_bit false

pub record Demand2 : Type 0 where
  pub starts : (size : ℕ) (mfm : Bool) (chip : Chip) (r : Called)
      → PowerOnCall size mfm chip r → r.outcome ≡ done → PoweredOn size mfm chip r.machine
  pub exactly : (d e : Desk) (u : Use d e) → (e ≡ documented d u) × Answered d u
  -- any interleaving of runs (any limits), byte times and register calls over one row is a host's
  pub every_use : (d e : Desk) (u : Use d e) → IsHost u
  -- the side output, the end of a multiple read, and the data mark that a read shows
  pub requests : Requests
  pub reads_back : (t : WriteThenRead) (p : ℕ) → ReadBackAsked t p → ReadBack t p

-- ---- 3. "In time: take a single Read Sector accepted with the drive ready, the head-load line on throughout, no other command
-- accepted, and the same track of L cells, none above 511, lent each byte time."
pub record ReadAsked (c : Accepted) : Type 0 where
  pub single : SingleRead c.byte
  pub ready : c.lines.ready ≡ true
  pub whole : length c.row ≡ c.machine.ring.length
  pub low : (i : ℕ) → i < length c.row → get_or c.row i 0 ≤ 511

-- "It ends with Record Not Found exactly when no ID on the whole ring matches with a good CRC, or the first such ID to pass whole
-- after settling has no data mark in its window. Counted after settling, it ends within L + 1,078 byte times where such an ID
-- exists, and at the fifth index pulse, within 5L, where none does."
pub record ReadEnds (c : Accepted) (course : Course c) : Type 0 where
  pub not_found : (l : Lines) (r : Read)
      → ReadCall course.after.machine l 0 r
      → (bit_of r.byte not_found_bit ≡ true)
      ↔ ((OnRing (track_of c) → ⊥) ⊎ ((k : ℕ) × FirstWhole (track_of c) k × (MarkInWindow (track_of c) k → ⊥)))
  pub where_one : OnRing (track_of c) → took course ≤ settling (track_of c) + (length c.row + 1078)
  pub where_none : (OnRing (track_of c) → ⊥)
      → (k : ℕ) × FifthPulse (track_of c) k × (took course ≡ settling (track_of c) + suc k) × (suc k ≤ 5 * length c.row)

pub record Demand3 : Type 0 where
  -- it ends: no byte time is refused on the way, and when so many have passed Busy is off
  pub ends : (c : Accepted) (e : Desk) (u : Use (since c) e)
      → ReadAsked c
      → throughout head_loaded u ≡ true
      → throughout no_command u ≡ true
      → Ending c e (passed u)
  pub ends_so : (c : Accepted) (course : Course c)
      → ReadAsked c
      → throughout head_loaded course.calls ≡ true
      → head_loaded course.before course.after course.last ≡ true
      → ReadEnds c course

-- ---- The accident of March, in every use, at the command's end and at any other time: in a read Lost Data is on exactly when
-- some byte was delivered while the one before it had not been taken; in a write exactly when a cell took 00 for want of a byte, or
-- nobody served it at all; and no byte is ever written over in DR, by a byte time while DRQ is on, without it.
abbrev pub LostExactly : (c : Accepted) {e : Desk} → Use (since c) e → (ℕ → Type 0) → Type 0
LostExactly c {e} u Cause =
    throughout no_command u ≡ true
    → (l : Lines) (r : Read)
    → ReadCall e.machine l 0 r
    → (bit_of r.byte lost_data_bit ≡ true) ↔ ((k : ℕ) × (k < passed u) × Cause k)

pub record March : Type 0 where
  pub read : (c : Accepted) (e : Desk) (u : Use (since c) e)
      → ReadByte c.machine.chip c.byte
      → LostExactly c u (ByteLost (host_of u silent) (since c))
  pub write : (c : Accepted) (e : Desk) (u : Use (since c) e)
      → WriteByte c.machine.chip c.byte
      → LostExactly c u (λ k. ZeroWritten (host_of u silent) (since c) k ⊎ Terminated (host_of u silent) (since c) k)
  pub never_silently : (c : Accepted) (e : Desk) (u : Use (since c) e) (k : ℕ)
      → ReadByte c.machine.chip c.byte ⊎ WriteByte c.machine.chip c.byte
      → throughout no_command u ≡ true
      → k < passed u
      → PutOver (host_of u silent) (since c) k
      → Shows e lost_data_bit true
  pub of_every_machine : (h : Host) (d : Desk) → NeverSilently h d

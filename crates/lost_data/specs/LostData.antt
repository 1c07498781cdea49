-- The accident of March: a host was late for one byte, the next was written over it in DR, and Lost Data stayed off. Here: when
-- Lost Data is on, exactly, in reads and in writes, under every host; and that no byte is written over without it. Scenes,
-- hosts, and the byte times that hand a byte over or take one, are of the crate `hosts`. Assumes nothing.
use Rattle.std.specs.Prelude.{◌≡◌, Bool, true, false, not, ◌&&◌, List, [], ◌∷◌, ◌⊎◌, ℕ, suc, ◌≤◌, ◌<◌, eqb, get_or, Some}
use Rattle.common.specs.Bits.{bit_of}
use Rattle.command.specs.Commands.{decoded_of}
use Rattle.command.specs.declared.Command.{Command}
use Rattle.command.specs.declared.Command.TheVariants.{ReadSector, WriteSector, ReadAddress, WriteTrack}
use Rattle.activity.specs.Limits.{busy_in}
use Rattle.activity.specs.declared.Deed.{Deed}
use Rattle.activity.specs.declared.Deed.TheVariants.{Nothing, Deliver, Named, Matched, NotFound, Record, Written, Ask, Late, Take, Step, Halt}
use Rattle.registers.specs.declared.Lines.{Lines}
use Rattle.wd.specs.declared.Machine.{Machine}
use Rattle.wd.specs.Reads.{read_register}
use Rattle.wd.specs.Loads.{load_register}
use Rattle.hosts.specs.Hosts.{Call, loads, reads, NoneAccepted, Host, Desk, served_at, at, AloneUntil, BusyAt}
use Rattle.hosts.specs.Scenes.{Scene, loaded}
use Rattle.hosts.specs.Bytes.{deed_at, takes, hands}
use Rattle.refusals.specs.Numbers.{done}

-- ---- what the host does and sees

-- "Reads 0 to 3: status, TR, SR, DR. Writes 0 to 3: command, TR, SR, DR.": a call that reads or loads DR
unfoldable pub on_dr : Call → Bool
on_dr (loads l number b byte) = eqb number 3
on_dr (reads l number) = eqb number 3

-- "Reading or loading DR turns DRQ off.": none of the calls does
unfoldable pub none_on_dr : List Call → Bool
none_on_dr [] = true
none_on_dr (c ∷ cs) = not (on_dr c) && none_on_dr cs

-- "2 .. Lost Data": bit 2 of the status byte that a read hands back under these lines
abbrev pub lost_data : Machine → Lines → Bool
lost_data m l = bit_of (read_register m l 0).byte 2

-- ---- the commands

-- Read Sector with m or without, Read Address
pub data ReadCommand : Command → Type 0 where
  read_sector : ReadCommand ReadSector
  read_address : ReadCommand ReadAddress

-- Write Sector with m or without, Write Track
pub data WriteCommand : Command → Type 0 where
  write_sector : WriteCommand WriteSector
  write_track : WriteCommand WriteTrack

-- the scene's command is this one and accepted, with the drive ready or not, and no other is before byte time n
pub record AcceptedAlone (s : Scene) (command : Command) (n : ℕ) : Type 0 where
  pub decodes : decoded_of s.machine.chip s.byte ≡ Some command
  pub accepted : (load_register s.machine s.lines 0 s.byte).outcome ≡ done
  pub alone : AloneUntil s.host (loaded s) n

-- ---- reads

-- "Each data byte .. goes to DR and sets DRQ; if DRQ was still on, Lost Data.": byte times j and k each hand a byte over, and
-- none of the host's calls between the two reads or loads DR
pub record ByteLost (h : Host) (d : Desk) (k : ℕ) : Type 0 where
  pub j : ℕ
  pub before : j < k
  pub first : hands (deed_at h d j) ≡ true
  pub second : hands (deed_at h d k) ≡ true
  pub untaken : (i : ℕ) → j < i → i ≤ k → none_on_dr (h.calls i) ≡ true

-- ---- writes

-- "DRQ at 2", "then DRQ is on", "then DRQ again", "DRQ comes with the second": the deed asks for a byte
unfoldable pub asks_byte : Deed → Bool
asks_byte Nothing = false
asks_byte (Deliver b) = false
asks_byte (Named b track bad) = false
asks_byte (Matched bad) = false
asks_byte NotFound = false
asks_byte (Record deleted bad follows) = false
asks_byte (Written follows) = false
asks_byte (Ask on) = on
asks_byte Late = false
asks_byte (Take on) = on
asks_byte (Step inward track) = false
asks_byte (Halt rule load) = false

-- "DRQ is still on": it was on as `since` byte times had passed, the last of which asked for a byte (or none had passed: "DRQ
-- at acceptance"), and none of the host's calls from then on up to byte time k reads or loads DR
pub record NotServiced (h : Host) (d : Desk) (k : ℕ) : Type 0 where
  pub since : ℕ
  pub before : since ≤ k
  pub on : (at h d since).machine.wires.drq ≡ true
  pub asked : (j : ℕ) → since ≡ suc j → asks_byte (deed_at h d j) ≡ true
  pub unserved : (i : ℕ) → since ≤ i → i ≤ k → none_on_dr (h.calls i) ≡ true

-- "Each data cell takes DR, or 00 with Lost Data if DRQ is on"; Write Track: "each from DR, 00 with Lost Data where DRQ is
-- still on": the cell under the head in byte time k is 00 after it
pub record ZeroWritten (h : Host) (d : Desk) (k : ℕ) : Type 0 where
  pub takes_byte : takes (deed_at h d k) ≡ true
  pub not_serviced : NotServiced h d k
  pub cell : get_or (at h d (suc k)).row (at h d k).machine.ring.position 0 ≡ 0x00

-- Write Sector: "DRQ at 2. Still on at 10: Lost Data, end"; Write Track: "DRQ at acceptance ..; still on at the first pulse:
-- Lost Data, end": byte time k ends the command
pub record Terminated (h : Host) (d : Desk) (k : ℕ) : Type 0 where
  pub late : deed_at h d k ≡ Late
  pub not_serviced : NotServiced h d k
  pub busy : BusyAt h d k
  pub over : busy_in (at h d (suc k)).machine.activity ≡ false

-- ---- never silently

-- "if DRQ was still on": then byte time k hands a byte over, or leaves another in DR than it finds there
pub record PutOver (h : Host) (d : Desk) (k : ℕ) : Type 0 where
  pub still : (served_at h k (at h d k)).machine.wires.drq ≡ true
  pub put :
      (hands (deed_at h d k) ≡ true)
      ⊎ ((at h d (suc k)).machine.regs.dr ≡ (served_at h k (at h d k)).machine.regs.dr → ⊥)

-- No byte is written over in DR without Lost Data, which stays on until a command is accepted. Of machine, lines and row
-- nothing is asked.
abbrev pub NeverSilently : Host → Desk → Type 0
NeverSilently h d =
    (k n : ℕ)
    → PutOver h d k
    → k < n
    → ((i : ℕ) → k < i → i < n → NoneAccepted (at h d i).machine (h.calls i))
    → (at h d n).machine.flags.lost ≡ true

-- The viewer and the machine agree: the premises under which a Read Sector hands over the bytes that the viewer shows, and the
-- conclusion. Assumes nothing.
use Rattle.std.specs.Prelude.{◌≡◌, true, false, not, List, map, ℕ, suc, ◌+◌, ◌-◌, ◌≤◌, ◌<◌, get_or, Result, Ok, Some}
use Rattle.refusals.specs.declared.Refusal.{Refusal}
use Rattle.scan.specs.Marks.{byte_of}
use Rattle.scan.specs.Streams.{id_from}
use Rattle.command.specs.Bits.{is_multiple, ibm_lengths}
use Rattle.command.specs.Commands.{decoded_of}
use Rattle.command.specs.declared.Command.TheVariants.{ReadSector}
use Rattle.viewer.specs.declared.Place.{Place}
use Rattle.viewer.specs.declared.Place.TheVariants.{Zero, One}
use Rattle.viewer.specs.Sectors.{span_of}
use Rattle.viewer.specs.Views.{place_of, part_cells}
use Rattle.viewer.specs.Plain.{FirstSector}
use Rattle.registers.specs.declared.Lines.{Lines}
use Rattle.registers.specs.Status.{bit_for}
use Rattle.wd.specs.declared.Machine.{Machine}
use Rattle.wd.specs.Reads.{status_of}
use Rattle.wd.specs.Loads.{load_register}
use Rattle.fields.specs.Rings.{cells_of}
use Rattle.hosts.specs.Hosts.{at, EndsAt, Undisturbed}
use Rattle.hosts.specs.Scenes.{Scene, loaded, SideSuits, counts_deleted}
use Rattle.hosts.specs.Bytes.{handed, LateAt}
use Rattle.in_time.specs.Demand3.{OnRing}
use Rattle.refusals.specs.Numbers.{done}

-- ---- premises: the command

-- The command of demand 3, whatever HLT does, if it ends: with HLT on throughout demand 3 says that it does.
pub record Reads (s : Scene) (n : ℕ) : Type 0 where
  -- a single Read Sector: without m
  pub reads : decoded_of s.machine.chip s.byte ≡ Some ReadSector
  pub single : is_multiple s.byte ≡ false
  -- accepted with the drive ready
  pub accepted : (load_register s.machine s.lines 0 s.byte).outcome ≡ done
  pub ready : s.lines.ready ≡ true
  -- no other command accepted while it is Busy
  pub alone : Undisturbed s.host (loaded s)
  -- ending by itself in byte time n
  pub ends : EndsAt s.host (loaded s) n

-- ---- premises: the viewer

-- "The viewer is lent the cells of both sides, density, track and sector": two sides, and the machine's density, TR and SR
abbrev pub place_in : Scene → List ℕ → List ℕ → Result Place Refusal
place_in s s0 s1 = place_of s0 s1 s.machine.mfm s.machine.regs.tr s.machine.regs.sr

-- "and hands back the data cells"
abbrev pub shown : Scene → List ℕ → List ℕ → List ℕ
shown s s0 s1 = part_cells (place_in s s0 s1) s0 s1

-- it finds the sector on the side that is the scene's track: its data cells are those from one up to another
pub data Finds (s : Scene) (s0 s1 : List ℕ) (from to : ℕ) : Type 0 where
  on_side_0 : s0 ≡ s.row → place_in s s0 s1 ≡ Ok (Zero (span_of from to)) → Finds s s0 s1 from to
  on_side_1 : s1 ≡ s.row → place_in s s0 s1 ≡ Ok (One (span_of from to)) → Finds s s0 s1 from to

-- it finds a sector there, and the command can go by no other ID
pub record Viewed (s : Scene) (s0 s1 : List ℕ) (from to : ℕ) : Type 0 where
  pub finds : Finds s s0 s1 from to
  -- the sector's side suits the command: the viewer compares no side, so it is asked of the ID that it found, from cell p on
  pub side : (p : ℕ)
      → FirstSector s.machine.mfm s.row s.machine.regs.tr s.machine.regs.sr p from to
      → SideSuits s.machine.chip s.byte (id_from s.machine.mfm (cells_of s.row) p).side
  -- the length codes mean to the command what they mean to the viewer, which knows no chip: on the 1797, L is 1
  pub lengths : ibm_lengths s.machine.chip s.byte ≡ true
  -- the only one of its track and sector: no two IDs on the whole ring, over its end or not, match with a good CRC. One
  -- with a bad CRC does not count, nor, where a side is asked for, one of the other side.
  pub only : (a b : OnRing s) → a.cell ≡ b.cell

-- ---- conclusion

-- the machine after byte time n
abbrev pub read_by : Scene → ℕ → Machine
read_by s n = (at s.host (loaded s) n).machine

-- "Each data byte, flags ignored, goes to DR" as its cell passes: byte time r + i, counted from 0, is over cell from + i, and
-- DR after it is the byte there. The viewer takes nothing past the last cell, so these do not go round.
pub record CellByCell (s : Scene) (from to n r : ℕ) : Type 0 where
  pub within : r + (to - from) ≤ n
  pub cell : (i : ℕ) → i < to - from → (read_by s (r + i)).ring.position ≡ from + i
  pub byte : (i : ℕ) → i < to - from → (read_by s (suc (r + i))).regs.dr ≡ byte_of (get_or s.row (from + i) 0)

-- of a command that ends in byte time n
pub record Agrees (s : Scene) (s0 s1 : List ℕ) (from to n : ℕ) : Type 0 where
  -- the bytes that it hands over are those of the cells that the viewer hands back, in their order
  pub bytes : handed s.host (loaded s) n ≡ map byte_of (shown s s0 s1)
  -- each in its own byte time
  pub each : (r : ℕ) × CellByCell s from to n r
  -- neither Record Not Found nor a CRC error: the status byte, under any lines, has no bits but Not Ready, the mark, Lost
  -- Data and DRQ; the mark's byte is the one before the data cells
  pub status :
      (l : Lines)
      → (status_of (read_by s n) l).byte
      ≡ bit_for (not l.ready) 0x80
      + bit_for (counts_deleted (byte_of (get_or s.row (from - 1) 0))) 0x20
      + bit_for (read_by s n).flags.lost 0x04
      + bit_for (read_by s n).wires.drq 0x02
  -- and Lost Data only where the host was late
  pub lost : (read_by s n).flags.lost ≡ true → (k : ℕ) × (k < n) × LateAt s.host (loaded s) k

-- it ends by itself, and agrees
abbrev pub Agreement : Scene → List ℕ → List ℕ → ℕ → ℕ → Type 0
Agreement s s0 s1 from to = (n : ℕ) × EndsAt s.host (loaded s) n × Agrees s s0 s1 from to n

-- Demand 3, "In time": its premises and its conclusion. The command itself, its host, how long it settles and
-- which IDs match are of the crate `hosts`: `specs/Scenes.antt` and `specs/Hosts.antt`. Assumes nothing.
use Rattle.std.specs.Prelude.{◌≡◌, Bool, true, false, cond, ◌⊎◌, ◌↔◌, ℕ, suc, ◌+◌, ◌*◌, ◌≤◌, ◌<◌, length, get_or, Some}
use Rattle.scan.specs.Marks.{lead_of}
use Rattle.scan.specs.Streams.{MarkAt, IdAt, id_from, IdEnds}
use Rattle.scan.specs.declared.Id.{Id}
use Rattle.command.specs.Bits.{is_multiple}
use Rattle.command.specs.Commands.{decoded_of}
use Rattle.command.specs.declared.Command.TheVariants.{ReadSector}
use Rattle.registers.specs.declared.Lines.{Lines}
use Rattle.fields.specs.Rings.{cells_of}
use Rattle.wd.specs.Loads.{load_register}
use Rattle.reachable.specs.ByteTimes.{turns_on}
use Rattle.hosts.specs.Hosts.{BusyAt, Undisturbed, at, EndsAt}
use Rattle.hosts.specs.Scenes.{Scene, loaded, settling, Suits, not_found}
use Rattle.hosts.specs.Tracks.{position_at, passing, pulses_in}
use Rattle.refusals.specs.Numbers.{done}

-- ---- premises

-- of a command, its host and its track
pub record InTimePremises (s : Scene) : Type 0 where
  -- "take a single Read Sector": without m
  pub reads : decoded_of s.machine.chip s.byte ≡ Some ReadSector
  pub single : is_multiple s.byte ≡ false
  -- "accepted with the drive ready"
  pub accepted : (load_register s.machine s.lines 0 s.byte).outcome ≡ done
  pub ready : s.lines.ready ≡ true
  -- "the head-load line on throughout"
  pub hlt : (n : ℕ) → BusyAt s.host (loaded s) n → (s.host.lines n).hlt ≡ true
  -- "no other command accepted"
  pub alone : Undisturbed s.host (loaded s)
  -- "the same track of L cells, none above 511, lent each byte time"
  pub whole : length s.row ≡ s.machine.ring.length
  pub low : (i : ℕ) → i < length s.row → get_or s.row i 0 ≤ 511

-- ---- the track that passes

-- "after settling": where the head is then, and the stream of cells that pass from there on
abbrev pub start_of : Scene → ℕ
start_of s = (turns_on (settling s) s.machine.ring).position

abbrev pub stream_of : Scene → ℕ → ℕ
stream_of s = passing s.row (start_of s)

-- an ID "on the whole ring matches with a good CRC": it stands from some cell on, over the ring's end or not
pub record OnRing (s : Scene) : Type 0 where
  pub cell : ℕ
  pub inside : cell < length s.row
  pub stands : IdAt s.machine.mfm (cells_of s.row) cell
  pub suits : Suits s (id_from s.machine.mfm (cells_of s.row) cell)

-- "the first such ID to pass whole after settling": its last cell is the stream's cell n
pub record FirstWhole (s : Scene) (n : ℕ) : Type 0 where
  pub id : Id
  pub ends : IdEnds s.machine.mfm (stream_of s) n id
  pub suits : Suits s id
  pub first : (k : ℕ) → k < n → (other : Id) → IdEnds s.machine.mfm (stream_of s) k other → Suits s other → ⊥

-- "The mark byte must be among the first 30 (FM) or 43 (MFM) cells after the ID's last"
unfoldable pub window_cells : Bool → ℕ
window_cells mfm = cond mfm 43 30

-- "Data marks are FB (normal) and F8 (deleted)."; "In FM only, flagged F9 and FA become data marks", and "demand 3's "data mark"
-- includes them in FM": the byte of a data mark
pub data IsDataMark (mfm : Bool) (byte : ℕ) : Type 0 where
  fb : byte ≡ 0xFB → IsDataMark mfm byte
  f8 : byte ≡ 0xF8 → IsDataMark mfm byte
  f9 : mfm ≡ false → byte ≡ 0xF9 → IsDataMark mfm byte
  fa : mfm ≡ false → byte ≡ 0xFA → IsDataMark mfm byte

-- ".. in MFM its three A1s too": an ID whose last cell is n has a data mark in its window, from cell a on
pub record MarkInWindow (s : Scene) (n : ℕ) : Type 0 where
  pub a : ℕ
  pub byte : ℕ
  pub data_mark : IsDataMark s.machine.mfm byte
  pub stands : MarkAt s.machine.mfm (stream_of s) a byte
  pub after : n < a
  pub within : a + lead_of s.machine.mfm ≤ n + window_cells s.machine.mfm

-- "the fifth index pulse": four have come before byte time n, which is one
pub record FifthPulse (s : Scene) (n : ℕ) : Type 0 where
  pub four : pulses_in (length s.row) (start_of s) n ≡ 4
  pub pulse : position_at (length s.row) (start_of s) n ≡ 0

-- ---- conclusion, of a command that ends in byte time n, counted from 1 after the load

pub record InTime (s : Scene) (n : ℕ) : Type 0 where
  -- "When it ends by itself, Busy goes off and INTRQ on in that byte time."
  pub raised : (at s.host (loaded s) n).machine.wires.intrq ≡ true
  -- "It ends with Record Not Found exactly when no ID on the whole ring matches with a good CRC, or the first such ID to pass
  -- whole after settling has no data mark in its window"
  pub exactly :
      (l : Lines)
      → (not_found (at s.host (loaded s) n).machine l ≡ true)
      ↔ ((OnRing s → ⊥) ⊎ ((k : ℕ) × FirstWhole s k × (MarkInWindow s k → ⊥)))
  -- "Counted after settling, it ends within L + 1,078 byte times where such an ID exists"
  pub found : OnRing s → n ≤ settling s + (length s.row + 1078)
  -- "and at the fifth index pulse, within 5L, where none does"
  pub lost : (OnRing s → ⊥) → (k : ℕ) × FifthPulse s k × (n ≡ settling s + suc k) × (suc k ≤ 5 * length s.row)
  -- "the same track .. lent each byte time": all along it is as it was
  pub row : (k : ℕ) → k ≤ n → (at s.host (loaded s) k).row ≡ s.row

-- "In time": it ends by itself, in time
abbrev pub Demand3 : Scene → Type 0
Demand3 s = (n : ℕ) × EndsAt s.host (loaded s) n × InTime s n

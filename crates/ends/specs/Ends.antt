-- Every command ends: with HLT on, each accepted command without m ends by itself, within so many byte times. Its
-- premises and its conclusion. Assumes nothing.
use Rattle.std.specs.Prelude.{◌≡◌, Bool, true, false, cond, not, ◌&&◌, List, [], ◌∷◌, ◌⊎◌, ℕ, ◌+◌, ◌-◌, ◌*◌, ◌≤◌, ◌<◌, eqb, length, get_or, Some}
use Rattle.command.specs.Bits.{is_multiple, verifies_track}
use Rattle.command.specs.Commands.{decoded_of}
use Rattle.command.specs.Times.{step_time_of, settle_time_of}
use Rattle.command.specs.declared.Command.{Command}
use Rattle.command.specs.declared.Command.TheVariants.{Restore, Seek, Step, StepIn, StepOut, ReadSector, WriteSector, ReadAddress, WriteTrack, ForceInterrupt}
use Rattle.accepting.specs.Accepting.{ends_at_once}
use Rattle.wd.specs.Loads.{load_register}
use Rattle.hosts.specs.Hosts.{Call, loads, reads, at, BusyAt, Undisturbed, EndsAt}
use Rattle.hosts.specs.Scenes.{Scene, loaded, settling}
use Rattle.refusals.specs.Numbers.{done}

-- ---- premises

-- Of Ready, protect and track 0 nothing is asked in any byte time, and nothing of the calls in between but that none of them
-- is an accepted command; when it is over the host does as it likes.
pub record EndPremises (s : Scene) (command : Command) : Type 0 where
  -- every accepted command
  pub decodes : decoded_of s.machine.chip s.byte ≡ Some command
  pub accepted : (load_register s.machine s.lines 0 s.byte).outcome ≡ done
  -- "without m", the bit of Type II
  pub single : (command ≡ ReadSector) ⊎ (command ≡ WriteSector) → is_multiple s.byte ≡ false
  -- "the head-load line on throughout"
  pub hlt : (n : ℕ) → BusyAt s.host (loaded s) n → (s.host.lines n).hlt ≡ true
  -- "no other command accepted"
  pub alone : Undisturbed s.host (loaded s)
  -- "the same track of L cells, none above 511, lent each byte time"
  pub whole : length s.row ≡ s.machine.ring.length
  pub low : (i : ℕ) → i < length s.row → get_or s.row i 0 ≤ 511
  -- a byte in TR and in DR, as their types say
  pub tr : s.machine.regs.tr < 256
  pub dr : s.machine.regs.dr < 256

-- none of the calls loads DR
unfoldable pub leaves_dr : List Call → Bool
leaves_dr [] = true
leaves_dr (loads l number b byte ∷ cs) = not (eqb number 3) && leaves_dr cs
leaves_dr (reads l number ∷ cs) = leaves_dr cs

-- A Seek looks at DR in each of its decisions, "after each wait", so a host that moves the target away again and again may
-- keep a Seek or a Restore stepping. So these two alone have the premise that no call on the way loads DR.
abbrev pub KeepsTarget : Scene → Command → Type 0
KeepsTarget s command =
    (command ≡ Restore) ⊎ (command ≡ Seek) → (n : ℕ) → BusyAt s.host (loaded s) n → leaves_dr (s.host.calls n) ≡ true

-- ---- within how many byte times

-- "TR moves by one towards DR": so many steps lie between two tracks
unfoldable pub apart : ℕ → ℕ → ℕ
apart a b = (a - b) + (b - a)

-- "the next decision comes a step time later"
abbrev pub stepping : Scene → ℕ
stepping s = step_time_of s.machine.mfm s.byte

-- "within 5L": what a search takes, whether it finds an ID or not, and what is read or written after the ID
abbrev pub five_rounds : Scene → ℕ
five_rounds s = 5 * length s.row

-- "V: load head, settle 469/938 from the next byte time, wait for HLT, then seek an ID whose track is TR"
abbrev pub verifying : Scene → ℕ
verifying s = cond (verifies_track s.byte) (settle_time_of s.machine.mfm + five_rounds s) 0

-- Types II and III: at once where the drive is not ready, or protected from a write; else settled, and then so many
abbrev pub worked : Scene → Command → ℕ → ℕ
worked s command most = cond (ends_at_once command s.lines) 0 (settling s + most)

-- The byte times of each command, at most: a Type I command decides in its first, and each step takes a step time; a Write
-- Track that begins at cell 1 waits L - 1 byte times for its pulse and then lays L cells; Force Interrupt takes none.
unfoldable pub bound_of : Scene → Command → ℕ
bound_of s Restore = 1 + 255 * stepping s + verifying s
bound_of s Seek = 1 + apart s.machine.regs.tr s.machine.regs.dr * stepping s + verifying s
bound_of s Step = 1 + stepping s + verifying s
bound_of s StepIn = 1 + stepping s + verifying s
bound_of s StepOut = 1 + stepping s + verifying s
bound_of s ReadSector = worked s ReadSector (five_rounds s)
bound_of s WriteSector = worked s WriteSector (five_rounds s)
bound_of s ReadAddress = worked s ReadAddress (five_rounds s)
bound_of s WriteTrack = worked s WriteTrack (2 * length s.row - 1)
bound_of s ForceInterrupt = 0

-- ---- conclusion

-- "When it ends by itself, Busy goes off and INTRQ on in that byte time.", or in the load itself: "not ready ends it at once
-- with INTRQ". A Force Interrupt is over as it is accepted, and its bit 3 alone says whether INTRQ is on.
abbrev pub Raised : Scene → Command → ℕ → Type 0
Raised s command n = (command ≡ ForceInterrupt → ⊥) → (at s.host (loaded s) n).machine.wires.intrq ≡ true

-- it ends by itself, in time, and says so
abbrev pub Ends : Scene → Command → Type 0
Ends s command = (n : ℕ) × EndsAt s.host (loaded s) n × (n ≤ bound_of s command) × Raised s command n

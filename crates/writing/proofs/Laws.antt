-- What stands after the data of a written field: its own CRC, which makes it good, and an FF. Assumes nothing.
use mathlib.Core.Path.{◌≡◌, refl}
use mathlib.Core.Bool.{Bool}
use Prim.Native.Nat.{ℕ, ◌<◌}
use Rattle.crc.specs.Crc.{crc_byte}
use Rattle.crc.proofs.Laws.{closes}
use Rattle.activity.specs.declared.Seen.{Seen}
use Rattle.writing.specs.Writing.{put_cell}

-- "two CRC bytes": "a field is good when the register is 0 after its own CRC", high byte first
pub own_crc :
    (s : Seen) (multiple : Bool) (crc : ℕ)
    → crc < 65536
    → crc_byte (crc_byte crc (put_cell s multiple 3 crc).cell) (put_cell s multiple 2 crc).cell ≡ 0
unfolding put_cell
own_crc s multiple crc word = closes crc word

-- "one FF"
pub last_ff : (s : Seen) (multiple : Bool) (crc : ℕ) → (put_cell s multiple 1 crc).cell ≡ 0xFF
unfolding put_cell
last_ff s multiple crc = refl

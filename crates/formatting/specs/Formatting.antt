-- Write Track after its first index pulse: document 01, "Moving bytes". Assumes nothing.
use Rattle.std.specs.Prelude.{Bool, false, cond, not, ◌||◌, ℕ, ◌+◌, ◌/◌, ◌%◌, eqb}
use Rattle.crc.specs.Crc.{preset, crc_byte}
use Rattle.scan.specs.Marks.{sync}
use Rattle.command.specs.Commands.{within}
use Rattle.activity.specs.Acts.{write, taken_of}
use Rattle.activity.specs.declared.Seen.{Seen}
use Rattle.activity.specs.declared.Act.{Act}
use Rattle.activity.specs.declared.Activity.{Activity}
use Rattle.activity.specs.declared.Activity.TheVariants.{Idle, Format, FormatCrc}
use Rattle.activity.specs.declared.Deed.TheVariants.{Ask, Take}

-- "cell L - 1 ends it"
unfoldable pub until_last : Bool → Activity → Activity
until_last last next = cond last Idle next

-- "FM: F8-FB and FE flagged with preset"
unfoldable pub presets : ℕ → Bool
presets b = within 0xF8 0xFB b || eqb b 0xFE

-- "FC flagged. MFM: F5 flagged A1 .. F6 flagged C2. All else plain."
unfoldable pub laid_cell : Bool → ℕ → ℕ
laid_cell mfm b =
    cond mfm
    (cond (eqb b 0xF5) sync (cond (eqb b 0xF6) 0x1C2 b))
    (cond (presets b || eqb b 0xFC) (b + 256) b)

-- "register CDB4 after it", "CRC starts at FFFF and takes every byte.": of F6 the C2 that is written (decision 31)
unfoldable pub laid_crc : Bool → ℕ → ℕ → ℕ
laid_crc mfm crc b =
    cond mfm
    (cond (eqb b 0xF5) 0xCDB4 (cond (eqb b 0xF6) (crc_byte crc 0xC2) (crc_byte crc b)))
    (cond (presets b) (crc_byte preset b) (crc_byte crc b))

-- "each from DR, 00 with Lost Data where DRQ is still on; then DRQ again; cell L - 1 ends it, DRQ off."
-- "F7 writes two CRC cells for one byte, and DRQ comes with the second."
unfoldable pub format_cell : Seen → ℕ → Act
format_cell s crc =
    cond (eqb (taken_of s) 0xF7)
    (write (crc / 256) (until_last s.last (FormatCrc crc)) (Take false))
    (write (laid_cell s.mfm (taken_of s))
    (until_last s.last (Format (laid_crc s.mfm crc (taken_of s))))
    (Take (not s.last)))

-- the register has taken both cells of its own CRC
unfoldable pub format_crc_cell : Seen → ℕ → Act
format_crc_cell s crc = write (crc % 256) (until_last s.last (Format 0x0000)) (Ask (not s.last))

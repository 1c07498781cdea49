-- What numbers of the language stand for. Assumes nothing.
use Rattle.std.specs.Prelude.{ℕ, ◌/◌, ◌%◌, Bool, cond, ◌==◌}
use Rattle.command.specs.declared.Chip.{Chip}
use Rattle.command.specs.declared.Chip.TheVariants.{Wd1793, Wd1797}
use Rattle.registers.specs.declared.Lines.{Lines}
use Rattle.registers.specs.declared.Pulse.{Pulse}
use Rattle.registers.specs.declared.Pulse.TheVariants as pulse

-- "bit 0 Ready, bit 1 protect, bit 2 track 0, bit 3 head-loaded (HLT)"
abbrev pub drive_lines : ℕ → Lines
drive_lines bits =
    record {
      ready = (bits % 2 == 1);
      protect = (bits / 2 % 2 == 1);
      track0 = (bits / 4 % 2 == 1);
      hlt = (bits / 8 % 2 == 1);
    }

-- "c = 0 the 1793, 1 the 1797"
abbrev pub chip_of : Bool → Chip
chip_of wd1797 = cond wd1797 Wd1797 Wd1793

-- "both rows become L cells of 00FF (FM) or 004E (MFM)"
abbrev pub gap_of : Bool → ℕ
gap_of mfm = cond mfm 0x4E 0xFF

-- "p is 00 for no step pulse, 01 for one in, 02 for one out"
abbrev pub pulse_byte : Pulse → ℕ
pulse_byte pulse.Off = 0
pulse_byte pulse.In = 1
pulse_byte pulse.Out = 2

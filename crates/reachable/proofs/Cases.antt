-- The cases of document 01 that are marked P, proved together. Assumes nothing.
use mathlib.Core.Path.{◌≡◌, refl}
use mathlib.Core.Bool.{Bool}
use mathlib.Core.List.{map}
use Rattle.crc.specs.Crc.{crc_bit, crc_bits, crc_byte, crc_over}
use Rattle.command.specs.Commands.{decoded_by_both, decoded_with_u, decoded_of}
use Rattle.command.specs.declared.Chip.{Chip}
use Rattle.command.specs.declared.Chip.TheVariants.{Wd1793, Wd1797}
use Rattle.activity.specs.Limits.{busy_in, counts_within}
use Rattle.registers.specs.declared.Lines.{Lines}
use Rattle.scan.specs.Rows.{length_within}
use Rattle.registers.specs.Rings.{ring_within}
use Rattle.refusals.specs.Numbers.{number_of, number_in}
use Rattle.registers.specs.Registers.{guarded, load_refusal}
use Rattle.wd.specs.Machines.{valid_of, fresh_machine, power_on}
use Rattle.wd.specs.Loads.{command_answer, load_register}
use Rattle.reachable.specs.Cases.{given_by, marked}

-- each case gives what stands beside it
pub all_given : (mfm : Bool) (chip : Chip) (l : Lines) → map (λ c. given_by mfm chip l c.0) marked ≡ map (λ c. c.1) marked
unfolding number_in number_of crc_over crc_byte crc_bits crc_bit power_on length_within load_register load_refusal guarded valid_of ring_within counts_within busy_in fresh_machine command_answer decoded_of decoded_by_both decoded_with_u
all_given mfm Wd1793 l = refl
all_given mfm Wd1797 l = refl

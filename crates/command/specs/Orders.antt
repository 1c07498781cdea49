-- The order that an accepted command leaves for the byte times. What differs between the chips is settled in it: search and transfer
-- do not ask which chip it is. Assumes nothing.
use Rattle.std.specs.Prelude.{ℕ, Bool, true, false}
use Rattle.command.specs.declared.Command.{Command}
use Rattle.command.specs.declared.Command.TheVariants.{Restore, Seek, Step, StepIn, StepOut, ReadSector, WriteSector, ReadAddress, WriteTrack, ForceInterrupt}
use Rattle.command.specs.declared.Order.{Order}
use Rattle.command.specs.declared.Chip.{Chip}
use Rattle.command.specs.Bits.{side_asked, ibm_lengths}

-- The direction of the one step: Step-in goes in, Step-out goes out, Step as the last step did. The other commands make no
-- such step; a Seek's direction is found as it steps.
unfoldable pub inward_of : Command → Bool → Bool
inward_of Restore last = last
inward_of Seek last = last
inward_of Step last = last
inward_of StepIn last = true
inward_of StepOut last = false
inward_of ReadSector last = last
inward_of WriteSector last = last
inward_of ReadAddress last = last
inward_of WriteTrack last = last
inward_of ForceInterrupt last = last

-- The command under way is the command, its byte and the direction of its step; and what Type II asks of an ID, where the other
-- commands do not look: its side, and what its length codes mean.
unfoldable pub order_of : Chip → Command → ℕ → Bool → Order
order_of chip command byte last =
    record {
      command = command;
      byte = byte;
      inward = inward_of command last;
      side = side_asked chip byte;
      ibm = ibm_lengths chip byte;
    }

-- The number of a loaded command byte is the decoder's: 7 where it is no command, else 0. Assumes nothing.
use Rattle.std.proofs.Common.{◌≡◌, refl, ℕ}
use Rattle.std.specs.Prelude.{Option, Some, None}
use Rattle.command.specs.Commands.{decode_refusal}
use Rattle.command.specs.declared.Command.{Command}
use Rattle.refusals.specs.Numbers.{number_in, number_of}
use Rattle.registers.specs.declared.Lines.{Lines}
use Rattle.wd.specs.declared.Machine.{Machine}
use Rattle.wd.specs.Loads.{command_answer}

-- so what the decoder's laws say of the bytes that are refused, they say of the load
pub answer_number : (m : Machine) (l : Lines) (b : ℕ) (d : Option Command) → number_in (command_answer m l b d).outcome ≡ decode_refusal d
unfolding command_answer number_in number_of
answer_number m l b (Some command) = refl
answer_number m l b None = refl

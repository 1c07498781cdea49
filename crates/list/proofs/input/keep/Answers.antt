-- The bytes behind the picture are those that the copy moves.
use Rattle.std.proofs.Common.{arith}
use Rattle.list.specs.Input.{input_left}
use Rattle.list.proofs.Copied.{copied}
use Rattle.list.proofs.input.keep.Goals as goal

pub returns-clause-buffer_after : goal.returns-clause-buffer_after
unfolding input_left
returns-clause-buffer_after c =
    let copy = c.copy_within.ensures in
    rw c.in_ok-taken.was (copied _ _ _ _ (omega arith) copy.len copy.by_index.0 copy.by_index.2)

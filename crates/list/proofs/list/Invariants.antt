-- The bytes held fit the buffer, and the steps made so far lead to where the loop stands.
use Rattle.std.proofs.Common.{◌≤◌, length, IfSome}
use Rattle.list.specs.Runs.{first_run}
use Rattle.list.proofs.Running.{Going}
use Rattle.list.proofs.list.Given as goal

abbrev pub invariant-loop : goal.invariant-loop
invariant-loop l =
    IfSome l.run.held (λ held. held ≤ length l.buffers.input)
    × Going (record { run = first_run; buffers = l.initial.buffers }) l.counter (record { run = l.run; buffers = l.buffers })

-- The data mark to be found from here is the one to be found at the start.
use Rattle.std.proofs.Common.{◌≡◌, ◌-◌}
use Rattle.fields.specs.DataMarks.{sought_in, mark_behind}
use Rattle.fields.proofs.mark_behind.Given as goal

abbrev pub invariant-loop-passed : goal.invariant-loop-passed
invariant-loop-passed l =
    sought_in l.mfm l.row l.place (l.passed-end - l.passed) l.passed l.run ≡ mark_behind l.mfm l.row l.place

-- What is left to run from here is what was left at the start, and what may pass once may pass again, so refusals 2 and 3 are not
-- looked at here.
use Rattle.wd.proofs.Runs.{at, Along}
use Rattle.wd.proofs.run.run_on.Given as goal

abbrev pub invariant-loop-left : goal.invariant-loop-left
invariant-loop-left l = Along l.lines l.initial.left (at l.initial.ran l.initial.row) l.left l.ran l.row

abbrev pub decreases-loop-left : goal.decreases-loop-left
decreases-loop-left l = l.left

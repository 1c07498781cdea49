-- The search goes along the side's IDs.
use Rattle.std.proofs.Common.{◌-◌, length}
use Rattle.viewer.proofs.Search.{Along}
use Rattle.viewer.proofs.Wanted.span_on.Given as goal

abbrev pub invariant-loop-found : goal.invariant-loop-found
invariant-loop-found l = Along l.self.mfm l.side l.self.track l.self.sector l.from

abbrev pub decreases-loop-found : goal.decreases-loop-found
decreases-loop-found l = length l.side - l.from

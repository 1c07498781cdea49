-- The ID to be found from here is the one to be found at the start.
use Rattle.std.proofs.Common.{◌≡◌, ◌-◌}
use Rattle.fields.specs.Ids.{heard_in, next_id}
use Rattle.fields.proofs.next_id.Given as goal

abbrev pub invariant-loop-at : goal.invariant-loop-at
invariant-loop-at l = heard_in l.mfm l.row (l.to - l.at) l.at l.scan ≡ next_id l.mfm l.row l.from l.to

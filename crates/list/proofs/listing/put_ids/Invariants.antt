-- The lines that are left come to what all lines come to.
use Rattle.list.proofs.Rounds.{Left}
use Rattle.list.proofs.listing.put_ids.Given as goal

abbrev pub invariant-loop-ids : goal.invariant-loop-ids
invariant-loop-ids l = Left l.mfm l.row l.initial.page l.page l.from l.ids

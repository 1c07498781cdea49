-- Each round of the loop puts the line of the next ID: what is left then comes to what all lines come to.
use Rattle.std.proofs.Common.{sym, ◌∙◌}
use Rattle.list.specs.Listing.{id_line}
use Rattle.list.proofs.Rounds.{left_start, left_step}
use Rattle.list.proofs.listing.put_ids.Goals as goal

pub loop-ids-init : goal.loop-ids-init
loop-ids-init c = left_start _ _ _ _ c.round_start-from.ensures

pub loop-ids-preserved : goal.loop-ids-preserved
unfolding id_line
loop-ids-preserved c =
    let found = sym c.next_id.ensures ∙ c.in-Some.is in
    let line = rw c.mark_behind-mark.ensures at c.put_id.ensures.put in
    left_step _ _ _ _ _ _ c.loop-ids.invariant _ _ c.loop-ids-test.true found line

-- The search ends at the first ID that is followed by such a sector, or with the last.
use Rattle.std.proofs.Common.{sym, ◌∙◌}
use Rattle.viewer.specs.Sectors.{span_in}
use Rattle.viewer.proofs.Search.{over, ends, less}
use Rattle.viewer.proofs.Wanted.span_on.Goals as goal

pub returns-in-Some-clause-value : goal.returns-in-Some-clause-value
unfolding span_in
returns-in-Some-clause-value c =
    ends _ _ _ _ _ c.loop-found.invariant _ (sym c.next_id.ensures ∙ c.in-Some.is) _
    (simp (sym c.is_met_by.ensures ∙ c.if-is_met_by.true) (sym c.span_behind.ensures.value ∙ c.in-Some-span_behind.is))

pub loop-found-smaller : goal.loop-found-smaller
loop-found-smaller c = less _ _ _ _ _ c.loop-found.invariant _ (sym c.next_id.ensures ∙ c.in-Some.is)

pub returns-clause-value : goal.returns-clause-value
returns-clause-value c = over _ _ _ _ _ c.loop-found.invariant (sym c.next_id.ensures ∙ c.in_default.is)

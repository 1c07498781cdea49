-- Before the first step none is made; each turn of the loop makes one more.
use Rattle.std.proofs.Common.{refl, rules}
use Rattle.list.proofs.Running.{not_yet, one_more}
use Rattle.list.proofs.list.Goals as goal

pub loop-init : goal.loop-init
loop-init c = (search rules, not_yet _ refl)

pub loop-preserved : goal.loop-preserved
loop-preserved c =
    let step = c.step-run.ensures in
    (step.held_bound, one_more _ _ _ c.loop.invariant.1 _ _ c.in-Some.is step.stepped step.written_bound)

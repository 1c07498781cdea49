-- A step is what its calls say.
use Rattle.list.proofs.Stepping.{ended, listed}
use Rattle.list.proofs.step.Goals as goal

pub returns-then-held-run-clause-stepped : goal.returns-then-held-run-clause-stepped
returns-then-held-run-clause-stepped c = ended _ _ _ _ _ c.fill-held.ensures _ c.clear.ensures c.if-held-run.true

pub returns-clause-stepped : goal.returns-clause-stepped
returns-clause-stepped c =
    let print = c.put_picture-taken.ensures in
    let keep = c.keep.ensures in
    listed _ _ _ _ _ c.fill-held.ensures _ _ _ _ c.if-held-run.false print.value print.put print.room_after
    c.flush-count.ensures.value keep.value keep.buffer_after

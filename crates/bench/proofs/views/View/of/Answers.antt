-- The viewer's part has no more cells than a row.
use Rattle.std.proofs.Common.{arith}
use Rattle.bench.proofs.Laws.{view_fits}
use Rattle.bench.proofs.views.View.of.Goals as goal

pub overflow_cast-result : goal.overflow_cast-result
overflow_cast-result c =
    record { fits = omega (arith, view_fits _ _ _ _ c.view-part.ensures.cells c.current-side0.ensures c.other-side1.ensures) }

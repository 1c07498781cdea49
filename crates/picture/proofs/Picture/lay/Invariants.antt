-- Before cell i, i cells are laid.
use Rattle.std.proofs.Common.{◌≡◌}
use Rattle.common.specs.Laid.{laid_row}
use Rattle.picture.specs.Layout.{picture_cell}
use Rattle.picture.proofs.Picture.lay.Given as goal

abbrev pub invariant-loop-i : goal.invariant-loop-i
invariant-loop-i l = l.room ≡ laid_row l.fn.room (λ k. k) (picture_cell l.self.kind l.self.bytes.now) l.i

-- The head of a valid machine stands on the row.
use Rattle.std.proofs.Common.{length}
use Rattle.wd.proofs.Valid.{row_inside}
use Rattle.wd.proofs.Machine.pass.Goals as goal

pub bounds-row-position : goal.bounds-row-position
bounds-row-position c = row_inside c.args.self (length c.args.row.now) c.requires

pub bounds-row-position-2 : goal.bounds-row-position-2
bounds-row-position-2 c = row_inside c.args.self (length c.args.row.now) c.requires

-- What a byte time leaves: the cell as it is, or as it is written; and what a written cell takes. Assumes nothing.
use Rattle.std.specs.Prelude.{cond, ℕ}
use Rattle.activity.specs.declared.Seen.{Seen}
use Rattle.activity.specs.declared.Act.{Act}
use Rattle.activity.specs.declared.Activity.{Activity}
use Rattle.activity.specs.declared.Deed.{Deed}

-- the cell stays as it is
abbrev pub pass : Seen → Activity → Deed → Act
pass s next deed = record { next = next; deed = deed; cell = s.cell }

-- a cell is written
abbrev pub write : ℕ → Activity → Deed → Act
write cell next deed = record { next = next; deed = deed; cell = cell }

-- "takes DR, or 00 .. if DRQ is on": a cell of Write Sector's data, and a cell of Write Track
unfoldable pub taken_of : Seen → ℕ
taken_of s = cond s.drq 0x00 s.dr

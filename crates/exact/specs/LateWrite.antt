-- A Write Sector that nobody serves: document 01, "DRQ at 2. Still on at 10: Lost Data, end, nothing written." Its premises and
-- its conclusion. Assumes nothing.
use Rattle.std.specs.Prelude.{◌≡◌, true, [], ℕ, ◌+◌, ◌<◌, Some}
use Rattle.command.specs.Commands.{decoded_of}
use Rattle.command.specs.declared.Command.TheVariants.{WriteSector}
use Rattle.activity.specs.declared.Deed.TheVariants.{Ask}
use Rattle.wd.specs.Loads.{load_register}
use Rattle.hosts.specs.Hosts.{served_at, at, AloneUntil, EndsAt}
use Rattle.hosts.specs.Scenes.{Scene, loaded}
use Rattle.hosts.specs.Bytes.{deed_at, taken}
use Rattle.refusals.specs.Numbers.{done}

-- ---- premises

-- a Write Sector, with m or without, that is accepted and ends by itself in byte time n; of lines and track nothing is asked
pub record WritePremises (s : Scene) (n : ℕ) : Type 0 where
  pub writes : decoded_of s.machine.chip s.byte ≡ Some WriteSector
  pub accepted : (load_register s.machine s.lines 0 s.byte).outcome ≡ done
  pub alone : AloneUntil s.host (loaded s) n
  pub ends : EndsAt s.host (loaded s) n

-- ---- conclusion

-- "DRQ at 2. Still on at 10": byte time k is the first that asks for a byte, and eight byte times later DRQ is still on, as the
-- host has left it
pub record StillOn (s : Scene) (n k : ℕ) : Type 0 where
  pub inside : k < n
  pub asks : deed_at s.host (loaded s) k ≡ Ask true
  pub first : (j : ℕ) → j < k → deed_at s.host (loaded s) j ≡ Ask true → ⊥
  pub still : (served_at s.host (k + 8) (at s.host (loaded s) (k + 8))).machine.wires.drq ≡ true

-- "Lost Data, end, nothing written": in that byte time, counted from 1 after the load; no byte has been taken, and the row is
-- cell for cell as it was lent
pub record LateEnd (s : Scene) (n k : ℕ) : Type 0 where
  pub tenth : n ≡ k + 9
  pub lost : (at s.host (loaded s) n).machine.flags.lost ≡ true
  pub none : taken s.host (loaded s) n ≡ []
  pub row : (at s.host (loaded s) n).row ≡ s.row

pub record LateWrite (s : Scene) (n : ℕ) : Type 0 where
  pub late : (k : ℕ) → StillOn s n k → LateEnd s n k
  -- one that has taken no byte has Lost Data for this cause alone
  pub only :
      taken s.host (loaded s) n ≡ []
      → (at s.host (loaded s) n).machine.flags.lost ≡ true
      → (k : ℕ) × StillOn s n k
  -- and whatever ended it, it has written nothing
  pub untouched : taken s.host (loaded s) n ≡ [] → (at s.host (loaded s) n).row ≡ s.row

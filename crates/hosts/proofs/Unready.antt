-- A Read Sector that is accepted with the drive not ready has ended at once. Assumes nothing.
use mathlib.Core.Path.{◌≡◌, refl, sym, ap, ◌∙◌}
use mathlib.Core.Bool.{true, false, true≢false}
use Prim.Native.Nat.{ℕ, zero, suc, ◌<◌}
use native.Mathlib.Omega.{arith}
use Rattle.command.specs.Commands.{class_of, decoded_of}
use Rattle.command.specs.declared.Command.TheVariants.{ReadSector}
use Rattle.std.specs.Prelude.{Some}
use Rattle.activity.specs.Limits.{busy_in}
use Rattle.accepting.specs.Accepting.{held_by, writes, begin_activity, works_from}
use Rattle.wd.specs.declared.Machine.{Machine}
use Rattle.wd.specs.Loads.{command_begun, load_register}
use Rattle.hosts.specs.Hosts.{at, EndsAt}
use Rattle.hosts.specs.Scenes.{Scene, loaded}
use Rattle.hosts.proofs.Accepted.{accepted_machine}
use Rattle.refusals.specs.Numbers.{done}

module _ (s : Scene) (reads : decoded_of s.machine.chip s.byte ≡ Some ReadSector)
    (accepted : (load_register s.machine s.lines 0 s.byte).outcome ≡ done) (unready : s.lines.ready ≡ false) where
  idle : busy_in (loaded s).machine.activity ≡ false
  unfolding command_begun class_of held_by writes begin_activity works_from busy_in
  idle =
      ap (λ (m : Machine). busy_in m.activity) (accepted_machine s.machine s.lines s.byte accepted ReadSector reads)
      ∙ simp unready

  pub unready_over : (n : ℕ) → EndsAt s.host (loaded s) n → n ≡ 0
  unfolding at
  unready_over n ends = by n ends.busy
    where
      by : (k : ℕ) → ((j : ℕ) → j < k → busy_in (at s.host (loaded s) j).machine.activity ≡ true) → k ≡ 0
      by zero busy = refl
      by (suc k) busy = absurd (true≢false (sym (busy 0 (omega arith)) ∙ idle))

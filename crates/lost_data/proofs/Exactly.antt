-- Lost Data is on exactly when something has turned it on: the command's acceptance has turned it off, and nothing else does.
-- Assumes nothing.
use mathlib.Core.Path.{◌≡◌, sym, ◌∙◌}
use mathlib.Core.Bool.{Bool, true, true≢false}
use mathlib.Core.Logic.{◌⊎◌, inl, inr, ◌↔◌}
use Prim.Native.Nat.{ℕ, zero, suc, ◌+◌, ◌-◌, ◌≤◌, ◌<◌}
use native.Mathlib.Omega.{arith}
use Rattle.command.specs.Commands.{class_of}
use Rattle.command.specs.declared.Command.{Command}
use Rattle.command.specs.declared.Class.TheVariants.{Works}
use Rattle.registers.specs.declared.Lines.{Lines}
use Rattle.hosts.specs.Hosts.{at}
use Rattle.hosts.specs.Scenes.{Scene, loaded}
use Rattle.hosts.proofs.ByteTimes.{lost_later}
use Rattle.lost_data.specs.LostData.{lost_data, AcceptedAlone}
use Rattle.lost_data.proofs.Begun.{first_lost, lost_bit}

-- as k byte times of a scene have passed
abbrev pub lost_at : Scene → ℕ → Bool
lost_at s k = (at s.host (loaded s) k).machine.flags.lost

-- what turns it on, and nothing else does
module _ {s : Scene} {command : Command} {n : ℕ} (works : class_of command ≡ Works) (g : AcceptedAlone s command n)
    (Cause : ℕ → Type 0)
    (only : (k : ℕ) → k < n → lost_at s (suc k) ≡ true → (lost_at s k ≡ true) ⊎ Cause k)
    (brings : (k : ℕ) → k < n → Cause k → lost_at s (suc k) ≡ true) where
  caused : (k : ℕ) → k ≤ n → lost_at s k ≡ true → (i : ℕ) × (i < k) × Cause i
  unfolding at
  caused zero l on = absurd (true≢false (sym on ∙ first_lost works g))
  caused (suc k) l on = by (caused k (omega arith)) (only k l on)
    where
      by :
          (lost_at s k ≡ true → (i : ℕ) × (i < k) × Cause i)
          → (lost_at s k ≡ true) ⊎ Cause k
          → (i : ℕ) × (i < suc k) × Cause i
      by before (inl was) = let (i, m, cause) = before was in (i, omega arith, cause)
      by before (inr cause) = (k, omega arith, cause)

  stays : (k : ℕ) → k < n → Cause k → lost_at s n ≡ true
  stays k l cause =
      let e : suc k + (n - suc k) ≡ n = omega arith in
      rw e at
      (lost_later s.host (loaded s) (n - suc k) (suc k) (λ i least most. g.alone i (omega arith)) (brings k l cause))

  pub lost_exactly : (l : Lines) → (lost_data (at s.host (loaded s) n).machine l ≡ true) ↔ ((k : ℕ) × (k < n) × Cause k)
  lost_exactly l = (
    λ on. caused n (omega arith) (sym (lost_bit works g l) ∙ on),
    λ x. let (k, m, cause) = x in lost_bit works g l ∙ stays k m cause,
  )

-- How far a stretch can come, and over which cells. Assumes nothing.
use mathlib.Core.Bool.{◌&&◌}
use Prim.Native.Nat.{ℕ, ◌-◌, ◌≤◌}
use native.Mathlib.Omega.{arith}
use lib.Dec.{ltb}
use borrow.Author.Tests.{ltb-true, ltb-false}
use Rattle.common.proofs.Cases.{by_cond}
use Rattle.scan.specs.declared.Scan.{Scan}
use Rattle.scan.specs.declared.Scan.TheVariants.{Gap}
use Rattle.activity.specs.declared.Activity.{Activity}
use Rattle.activity.specs.declared.Activity.TheVariants.{Idle, Seek, Pulse, Stop, Settle, Search, Window, Data, Hunt, Address, Await, Preamble, Put, Format, FormatCrc}
use Rattle.stretch.specs.declared.Reach.{Reach}
use Rattle.stretch.specs.Stretches.{least_of, wait_reach, empty_gap, search_reach, reach_of}

pub least_both : (a b : ℕ) → (least_of a b ≤ a) × (least_of a b ≤ b)
unfolding least_of
least_both a b =
    by_cond (λ (n : ℕ). (n ≤ a) × (n ≤ b)) (ltb a b)
    (λ e. let h = ltb-true a b e in (omega arith, omega arith))
    (λ e. let h = ltb-false a b e in (omega arith, omega arith))

-- a stretch is no longer than its limit, and over no cell that is refused
pub record Modest (limit : ℕ) (r : Reach) : Type 0 where
  pub most : r.most ≤ limit
  pub below : r.below ≤ 512

nowhere_modest : (limit : ℕ) → Modest limit (record { most = 0; below = 0 })
nowhere_modest limit = record { most = omega arith; below = omega arith }

wait_modest : (limit left : ℕ) → Modest limit (wait_reach limit left)
unfolding wait_reach
wait_modest limit left = record { most = (least_both left limit).1; below = omega arith }

search_modest : (limit pulses : ℕ) (scan : Scan) → Modest limit (search_reach limit pulses scan)
unfolding search_reach
search_modest limit pulses scan =
    by_cond (Modest limit) (ltb pulses 5 && empty_gap scan)
    (λ e. record { most = omega arith; below = omega arith })
    (λ e. nowhere_modest limit)

pub reach_modest : (limit : ℕ) (a : Activity) → Modest limit (reach_of limit a)
unfolding reach_of
reach_modest limit Idle = record { most = omega arith; below = omega arith }
reach_modest limit (Seek left) = wait_modest limit (left - 1)
reach_modest limit (Stop left) = wait_modest limit (left - 1)
reach_modest limit (Settle left) = wait_modest limit left
reach_modest limit Await = record { most = omega arith; below = omega arith }
reach_modest limit (Search pulses scan) = search_modest limit pulses scan
reach_modest limit (Hunt pulses run) = search_modest limit pulses (Gap run)
reach_modest limit Pulse = nowhere_modest limit
reach_modest limit (Window left passed run) = nowhere_modest limit
reach_modest limit (Data left crc deleted) = nowhere_modest limit
reach_modest limit (Address passed crc track) = nowhere_modest limit
reach_modest limit (Preamble left passed) = nowhere_modest limit
reach_modest limit (Put left crc) = nowhere_modest limit
reach_modest limit (Format crc) = nowhere_modest limit
reach_modest limit (FormatCrc crc) = nowhere_modest limit

pub reach_most : (limit : ℕ) (a : Activity) → (reach_of limit a).most ≤ limit
reach_most limit a = (reach_modest limit a).most

-- What each of a table's four entries passes, the one that two low bits choose passes. Assumes nothing.
use mathlib.Core.Path.{◌≡◌, refl, sym}
use mathlib.Core.Bool.{Bool, true, false}
use mathlib.Core.List.{List, []}
use Prim.Native.Nat.{ℕ, zero-le, ◌%◌, ◌≤◌, ◌<◌}
use native.Mathlib.Omega.{arith}
use lib.Dec.{leb}
use lib.ListN.{get_or}
use borrow.Author.Tests.{leb-true}
use Rattle.common.proofs.Arms.{count, Gives, range}
use Rattle.command.specs.Sizes.{largest_size, sizes, size_of, other_sizes, field_size}
use Rattle.command.specs.Times.{settling_mfm, density_of, step_times, step_time_of}

pub of_four : (test : ℕ → Bool) (table : List ℕ) → Gives (λ k. test (get_or table k 0)) true (count 0 4) → (n : ℕ)
    → test (get_or table (n % 4) 0) ≡ true
of_four test table each n = sym (range (λ k. test (get_or table k 0)) 0 4 each zero-le (omega arith))

pub step_time_some : (mfm : Bool) (byte : ℕ) → 0 < step_time_of mfm byte
unfolding step_time_of
step_time_some true byte = leb-true 1 _ (of_four (leb 1) (get_or step_times (density_of true) []) refl byte)
step_time_some false byte = leb-true 1 _ (of_four (leb 1) (get_or step_times (density_of false) []) refl byte)

pub step_time_most : (mfm : Bool) (byte : ℕ) → step_time_of mfm byte ≤ settling_mfm
unfolding step_time_of
step_time_most true byte = leb-true _ settling_mfm (of_four (λ n. leb n settling_mfm) (get_or step_times (density_of true) []) refl byte)
step_time_most false byte = leb-true _ settling_mfm (of_four (λ n. leb n settling_mfm) (get_or step_times (density_of false) []) refl byte)

pub size_most : (length : ℕ) → size_of length ≤ largest_size
unfolding size_of
size_most length = leb-true (size_of length) largest_size (of_four (λ n. leb n largest_size) sizes refl length)

-- what each of the four sizes passes, every field's size passes, whatever its codes mean
pub of_sizes : (test : ℕ → Bool) → Gives (λ k. test (get_or sizes k 0)) true (count 0 4) → (ibm : Bool) (length : ℕ)
    → test (field_size ibm length) ≡ true
unfolding field_size size_of
of_sizes test each true length = of_four test sizes each length
of_sizes test each false length =
    let others : Gives (λ k. test (get_or other_sizes k 0)) true (count 0 4) = cc in
    of_four test other_sizes others length

pub field_size_some : (ibm : Bool) (length : ℕ) → 0 < field_size ibm length
field_size_some ibm length = leb-true 1 (field_size ibm length) (of_sizes (leb 1) refl ibm length)

pub field_size_most : (ibm : Bool) (length : ℕ) → field_size ibm length ≤ largest_size
field_size_most ibm length = leb-true (field_size ibm length) largest_size (of_sizes (λ n. leb n largest_size) refl ibm length)

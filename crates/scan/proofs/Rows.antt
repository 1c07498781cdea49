-- What a row's length is within. Assumes nothing.
use mathlib.Core.Path.{◌≡◌}
use mathlib.Core.Bool.{true, false}
use Prim.Native.Nat.{ℕ, ◌≤◌}
use lib.Dec.{leb}
use borrow.Author.Tests.{leb-true, le-leb}
use Rattle.common.proofs.Cases.{never, both, all}
use Rattle.scan.specs.Rows.{shortest_row, longest_row, length_within}

module _ (size : ℕ) where
  pub within_least : length_within size ≡ true → shortest_row ≤ size
  unfolding length_within
  within_least e = leb-true shortest_row size (both (leb shortest_row size) (leb size longest_row) e).0

  pub within_most : length_within size ≡ true → size ≤ longest_row
  unfolding length_within
  within_most e = leb-true size longest_row (both (leb shortest_row size) (leb size longest_row) e).1

  pub row_within : shortest_row ≤ size → size ≤ longest_row → length_within size ≡ true
  unfolding length_within
  row_within least most = all (le-leb shortest_row size least) (le-leb size longest_row most)

  pub row_without : length_within size ≡ false → shortest_row ≤ size → size ≤ longest_row → ⊥
  row_without e least most = let h = row_within least most in never (cc)

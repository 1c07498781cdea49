-- The first cell that is not below a bound: where the definition comes to it, place by place, the library's `position` finds it.
-- Assumes nothing.
use Rattle.std.proofs.Common.{◌≡◌, refl, ℕ, zero, suc, ◌+◌, ◌≤◌, ◌<◌, Bool, true, false, cond, not, List, length, take, drop, get_or, nat_le, arith, drop-cons}
use Rattle.std.specs.Prelude.{position, unwrap_or}
use Rattle.std.specs.List.{position_or_len}
use Rattle.std.proofs.lemmas.List.Sums.{prefix_len-le-length}
use Rattle.std.proofs.lemmas.List.{length-take, length-drop}
use lib.Dec.{ltb, leb}
use borrow.Author.Tests.{ltb-true, ltb-false, lt-leb, le-leb}
use Rattle.common.proofs.Cases.{by_cond}
use Rattle.stretch.specs.Stretches.{clear_from}

module _ (below : ℕ) where
  abbrev over : ℕ → Bool
  over cell = nat_le below cell

  steps : (row : List ℕ) (n from : ℕ) → from + n ≤ length row
      → clear_from row below n from ≡ from + position_or_len over (take n (drop from row))
  unfolding clear_from
  steps row zero from h = omega arith
  steps row (suc n) from h =
      let inside : from < length row = omega arith in
      rw (drop-cons row from 0 inside)
      (by_cond (λ (x : ℕ). x ≡ from + cond (not (leb below (get_or row from 0))) (1 + position_or_len over (take n (drop (suc from) row))) 0)
      (ltb (get_or row from 0) below)
      (λ e. let f : leb below (get_or row from 0) ≡ false = lt-leb _ _ (ltb-true _ _ e) in rw f (omega (arith, steps row n (suc from) (omega arith))))
      (λ e. let f : leb below (get_or row from 0) ≡ true = le-leb _ _ (ltb-false _ _ e) in rw f (omega arith)))

  -- all cells are below the bound where none is found
  found_or_all : (cells : List ℕ) (n : ℕ) → length cells ≡ n → unwrap_or (position over cells) n ≡ position_or_len over cells
  found_or_all cells n whole =
      by_cond (λ (o : _). unwrap_or o n ≡ position_or_len over cells) (ltb (position_or_len over cells) (length cells))
      (λ e. refl)
      (λ e. let h = ltb-false (position_or_len over cells) (length cells) e in omega (arith, prefix_len-le-length (λ c. not (over c)) cells))

pub first_clear : (row : List ℕ) (below n from : ℕ) → from + n ≤ length row
    → clear_from row below n from ≡ from + unwrap_or (position (λ cell. nat_le below cell) (take n (drop from row))) n
first_clear row below n from h =
    let whole : length (take n (drop from row)) ≡ n = simp (length-take, length-drop) (omega arith) in
    omega (arith, steps below row n from h, found_or_all below (take n (drop from row)) n whole)

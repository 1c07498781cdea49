-- Where a stretch can come at all: on a row of the ring's length, neither at its first cell nor past its last. Assumes nothing.
use mathlib.Core.Path.{◌≡◌}
use mathlib.Core.Bool.{false, not, ◌||◌}
use Prim.Native.Nat.{ℕ, ◌<◌}
use native.Mathlib.Omega.{arith}
use lib.Dec.{leb, eqb}
use borrow.Author.Tests.{eqb-true, eqb-false, leb-false, not-false}
use Rattle.common.proofs.Cases.{neither}

pub record Open (position size cells : ℕ) : Type 0 where
  pub some : 0 < position
  pub inside : position < size
  pub whole : cells ≡ size

pub opens : (position size cells : ℕ)
    → (eqb position 0 || leb size position || not (eqb cells size)) ≡ false
    → Open position size cells
opens position size cells e =
    let h = neither (eqb position 0 || leb size position) (not (eqb cells size)) e in
    let g = neither (eqb position 0) (leb size position) h.0 in
    let apart : (position ≡ 0) → ⊥ = eqb-false position 0 g.0 in
    record {
      some = omega arith;
      inside = leb-false size position g.1;
      whole = eqb-true cells size (not-false _ h.1);
    }

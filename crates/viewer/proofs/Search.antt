-- The search on one side, ID by ID, as the loop of the code has it. Assumes nothing.
use mathlib.Core.Path.{◌≡◌, refl, sym, ◌∙◌}
use mathlib.Core.Bool.{Bool}
use mathlib.Core.List.{List}
use Prim.Native.Nat.{ℕ, zero, suc, ◌+◌, ◌-◌, ◌≤◌, ◌<◌}
use native.Mathlib.Numerals.{sub-one}
use native.Mathlib.Omega.{arith}
use lib.ListN.{length}
use Rattle.std.specs.Prelude.{Option, None, Some}
use Rattle.std.specs.Option.{option_or}
use Rattle.scan.proofs.Rows.{within_most}
use Rattle.fields.specs.declared.Found.{Found}
use Rattle.fields.specs.Ids.{next_id}
use Rattle.fields.proofs.Ids.{next_id_lem, no_id}
use Rattle.viewer.specs.declared.Span.{Span}
use Rattle.viewer.specs.Sectors.{span_in, behind_in, span_among, span_on}

module _ (mfm : Bool) (row : List ℕ) where
  abbrev next : ℕ → Option Found
  next from = next_id mfm row from (length row)

  -- the search goes on further on
  onward : (from : ℕ) (found : Found) → next from ≡ Some found → (from < found.behind) × (found.behind ≤ length row)
  onward from found e =
      let (a, p, f) = (next_id_lem mfm row from (length row) found.id found.behind).0 e in
      (omega (arith, p, f.within.low), omega (arith, p, f.within.high))

  -- after the last cell there is no ID
  none_past : (from : ℕ) → length row ≤ from → next from ≡ None
  none_past from h = (no_id mfm row from (length row)).1 (λ a w. absurd (omega (arith, w.low, w.high)))

module _ (mfm : Bool) (row : List ℕ) (track sector : ℕ) where
  pub nothing_past : (n from : ℕ) → length row ≤ from → span_among mfm row track sector n from ≡ None
  unfolding span_among span_in behind_in
  nothing_past zero from h = refl
  nothing_past (suc n) from h = rw (none_past mfm row from h) (nothing_past n (length row) (omega arith))

  -- the loop's invariant: what is left to find from here is what was left at the start, and there are no more IDs than are
  -- left to count
  pub record Along (from : ℕ) : Type 0 where
    pub left : ℕ
    pub enough : length row ≤ left + from
    pub rest : span_among mfm row track sector left from ≡ span_on mfm row track sector

  pub starts : Along 0
  unfolding span_on
  starts = record { left = length row; enough = omega arith; rest = refl }

  module _ (from : ℕ) (v : Along from) where
    -- no ID is left
    pub over : next mfm row from ≡ None → None ≡ span_on mfm row track sector
    unfolding span_among span_in behind_in
    over e = sym (among v.left) ∙ v.rest
      where
        among : (n : ℕ) → span_among mfm row track sector n from ≡ None
        among zero = refl
        among (suc n) = rw e (nothing_past n (length row) (omega arith))

    module _ (found : Found) (is : next mfm row from ≡ Some found) where
      turned :
          span_on mfm row track sector
          ≡ option_or (span_in mfm row track sector (Some found)) (span_among mfm row track sector (v.left - 1) found.behind)
      unfolding span_among behind_in
      turned = sym v.rest ∙ by v.left v.enough
        where
          by : (n : ℕ) → length row ≤ n + from
              → span_among mfm row track sector n from
              ≡ option_or (span_in mfm row track sector (Some found)) (span_among mfm row track sector (n - 1) found.behind)
          by zero enough = let on = onward mfm row from found is in absurd (omega arith)
          by (suc n) enough = rw (is, sub-one (suc n)) refl

      -- the ID has such a sector after it
      pub ends : (span : Span) → span_in mfm row track sector (Some found) ≡ Some span
          → Some span ≡ span_on mfm row track sector
      ends span e = sym (rw e at turned)

      -- the search goes on after an ID that has none
      pub again : span_in mfm row track sector (Some found) ≡ None → Along found.behind
      again e =
          record {
            left = v.left - 1;
            enough = let on = onward mfm row from found is in omega (arith, v.enough, on.0);
            rest = sym (rw e at turned);
          }

      pub less : length row - found.behind < length row - from
      less = let on = onward mfm row from found is in omega (arith, on.0, on.1)

pub ruleset searching = (starts, again, within_most)

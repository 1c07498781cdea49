-- Going round a ring, line by line: what is left to put comes to what all lines come to. Assumes nothing.
use mathlib.Core.Path.{◌≡◌, refl, sym, ap, ◌∙◌}
use mathlib.Core.Bool.{Bool}
use mathlib.Core.List.{List, [], ◌∷◌, ◌++◌}
use Prim.Native.Nat.{ℕ, zero, suc, ◌+◌, ◌-◌, ◌*◌, ◌≤◌, ◌<◌}
use native.Mathlib.Nat.{add-zero, sub-zero, zero-add}
use native.Mathlib.Omega.{arith}
use lib.ListN.{length, length-append}
use Rattle.std.proofs.Common.{append_assoc, append-nil}
use Rattle.std.specs.Prelude.{None, Some}
use Rattle.scan.specs.Marks.{lead_of}
use Rattle.scan.proofs.Marks.{lead_most}
use Rattle.fields.specs.declared.Found.{Found}
use Rattle.fields.specs.DataMarks.{mark_behind}
use Rattle.fields.proofs.Ids.{next_id_lem}
use Rattle.list.proofs.Lengths.{id_most}
use Rattle.list.specs.Listing.{id_line, id_lines_by, next_from, id_lines_from, id_lines, joined}

module _ (mfm : Bool) (row : List ℕ) where
  -- a line more is at most 28 bytes more
  line_fits : (page after : List ℕ) (f : Found) → after ≡ page ++ id_line mfm row f.id f.behind → length after ≤ length page + 28
  unfolding id_line
  line_fits page after f line =
      let most = id_most (f.behind - 7 - length row) f.id (mark_behind mfm row f.behind) in
      rw line (rw (length-append page (id_line mfm row f.id f.behind)) (omega (arith, most)))

  -- an ID has seven cells after its lead, and ends within the round
  found_place : (from : ℕ) (f : Found) → next_from mfm row from ≡ Some f
      → (from + lead_of mfm + 7 ≤ f.behind) × (f.behind ≤ length row + length row + 6)
  found_place from f e =
      let (a, ends, first) = (next_id_lem mfm row from (length row + length row + 6) f.id f.behind).0 e in
      (omega (arith, ends, first.within.low), omega (arith, ends, first.within.high))

  abbrev rest : ℕ → ℕ → List (List ℕ)
  rest ids from = id_lines_from mfm row (length row - ids) from

  rest_more : (ids from : ℕ) (f : Found) → ids < length row → next_from mfm row from ≡ Some f
      → rest ids from ≡ id_line mfm row f.id f.behind ∷ rest (ids + 1) f.behind
  unfolding id_lines_from id_lines_by
  rest_more ids from f few found =
      let more : length row - ids ≡ suc (length row - (ids + 1)) = omega arith in
      rw more (rw found refl)

  rest_none : (ids from : ℕ) → next_from mfm row from ≡ None → rest ids from ≡ []
  unfolding id_lines_from id_lines_by
  rest_none ids from none = by (length row - ids)
    where
      by : (n : ℕ) → id_lines_from mfm row n from ≡ []
      by zero = refl
      by (suc n) = rw none refl

  rest_all : (ids from : ℕ) → length row ≤ ids → rest ids from ≡ []
  unfolding id_lines_from
  rest_all ids from all = let none : length row - ids ≡ 0 = omega arith in rw none refl

  -- how far the lines have come: so many are put on a page, and the next ID is looked for from a place on
  pub record Left (first page : List ℕ) (from ids : ℕ) : Type 0 where
    pub low : length row - lead_of mfm ≤ from
    pub high : from ≤ length row + length row + 6
    pub room : length page + (length row - lead_of mfm) * 4 ≤ length first + from * 4
    pub text : page ++ joined (rest ids from) ≡ first ++ joined (id_lines mfm row)
    pub count : ids + length (rest ids from) ≡ length (id_lines mfm row)

  -- all lines are put
  pub record Listed (first page : List ℕ) (ids : ℕ) : Type 0 where
    pub lines : page ≡ first ++ joined (id_lines mfm row)
    pub count : ids ≡ length (id_lines mfm row)
    pub room : length page ≤ length first + (length row + 9) * 4

  pub left_start : (first : List ℕ) (from : ℕ) → from ≡ length row - lead_of mfm → Left first first from 0
  unfolding id_lines
  left_start first from begin =
      let all : rest 0 (length row - lead_of mfm) ≡ id_lines mfm row =
      ap (λ (n : ℕ). id_lines_from mfm row n (length row - lead_of mfm)) (sub-zero (length row)) in
      rw begin
      record {
        low = omega arith;
        high = omega arith;
        room = omega arith;
        text = ap (λ (lines : List (List ℕ)). first ++ joined lines) all;
        count = zero-add (length (rest 0 (length row - lead_of mfm))) ∙ ap (λ (lines : List (List ℕ)). length lines) all;
      }

  module _ (first page : List ℕ) (from ids : ℕ) (left : Left first page from ids) where
    -- the next ID's FE stands in the round, and there is room for its line
    pub left_found : (f : Found) → next_from mfm row from ≡ Some f
        → (length row + 7 ≤ f.behind)
        × (f.behind ≤ length row + length row + 6)
        × (length page + 28 ≤ length first + (length row + 9) * 4)
    left_found f found =
        let there = found_place from f found in (
          omega (arith, left.low, there.0),
          there.1,
          omega (arith, left.room, there.0, there.1, lead_most mfm),
        )

    pub left_step :
        (f : Found) (after : List ℕ)
        → ids < length row
        → next_from mfm row from ≡ Some f
        → after ≡ page ++ id_line mfm row f.id f.behind
        → Left first after f.behind (ids + 1)
    unfolding joined
    left_step f after more found line =
        let line_first = rest_more ids from f more found in
        let there = found_place from f found in
        let short : length after ≤ length page + 28 = line_fits page after f line in
        record {
          low = omega (arith, left.low, there.0);
          high = there.1;
          room = omega (arith, left.room, short, there.0);
          text =
              rw line
              (append_assoc page (id_line mfm row f.id f.behind) (joined (rest (ids + 1) f.behind)) ∙ rw line_first at left.text);
          count = omega (arith, rw line_first at left.count);
        }

    left_done : rest ids from ≡ [] → Listed first page ids
    unfolding joined
    left_done none =
        record {
          lines = sym (append-nil page) ∙ rw none at left.text;
          count = sym (add-zero ids) ∙ rw none at left.count;
          room = omega (arith, left.room, left.high, lead_most mfm);
        }

    pub left_none : next_from mfm row from ≡ None → Listed first page ids
    left_none none = left_done (rest_none ids from none)

    pub left_all : length row ≤ ids → Listed first page ids
    left_all all = left_done (rest_all ids from all)

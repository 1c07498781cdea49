-- What the viewer hands back: document 01, "Pictures and the viewer". Assumes nothing.
use Rattle.std.specs.Prelude.{Bool, cond, ◌&&◌, List, [], ℕ, ◌+◌, ◌-◌, ◌*◌, leb, length, take, drop, Option, None, Some, Result, Ok, Err}
use Rattle.std.specs.List.{list_all}
use Rattle.std.specs.Result.{result_and}
use Rattle.refusals.specs.declared.Refusal.{Refusal}
use Rattle.refusals.specs.declared.Refusal.TheVariants.{Length, Cell, Sector}
use Rattle.refusals.specs.Numbers.{Outcome, done, refused}
use Rattle.refusals.specs.Numbers as numbers
use Rattle.scan.specs.Rows.{length_within}
use Rattle.viewer.specs.declared.Span.{Span}
use Rattle.viewer.specs.declared.Place.{Place}
use Rattle.viewer.specs.declared.Place.TheVariants.{Zero, One}
use Rattle.viewer.specs.Sectors.{SpanWithin, span_on}

-- no cell "is above 511"
unfoldable pub cells_within : List ℕ → Bool
cells_within row = list_all (λ cell. leb cell 511) row

-- "Lowest first": 1, "a length outside .. in the viewer", before 4, "any cell lent to the viewer, is above 511"
unfoldable pub view_refusal : List ℕ → List ℕ → Outcome
view_refusal s0 s1 =
    cond (length_within (length s0) && length_within (length s1))
    (cond (cells_within s0 && cells_within s1) done (refused Cell)) (refused Length)

-- 11: "the viewer finds no such sector"
unfoldable pub second_place : Option Span → Result Place Refusal
second_place None = Err Sector
second_place (Some span) = Ok (One span)

-- "Side 0 before side 1"
unfoldable pub first_place : Option Span → Option Span → Result Place Refusal
first_place None other = second_place other
first_place (Some span) other = Ok (Zero span)

unfoldable pub place_of : List ℕ → List ℕ → Bool → ℕ → ℕ → Result Place Refusal
place_of s0 s1 mfm track sector =
    result_and (view_refusal s0 s1) (first_place (span_on mfm s0 track sector) (span_on mfm s1 track sector))

-- of the side that it stands on
abbrev pub PlaceWithin : List ℕ → List ℕ → Place → Type 0
PlaceWithin s0 s1 (Zero span) = SpanWithin s0 span
PlaceWithin s0 s1 (One span) = SpanWithin s1 span

-- the cells of a side from one up to another
abbrev pub part_of : List ℕ → ℕ → ℕ → List ℕ
part_of side from to = take (to - from) (drop from side)

-- "hands back the data cells": as they are, flags included; and none where it refuses
unfoldable pub part_cells : Result Place Refusal → List ℕ → List ℕ → List ℕ
part_cells (Ok (Zero span)) s0 s1 = part_of s0 span.from span.to
part_cells (Ok (One span)) s0 s1 = part_of s1 span.from span.to
part_cells (Err refusal) s0 s1 = []

-- "as a part of the side they stand on": the block of memory and the byte in it at which the part starts, two bytes to a
-- cell. "An empty part is of side 0".
unfoldable pub part_start : Result Place Refusal → ℕ × ℕ → ℕ × ℕ → ℕ × ℕ
part_start (Ok (Zero span)) p0 p1 = (p0.0, span.from * 2 + p0.1)
part_start (Ok (One span)) p0 p1 = (p1.0, span.from * 2 + p1.1)
part_start (Err refusal) p0 p1 = (p0.0, 0 + p0.1)

-- "the number is a call of its own on the same input"
abbrev pub number_of : Result Place Refusal → ℕ
number_of (Ok place) = 0
number_of (Err refusal) = numbers.number_of refusal

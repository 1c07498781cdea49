-- The search for a sector on one side: document 01, "Pictures and the viewer". Assumes nothing.
use Rattle.std.specs.Prelude.{Bool, cond, ◌&&◌, List, ℕ, zero, suc, ◌+◌, ◌-◌, ◌≤◌, ltb, eqb, length, Option, None, Some}
use Rattle.std.specs.Option.{option_or}
use Rattle.crc.specs.Crc.{crc_byte}
use Rattle.scan.specs.Marks.{byte_of, mark_crc}
use Rattle.scan.specs.DataMarks.{mark_byte}
use Rattle.scan.specs.declared.Id.{Id}
use Rattle.scan.specs.declared.DataMark.{DataMark}
use Rattle.command.specs.Sizes.{size_of}
use Rattle.fields.specs.Rings.{cells_of}
use Rattle.fields.specs.Ids.{next_id}
use Rattle.fields.specs.DataMarks.{mark_behind}
use Rattle.fields.specs.declared.Found.{Found}
use Rattle.fields.specs.declared.Marked.{Marked}
use Rattle.viewer.specs.declared.Span.{Span}

-- the register after n cells more, flags ignored
unfoldable pub register_over : List ℕ → ℕ → ℕ → ℕ → ℕ
register_over row crc place zero = crc
register_over row crc place (suc n) = register_over row (crc_byte crc (byte_of (cells_of row place))) (suc place) n

-- the cells from one up to another
abbrev pub span_of : ℕ → ℕ → Span
span_of from to = record { from = from; to = to }

-- a part of a side
abbrev pub SpanWithin : List ℕ → Span → Type 0
SpanWithin side span = (span.from ≤ span.to) × (span.to ≤ length side)

-- "nothing from the ID's first cell to the data CRC past the last cell", and "data CRC good"
unfoldable pub span_from : Bool → List ℕ → DataMark → ℕ → ℕ → Option Span
span_from mfm row mark from to =
    cond (ltb (length row) (to + 2)) None
    (cond (eqb (register_over row (mark_crc mfm (mark_byte mark)) from (to + 2 - from)) 0) (Some (span_of from to)) None)

-- "mark in its window": the data cells stand after it
unfoldable pub span_marked : Bool → List ℕ → ℕ → ℕ → Option Marked → Option Span
span_marked mfm row size place None = None
span_marked mfm row size place (Some marked) =
    span_from mfm row marked.mark (place + marked.cell) (place + marked.cell + size)

unfoldable pub span_behind : Bool → List ℕ → ℕ → ℕ → Option Span
span_behind mfm row length place = span_marked mfm row (size_of length) place (mark_behind mfm row place)

-- "ID .. CRC good", and it is one of the track and sector
unfoldable pub wanted_of : Id → ℕ → ℕ → Bool
wanted_of id track sector = id.good && eqb id.track track && eqb id.sector sector

unfoldable pub span_in : Bool → List ℕ → ℕ → ℕ → Option Found → Option Span
span_in mfm row track sector None = None
span_in mfm row track sector (Some found) =
    cond (wanted_of found.id track sector) (span_behind mfm row found.id.length found.behind) None

-- the search goes on after the ID that was found, or ends
unfoldable pub behind_in : Option Found → ℕ → ℕ
behind_in None to = to
behind_in (Some found) to = found.behind

-- the first that qualifies of the IDs from a place on, of which there are no more than n
unfoldable pub span_among : Bool → List ℕ → ℕ → ℕ → ℕ → ℕ → Option Span
span_among mfm row track sector zero from = None
span_among mfm row track sector (suc n) from =
    option_or (span_in mfm row track sector (next_id mfm row from (length row)))
    (span_among mfm row track sector n (behind_in (next_id mfm row from (length row)) (length row)))

-- "lowest cell first"
unfoldable pub span_on : Bool → List ℕ → ℕ → ℕ → Option Span
span_on mfm row track sector = span_among mfm row track sector (length row) 0

-- What a line says of a data mark is the byte of the first in the ID's window, as it stands on the track. Assumes nothing.
use mathlib.Core.Path.{◌≡◌, refl, subst}
use mathlib.Core.Bool.{Bool}
use mathlib.Core.List.{List}
use Prim.Native.Nat.{ℕ}
use Rattle.std.specs.Prelude.{Option, None, Some}
use Rattle.scan.specs.DataMarks.{mark_byte}
use Rattle.scan.proofs.Marks.{mark_last_byte}
use Rattle.fields.specs.declared.Marked.{Marked}
use Rattle.fields.specs.Rings.{cells_of}
use Rattle.fields.specs.DataMarks.{mark_behind}
use Rattle.fields.proofs.DataMarks.{mark_behind_lem, no_mark}
use Rattle.list.specs.Lines.{byte_text, mark_text}
use Rattle.list.specs.Plain.{MarkPrinted, byte, none}

pub mark_printed : (mfm : Bool) (row : List ℕ) (place : ℕ) → MarkPrinted mfm row place (mark_text (mark_behind mfm row place))
unfolding mark_text
mark_printed mfm row place = by (mark_behind mfm row place) refl
  where
    by : (behind : Option Marked) → mark_behind mfm row place ≡ behind → MarkPrinted mfm row place (mark_text behind)
    by None e = none ((no_mark mfm row place).0 e)
    by (Some marked) e =
        let mark = marked.mark in
        let (a, first) = (mark_behind_lem mfm row place mark marked.cell).0 e in
        subst (λ (b : ℕ). MarkPrinted mfm row place (byte_text b))
        (mark_last_byte mfm (cells_of row) a (mark_byte mark) first.within.stands) (byte first)

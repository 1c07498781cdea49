-- How many bytes the lines and their parts have, or have at most. Assumes nothing.
use Rattle.std.proofs.Common.{◌≡◌, refl, arith, Bool, true, false, Option, None, Some, ℕ, ◌-◌, ◌≤◌, length, length-append, length-drop}
use Rattle.scan.specs.declared.Id.{Id}
use Rattle.text.specs.Decimal.{decimal_of, figures_of, places_of}
use Rattle.fields.specs.declared.Marked.{Marked}
use Rattle.list.specs.Lines.{byte_text, head_text, crc_text, mark_text, id_text}

pub head_length : (letter track side : ℕ) → length (head_text letter track side) ≡ 7
unfolding head_text
head_length letter track side = refl

pub byte_length : (b : ℕ) → length (byte_text b) ≡ 3
unfolding byte_text
byte_length b = refl

pub decimal_most : (n : ℕ) → length (decimal_of n) ≤ 5
unfolding decimal_of figures_of
decimal_most n = let fewer = length-drop (5 - places_of n) (figures_of n) in omega (arith, fewer)

pub crc_most : (good : Bool) → length (crc_text good) ≤ 5
unfolding crc_text
crc_most true = omega arith
crc_most false = omega arith

pub mark_most : (behind : Option Marked) → length (mark_text behind) ≤ 5
unfolding mark_text byte_text
mark_most None = omega arith
mark_most (Some marked) = omega arith

pub ruleset lengths = (length-append, head_length, byte_length, decimal_most, crc_most, mark_most)

-- an ID's line
pub id_most : (cell : ℕ) (id : Id) (behind : Option Marked) → length (id_text cell id behind) ≤ 28
unfolding id_text
id_most cell id behind = grind (arith, lengths)

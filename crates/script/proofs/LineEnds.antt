-- A line that ends with a carriage return and a newline is the line that ends with the newline alone; a carriage return
-- anywhere else outside a comment makes its line bad, and a bad line stays bad. Assumes nothing.
use Rattle.std.proofs.Common.{◌≡◌, refl, Bool, true, false, not, ◌&&◌, ℕ, Result, Err}
use lib.Dec.{eqb}
use Rattle.common.proofs.Cases.{by_cond}
use Rattle.script.specs.Lines.{bad_line, line_and, word_end, cr_held, cr_stray, word_grown, fed_reader, ended_line}
use Rattle.script.specs.declared.lines.BadLine.{BadLine}
use Rattle.script.specs.declared.lines.Line.{Line}
use Rattle.script.specs.declared.lines.Reader.{Reader}

abbrev Bad : Result Line BadLine → Type 0
Bad line = line ≡ Err bad_line

abbrev Spoilt : Reader → Type 0
Spoilt r = r.bad ≡ true

-- "A carriage return just before a newline belongs to the line's end"; a comment passes over it
pub cr_newline : (r : Reader) → r.cr ≡ false → ended_line (fed_reader r 0x0D) true ≡ ended_line r true
unfolding fed_reader ended_line cr_held line_and
cr_newline r none = by_cond (λ fed. ended_line fed true ≡ ended_line r true) r.comment (λ _. refl) (λ _. rw none refl)

pub cr_held_lem : (r : Reader) → r.comment ≡ false → r.cr ≡ false → (fed_reader r 0x0D).cr ≡ true
unfolding fed_reader cr_held
cr_held_lem r words none = rw (words, none) refl

-- "anywhere else outside a comment it is an error": before another byte
pub cr_byte : (r : Reader) (byte : ℕ) → r.comment ≡ false → r.cr ≡ true → (fed_reader r byte).bad ≡ true
unfolding fed_reader cr_stray
cr_byte r byte words held = rw (words, held) refl

-- "also at the very end of the input"
pub cr_end : (r : Reader) → r.cr ≡ true → ended_line r false ≡ Err bad_line
unfolding ended_line
cr_end r held = rw held refl

pub stays_bad : (r : Reader) (byte : ℕ) → r.bad ≡ true → (fed_reader r byte).bad ≡ true
unfolding fed_reader word_end cr_held cr_stray word_grown line_and
stays_bad r byte h =
    by_cond Spoilt r.comment (λ _. h)
    (λ _. by_cond Spoilt r.cr (λ _. refl)
    (λ _. by_cond Spoilt (eqb byte 0x20) (λ _. rw h refl)
    (λ _. by_cond Spoilt (eqb byte 0x23) (λ _. rw h refl)
    (λ _. by_cond Spoilt (eqb byte 0x0D) (λ _. h) (λ _. h)))))

pub ends_bad : (r : Reader) (newline : Bool) → r.bad ≡ true → ended_line r newline ≡ Err bad_line
unfolding ended_line line_and
ends_bad r newline h = by_cond Bad (r.cr && not newline) (λ _. refl) (λ _. rw h refl)

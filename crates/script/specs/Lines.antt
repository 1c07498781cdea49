-- Lines: a letter, and numbers. Assumes nothing.
use Rattle.std.specs.Prelude.{Bool, true, false, cond, not, ◌&&◌, ℕ, ◌+◌, leb, eqb, List, replicate, take, slice_set, Option, Some, None, is_none, Result, Ok, Err, ⊤}
use Rattle.script.specs.Words.{no_word, word_with, letter_of, number_of}
use Rattle.script.specs.declared.words.Word.{Word}
use Rattle.script.specs.declared.lines.BadLine.{BadLine}
use Rattle.script.specs.declared.lines.Line.{Line}
use Rattle.script.specs.declared.lines.Numbers.{Numbers}
use Rattle.script.specs.declared.lines.Reader.{Reader}

-- an error of the script
abbrev pub bad_line : BadLine
bad_line = record {}

-- the numbers are the first ones of an array, which begins with 0
unfoldable pub items_of : Numbers → List ℕ
items_of n = take n.count n.cells

unfoldable pub no_numbers : Numbers
no_numbers = record { cells = replicate 65 0; count = 0 }

-- "a letter and then numbers", of which no line takes more than a place and 64 cells
unfoldable pub numbers_with : Numbers → ℕ → Result Numbers BadLine
numbers_with n number = cond (leb 65 n.count) (Err bad_line) (Ok (record { cells = slice_set n.cells n.count number; count = n.count + 1 }))

unfoldable pub no_line : Line
no_line = record { letter = None; numbers = no_numbers }

abbrev pub line_with_letter : Line → Option ℕ → Result Line BadLine
line_with_letter l (Some letter) = Ok (record { letter = Some letter; numbers = l.numbers })
line_with_letter l None = Err bad_line

-- "A line is a capital letter"
unfoldable pub lettered_line : Line → Word → Result Line BadLine
lettered_line l w = line_with_letter l (letter_of w)

abbrev pub line_with_numbers : Line → Result Numbers BadLine → Result Line BadLine
line_with_numbers l (Ok numbers) = Ok (record { letter = l.letter; numbers = numbers })
line_with_numbers l (Err bad) = Err bad

abbrev pub line_with_number : Line → Option ℕ → Result Line BadLine
line_with_number l (Some number) = line_with_numbers l (numbers_with l.numbers number)
line_with_number l None = Err bad_line

-- "and then numbers"
unfoldable pub numbered_line : Line → Word → Result Line BadLine
numbered_line l w = line_with_number l (number_of w)

-- "separated by one or more spaces": between two spaces there is no word
unfoldable pub line_with : Line → Word → Result Line BadLine
line_with l w = cond (eqb w.size 0) (Ok l) (cond (is_none l.letter) (lettered_line l w) (numbered_line l w))

-- the line with the word that ends: a bad line stays bad
unfoldable pub line_and : Reader → Result Line BadLine
line_and r = cond r.bad (Err bad_line) (line_with r.line r.word)

unfoldable pub line_start : Reader
line_start = record { line = no_line; bad = false; word = no_word; comment = false; cr = false }

abbrev pub spoilt_reader : Reader → Reader
spoilt_reader r = record { line = r.line; bad = true; word = r.word; comment = r.comment; cr = r.cr }

-- what a word makes of the line; one that is an error spoils it
abbrev pub reader_with : Reader → Result Line BadLine → Reader
reader_with r (Ok line) = record { line = line; bad = r.bad; word = r.word; comment = r.comment; cr = r.cr }
reader_with r (Err bad) = spoilt_reader r

unfoldable pub word_end : Reader → Bool → Reader
word_end r comment =
    let after = reader_with r (line_and r) in
    record { line = after.line; bad = after.bad; word = no_word; comment = comment; cr = false }

-- "A carriage return just before a newline belongs to the line's end": what comes next decides
unfoldable pub cr_held : Reader → Reader
cr_held r = record { line = r.line; bad = r.bad; word = r.word; comment = r.comment; cr = true }

-- "anywhere else outside a comment it is an error": another byte came
unfoldable pub cr_stray : Reader → Reader
cr_stray r = spoilt_reader r

-- any other byte is a word's
unfoldable pub word_grown : Reader → ℕ → Reader
word_grown r byte = record { line = r.line; bad = r.bad; word = word_with r.word byte; comment = false; cr = false }

-- "`#` starts a comment that runs to the end of the line"; a space ends a word, as the comment does
unfoldable pub fed_reader : Reader → ℕ → Reader
fed_reader r byte =
    cond r.comment r
    (cond r.cr (cr_stray r)
    (cond (eqb byte 0x20) (word_end r false)
    (cond (eqb byte 0x23) (word_end r true)
    (cond (eqb byte 0x0D) (cr_held r)
    (word_grown r byte)))))

-- the line whose bytes these were, at its newline or at the end of the input, before which no carriage return may stand
unfoldable pub ended_line : Reader → Bool → Result Line BadLine
ended_line r newline = cond (r.cr && not newline) (Err bad_line) (line_and r)

-- whether there is a line to carry out
abbrev pub outcome_of : Result Line BadLine → Result ⊤ BadLine
outcome_of (Ok line) = Ok tt
outcome_of (Err bad) = Err bad

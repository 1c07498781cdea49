-- Words: what stands between spaces. Assumes nothing.
use Rattle.std.specs.Prelude.{Bool, cond, ◌&&◌, ℕ, ◌+◌, ◌*◌, ◌%◌, ltb, eqb, Option, Some, None, is_some}
use Rattle.script.specs.Glyphs.{is_capital, value_of}
use Rattle.script.specs.declared.words.Word.{Word}

unfoldable pub no_word : Word
no_word = record { size = 0; last = 0; value = Some 0 }

-- a word of five bytes or more is neither a letter nor a number, however long it is
unfoldable pub longer_by : ℕ → ℕ
longer_by size = cond (ltb size 5) (size + 1) 5

-- a number and a digit more, where there are both
abbrev pub value_and : Option ℕ → Option ℕ → Option ℕ
value_and (Some value) (Some digit) = Some (value % 4096 * 16 + digit)
value_and (Some value) None = None
value_and None digit = None

unfoldable pub value_with : Option ℕ → ℕ → Option ℕ
value_with value byte = value_and value (value_of byte)

-- the word and one byte more
unfoldable pub word_with : Word → ℕ → Word
word_with w byte = record { size = longer_by w.size; last = byte; value = value_with w.value byte }

-- "a capital letter"
unfoldable pub is_letter : Word → Bool
is_letter w = eqb w.size 1 && is_capital w.last

-- "Every number is hexadecimal, 1 to 4 digits"
unfoldable pub is_number : Word → Bool
is_number w = ltb 0 w.size && ltb w.size 5 && is_some w.value

-- the letter, and the number, that a word is
unfoldable pub letter_of : Word → Option ℕ
letter_of w = cond (is_letter w) (Some w.last) None

unfoldable pub number_of : Word → Option ℕ
number_of w = cond (is_number w) w.value None

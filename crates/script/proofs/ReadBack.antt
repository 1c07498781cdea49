-- What `text` prints of a number, a script says: four digits are a word that is the number. Assumes nothing.
use Rattle.std.proofs.Common.{◌≡◌, refl, sym, ap, Bool, true, false, cond, List, [], ◌∷◌, Option, Some, None, ℕ, zero-le, ◌+◌, ◌*◌, ◌/◌, ◌%◌, ◌<◌, arith}
use lib.Dec.{ltb, eqb}
use borrow.Author.Tests.{eqb-true}
use Rattle.common.proofs.Arms.{range}
use Rattle.text.specs.Digits.{digit_in}
use Rattle.text.specs.Hex.{digit_of, hex_of}
use Rattle.script.specs.Glyphs.{value_of}
use Rattle.script.specs.Words.{no_word, longer_by, value_with, word_with, is_number}
use Rattle.script.specs.declared.words.Word.{Word}

-- a word and more bytes of it
abbrev pub word_on : Word → List ℕ → Word
word_on w [] = w
word_on w (byte ∷ bytes) = word_on (word_with w byte) bytes

-- the digit of a value, as `text` has it
abbrev glyph : ℕ → ℕ
glyph d = cond (ltb d 10) (d + 48) (d + 55)

-- whether a digit has this value
abbrev is_value : Option ℕ → ℕ → Bool
is_value (Some digit) d = eqb digit d
is_value None d = false

eq_some : (value : Option ℕ) (d : ℕ) → is_value value d ≡ true → value ≡ Some d
eq_some (Some digit) d h = ap Some (eqb-true digit d h)
eq_some None d h = cc

value_glyph : (d : ℕ) → d < 16 → value_of (glyph d) ≡ Some d
unfolding value_of
value_glyph d h =
    eq_some (value_of (glyph d)) d (sym (range (λ k. is_value (value_of (glyph k)) k) 0 16 refl zero-le h))

value_digit : (n : ℕ) → value_of (digit_of n) ≡ Some (n % 16)
unfolding digit_of digit_in
value_digit n = value_glyph (n % 16) (omega arith)

-- a number is its sixteenth part and its last digit
grown : (m before : ℕ) → m < 65536 → before ≡ m / 16 → before % 4096 * 16 + m % 16 ≡ m
grown m before h e = omega arith

pub hex_is_number : (n : ℕ) → n < 65536 → (is_number (word_on no_word (hex_of n)) ≡ true) × ((word_on no_word (hex_of n)).value ≡ Some n)
unfolding hex_of no_word word_with longer_by value_with is_number
hex_is_number n h = (
  simp value_digit,
  simp (
    value_digit,
    grown (n / 4096) 0 (omega arith) (omega arith),
    grown (n / 256) (n / 4096) (omega arith) (omega arith),
    grown (n / 16) (n / 256) (omega arith) (omega arith),
    grown n (n / 16) h refl,
  ),
)

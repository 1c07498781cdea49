-- Letters and digits, in ASCII. Assumes nothing.
use Rattle.std.specs.Prelude.{Bool, cond, ◌&&◌, ℕ, ◌-◌, leb, Option, Some, None}

-- A row of bytes, from its first to its last.
abbrev pub is_between : ℕ → ℕ → ℕ → Bool
is_between first last byte = leb first byte && leb byte last

-- "a capital letter"
unfoldable pub is_capital : ℕ → Bool
is_capital byte = is_between 0x41 0x5A byte

-- "Every number is hexadecimal, .. upper or lower case": a digit's value
unfoldable pub value_of : ℕ → Option ℕ
value_of byte =
    cond (is_between 0x30 0x39 byte) (Some (byte - 48))
    (cond (is_between 0x41 0x46 byte) (Some (byte - 55))
    (cond (is_between 0x61 0x66 byte) (Some (byte - 87))
    None))

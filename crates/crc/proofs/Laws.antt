-- The laws of the register that the crates above go by, with the step itself kept shut: it stays a word, and a field
-- followed by its own register leaves 0. Assumes nothing.
use mathlib.Core.Path.{◌≡◌, refl, sym, ap, ap₂, ◌∙◌}
use mathlib.Core.List.{List, [], ◌∷◌, ◌++◌}
use Prim.Native.Nat.{ℕ, zero, suc, ◌+◌, ◌*◌, ◌/◌, ◌%◌, ◌<◌}
use native.Mathlib.Nat.{add-zero, zero-add}
use native.Mathlib.Omega.{arith}
use lib.Bits.{bit_xor, xor_self, xor_zero_r, xor_zero_l, xor_block, xor_lt}
use Rattle.crc.specs.Crc.{crc_bit, crc_bits, crc_byte, crc_over, polynomial}
use Rattle.crc.proofs.Linear.{bits_linear}

bit_below : (c : ℕ) → c < 65536 → crc_bit c < 65536
unfolding crc_bit
bit_below c h = xor_lt 16 (c * 2 % 65536) (c / 32768 * polynomial) (omega arith) (omega arith)

pub bits_below : (n c : ℕ) → c < 65536 → crc_bits n c < 65536
unfolding crc_bits
bits_below zero c h = h
bits_below (suc n) c h = bits_below n (crc_bit c) (bit_below c h)

-- the register stays below 65,536
pub byte_below : (c b : ℕ) → c < 65536 → b < 256 → crc_byte c b < 65536
unfolding crc_byte
byte_below c b h k = bits_below 8 (bit_xor c (b * 256)) (xor_lt 16 c (b * 256) h (omega arith))

-- every number of the list is a byte
abbrev pub Bytes : List ℕ → Type 0
Bytes [] = Unit {0}
Bytes (b ∷ bs) = (b < 256) × Bytes bs

pub over_below : (c : ℕ) (bs : List ℕ) → c < 65536 → Bytes bs → crc_over c bs < 65536
unfolding crc_over
over_below c [] h k = h
over_below c (b ∷ bs) h k = over_below (crc_byte c b) bs (byte_below c b h k.0) k.1

-- one list after the other
pub over_append : (c : ℕ) (xs ys : List ℕ) → crc_over c (xs ++ ys) ≡ crc_over (crc_over c xs) ys
unfolding crc_over
over_append c [] ys = refl
over_append c (x ∷ xs) ys = over_append (crc_byte c x) xs ys

-- an empty register stays so
zeros : (n : ℕ) → crc_bits n 0 ≡ 0
unfolding crc_bits crc_bit
zeros zero = refl
zeros (suc n) = zeros n

-- the high byte takes the high half away and leaves the low one in its place
closes_high : (r : ℕ) → r < 65536 → crc_byte r (r / 256) ≡ r % 256 * 256
unfolding crc_byte
closes_high r h =
    ap (crc_bits 8)
    (ap₂ bit_xor (parts r) (sym (add-zero (r / 256 * 256)))
    ∙ xor_block 8 (r / 256) (r / 256) (r % 256) 0 (omega arith) (omega arith)
    ∙ ap₂ (λ (x y : ℕ). x * 256 + y) (xor_self (r / 256)) (xor_zero_r (r % 256))
    ∙ zero-add (r % 256)
    ∙ sym (xor_zero_l (r % 256)))
    ∙ bits_linear 8 0 (r % 256) (omega arith)
    ∙ ap (λ (z : ℕ). bit_xor z (r % 256 * 256)) (zeros 8)
    ∙ xor_zero_l (r % 256 * 256)
  where
    parts : (x : ℕ) → x ≡ x / 256 * 256 + x % 256
    parts x = omega arith

closes_low : (x : ℕ) → crc_byte (x * 256) x ≡ 0
unfolding crc_byte
closes_low x = ap (crc_bits 8) (xor_self (x * 256)) ∙ zeros 8

-- a register followed by itself, high byte first, leaves 0
pub closes : (r : ℕ) → r < 65536 → crc_byte (crc_byte r (r / 256)) (r % 256) ≡ 0
closes r h = ap (λ (z : ℕ). crc_byte z (r % 256)) (closes_high r h) ∙ closes_low (r % 256)

-- "high byte first"
abbrev pub own_crc : ℕ → List ℕ
own_crc r = r / 256 ∷ r % 256 ∷ []

-- "a field is good when the register is 0 after its own CRC": every field is, from every register
pub field_closes : (c : ℕ) (bs : List ℕ) → c < 65536 → Bytes bs → crc_over c (bs ++ own_crc (crc_over c bs)) ≡ 0
unfolding crc_over
field_closes c bs h k = over_append c bs (own_crc (crc_over c bs)) ∙ closes (crc_over c bs) (over_below c bs h k)

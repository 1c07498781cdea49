-- What the low half of the register adds goes through a byte's eight bits untouched, so a byte's step is a table's word of
-- the high half and the low half beside it. Assumes nothing.
use mathlib.Core.Path.{◌≡◌, sym, ap, ap₂, ◌∙◌}
use Prim.Native.Nat.{ℕ, zero, suc, ◌+◌, ◌*◌, ◌/◌, ◌%◌, ◌^◌, ◌<◌}
use native.Mathlib.Nat.{mod-eq_of_lt, div-eq_of_lt, mod-lt, mul-le-mul_right}
use native.Mathlib.Omega.{arith}
use lib.Bits.{bit_xor, xor_zero_r, xor_shr, xor_mod, xor_block, xor_shifted}
use lib.Pow.{split, pow_pos}
use Rattle.crc.specs.Crc.{crc_bit, crc_bits, crc_byte, polynomial}
use Rattle.crc.specs.Table.{word}
use Rattle.crc.proofs.Xor.{xor_swap, xor_double}

-- y has no bit at the top, so it only goes up by one place
bit_linear : (x y : ℕ) → y < 32768 → crc_bit (bit_xor x y) ≡ bit_xor (crc_bit x) (y * 2)
unfolding crc_bit
bit_linear x y h =
    ap₂ (λ (p q : ℕ). bit_xor p (q * polynomial))
    (ap (λ (n : ℕ). n % 65536) (xor_double x y)
    ∙ xor_mod (x * 2) (y * 2) 16
    ∙ ap (bit_xor (x * 2 % 65536)) (mod-eq_of_lt (omega arith)))
    (xor_shr x y 15 ∙ ap (bit_xor (x / 32768)) (div-eq_of_lt h) ∙ xor_zero_r (x / 32768))
    ∙ xor_swap (x * 2 % 65536) (y * 2) (x / 32768 * polynomial)

-- the same for as many bits as y leaves free at the top
pub bits_linear : (n x y : ℕ) → y * 2 ^ n < 65536 → crc_bits n (bit_xor x y) ≡ bit_xor (crc_bits n x) (y * 2 ^ n)
unfolding crc_bits
bits_linear zero x y h = ap (bit_xor x) (omega arith)
bits_linear (suc n) x y h =
    let q : 2 ^ suc n ≡ 2 ^ n * 2 = omega arith in
    let m : y * (2 ^ n * 2) < 65536 = rw q at h in
    let b : y * 2 < 65536 = omega (arith, mul-le-mul_right {m = 1} {n = 2 ^ n} (y * 2) (pow_pos n)) in
    rw q
    (ap (crc_bits n) (bit_linear x y (omega arith))
    ∙ bits_linear n (crc_bit x) (y * 2) (omega arith)
    ∙ ap (bit_xor (crc_bits n (crc_bit x))) (omega arith))

-- the byte joins the high half
enters : (c b : ℕ) → bit_xor c (b * 256) ≡ bit_xor (bit_xor (c / 256) b * 256) (c % 256)
enters c b =
    ap₂ bit_xor (sym (split c 8)) (omega arith)
    ∙ xor_block 8 (c / 256) b (c % 256) 0 (mod-lt c (omega arith)) (omega arith)
    ∙ ap (λ (z : ℕ). bit_xor (c / 256) b * 256 + z) (xor_zero_r (c % 256))
    ∙ sym (xor_shifted (bit_xor (c / 256) b) 8 (c % 256) (mod-lt c (omega arith)))

pub by_word : (c b : ℕ) → crc_byte c b ≡ bit_xor (word (bit_xor (c / 256) b)) (c % 256 * 256)
unfolding crc_byte
by_word c b =
    ap (crc_bits 8) (enters c b)
    ∙ bits_linear 8 (bit_xor (c / 256) b * 256) (c % 256) (omega (arith, mod-lt c {m = 256} (omega arith)))

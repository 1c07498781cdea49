-- The test for padding says exactly that each flag bit after the last cell's is 0. Assumes nothing.
use mathlib.Core.Path.{◌≡◌, sym, ap, ◌∙◌}
use mathlib.Core.Bool.{true}
use Prim.Native.Nat.{ℕ, zero, suc, ◌+◌, ◌-◌, ◌*◌, ◌/◌, ◌%◌, ◌^◌, ◌≤◌, ◌<◌}
use native.Mathlib.Nat.{zero-mul, mod-one, zero-div}
use native.Mathlib.Numerals.{one-add}
use native.Mathlib.Omega.{arith}
use lib.Pow.{mod-pow-add, mod-mod-pow, field}
use borrow.Author.Tests.{eqb-true, eq-eqb}
use Rattle.picture.specs.Layout.{flag_bytes, flag_in, spare_bits, spare_clear}

-- a number that 2 ^ s divides has s zeros as its lowest bits, and the other way round
low_zeros : (d n j : ℕ) → n % 2 ^ (d + 1 + j) ≡ 0 → n / 2 ^ j % 2 ≡ 0
low_zeros d n j none =
    sym (mod-mod-pow (n / 2 ^ j) d 1)
    ∙ ap (λ (m : ℕ). m % 2) (sym (field n (d + 1) j) ∙ ap (λ (m : ℕ). m / 2 ^ j) none)
    ∙ ap (λ (m : ℕ). m % 2) (zero-div (2 ^ j))

no_low_bits : (s n : ℕ) → ((j : ℕ) → j < s → n / 2 ^ j % 2 ≡ 0) → n % 2 ^ s ≡ 0
no_low_bits zero n each = mod-one n
no_low_bits (suc s) n each =
    let rest = no_low_bits s n (λ j below. each j (omega arith)) in
    let top = each s (omega arith) in
    let split : n % 2 ^ (1 + s) ≡ (n / 2 ^ s % 2) * 2 ^ s + n % 2 ^ s = mod-pow-add n 1 s in
    ap (λ (k : ℕ). n % 2 ^ k) (sym (one-add s)) ∙ split ∙ simp (top, rest, zero-mul (2 ^ s))

module _ (cells last : ℕ) where
  -- the flag bits that stand for no cell
  abbrev Clear : Type 0
  Clear = (i : ℕ) → cells ≤ i → i < flag_bytes cells * 8 → flag_in last i ≡ 0

  pub spare_clear_lem : spare_clear cells last ≡ true → Clear
  unfolding spare_clear flag_in
  spare_clear_lem test i beyond within =
      let none = eqb-true (last % 2 ^ spare_bits cells) 0 test in
      let d = spare_bits cells - 1 - (7 - i % 8) in
      let s : spare_bits cells ≡ d + 1 + (7 - i % 8) = omega arith in
      low_zeros d last (7 - i % 8) (rw s at none)

  pub clear_spare : Clear → spare_clear cells last ≡ true
  unfolding spare_clear flag_in
  clear_spare each =
      eq-eqb _ _
      (no_low_bits (spare_bits cells) last
      (λ j below.
      let i = flag_bytes cells * 8 - 1 - j in
      let place : 7 - i % 8 ≡ j = omega arith in
      rw place at (each i (omega arith) (omega arith))))

-- The bits of the status byte that a read hands back, under any lines: of either type 4, 3 and 0, the flags of these names and
-- Busy; of Types II and III 6, 5 and 2, protected, deleted mark and Lost Data. Assumes nothing.
use mathlib.Core.Path.{◌≡◌, refl, ap, ◌∙◌}
use mathlib.Core.Bool.{Bool, true, false, cond, not, ◌&&◌}
use Prim.Native.Nat.{ℕ, ◌+◌, ◌*◌, ◌/◌, ◌%◌, ◌≤◌}
use native.Mathlib.Omega.{arith}
use lib.Dec.{eqb}
use Rattle.common.proofs.Cases.{by_cond}
use Rattle.common.specs.Bits.{bit_of}
use Rattle.activity.specs.Limits.{busy_in}
use Rattle.registers.specs.declared.Lines.{Lines}
use Rattle.registers.specs.declared.Status.{Status}
use Rattle.registers.specs.Status.{bit_for, type_bits, status_from}
use Rattle.wd.specs.declared.Machine.{Machine}
use Rattle.registers.specs.Registers.{read_refusal, read_byte}
use Rattle.wd.specs.Reads.{status_of, read_register}
use Rattle.reachable.proofs.Valid.{Valid}

-- a bit of a mask is so many times one
one : Bool → ℕ
one on = cond on 1 0

bit_one : (on : Bool) (mask : ℕ) → (bit_for on mask ≡ one on * mask) × (one on ≤ 1)
unfolding bit_for one
bit_one true mask = (omega arith, omega arith)
bit_one false mask = (omega arith, omega arith)

one_bit : (on : Bool) → eqb (one on) 1 ≡ on
unfolding one
one_bit true = refl
one_bit false = refl

middle : (high bit low : ℕ) → bit ≤ 1 → low ≤ 15 → (high * 32 + bit * 16 + low) / 16 % 2 ≡ bit
middle high bit low one few = omega arith

module _ (ready missing crc busy a b c d : Bool) where
  -- the byte with all its bits
  abbrev bits : ℕ
  bits =
      (bit_for ready 0x80 + bit_for missing 0x10)
      + ((bit_for a 0x40 + bit_for b 0x20) + (bit_for c 0x04 + bit_for d 0x02))
      + (bit_for crc 0x08 + bit_for busy 0x01)

  -- those above it and those below it
  abbrev high : ℕ
  high = one ready * 4 + one a * 2 + one b

  abbrev low : ℕ
  low = bit_for c 0x04 + bit_for d 0x02 + bit_for crc 0x08 + bit_for busy 0x01

  low_most : low ≤ 15
  low_most = omega (arith, bit_one c 0x04, bit_one d 0x02, bit_one crc 0x08, bit_one busy 0x01)

  sorted : bits ≡ high * 32 + one missing * 16 + low
  sorted = omega (arith, (bit_one ready 0x80).0, (bit_one missing 0x10).0, (bit_one a 0x40).0, (bit_one b 0x20).0)

  four : eqb (bits / 16 % 2) 1 ≡ missing
  four =
      ap (λ (n : ℕ). eqb (n / 16 % 2) 1) sorted
      ∙ ap (λ (n : ℕ). eqb n 1) (middle high (one missing) low (bit_one missing 0x10).1 low_most)
      ∙ one_bit missing

  lowest : bits / 1 % 2 ≡ one busy
  lowest =
      omega (arith, sorted, (bit_one c 0x04).0, (bit_one d 0x02).0, (bit_one crc 0x08).0, bit_one busy 0x01)

  zeroth : eqb (bits / 1 % 2) 1 ≡ busy
  zeroth = ap (λ (n : ℕ). eqb n 1) lowest ∙ one_bit busy

  lower : low ≡ one crc * 8 + one c * 4 + (bit_for d 0x02 + bit_for busy 0x01)
  lower = omega (arith, (bit_one c 0x04).0, (bit_one crc 0x08).0)

  third : bits / 4 % 2 ≡ one c
  third =
      omega (arith, sorted, lower, (bit_one c 0x04).1, bit_one d 0x02, bit_one busy 0x01)

  two : eqb (bits / 4 % 2) 1 ≡ c
  two = ap (λ (n : ℕ). eqb n 1) third ∙ one_bit c

  fourth : bits / 8 % 2 ≡ one crc
  fourth =
      omega (arith, sorted, lower, (bit_one crc 0x08).1, (bit_one c 0x04).1, bit_one d 0x02, bit_one busy 0x01)

  three : eqb (bits / 8 % 2) 1 ≡ crc
  three = ap (λ (n : ℕ). eqb n 1) fourth ∙ one_bit crc

  seventh : bits / 64 % 2 ≡ one a
  seventh = omega (arith, sorted, low_most, (bit_one missing 0x10).1, (bit_one a 0x40).1, (bit_one b 0x20).1)

  six : eqb (bits / 64 % 2) 1 ≡ a
  six = ap (λ (n : ℕ). eqb n 1) seventh ∙ one_bit a

  sixth : bits / 32 % 2 ≡ one b
  sixth = omega (arith, sorted, low_most, (bit_one missing 0x10).1, (bit_one a 0x40).1, (bit_one b 0x20).1)

  five : eqb (bits / 32 % 2) 1 ≡ b
  five = ap (λ (n : ℕ). eqb n 1) sixth ∙ one_bit b

-- what holds of the byte of either type, with all its bits, holds of the status
either :
    (P : ℕ → Type 0) (m : Machine) (l : Lines)
    → ((a b c d : Bool) → P (bits (not l.ready) m.flags.missing m.flags.crc (busy_in m.activity) a b c d))
    → P (status_of m l).byte
unfolding status_of status_from type_bits
either P m l f =
    by_cond (λ (s : Status). P s.byte) m.flags.type1
    (λ e. f l.protect (m.head.loaded && l.hlt) l.track0 m.past.index)
    (λ e. f m.flags.protected m.flags.deleted m.flags.lost m.wires.drq)

-- as a read hands it back
read_byte_lem : (m : Machine) (l : Lines) → Valid m → (read_register m l 0).byte ≡ (status_of m l).byte
unfolding read_register read_refusal read_byte
read_byte_lem m l v = simp v

-- "4 Seek Error or Record Not Found"
pub status_four : (m : Machine) (l : Lines) → Valid m → bit_of (read_register m l 0).byte 4 ≡ m.flags.missing
unfolding bit_of
status_four m l v =
    rw (read_byte_lem m l v)
    (either (λ n. eqb (n / 16 % 2) 1 ≡ m.flags.missing) m l
    (λ a b c d. four (not l.ready) m.flags.missing m.flags.crc (busy_in m.activity) a b c d))

-- "3 CRC"
pub status_crc : (m : Machine) (l : Lines) → Valid m → bit_of (read_register m l 0).byte 3 ≡ m.flags.crc
unfolding bit_of
status_crc m l v =
    rw (read_byte_lem m l v)
    (either (λ n. eqb (n / 8 % 2) 1 ≡ m.flags.crc) m l
    (λ a b c d. three (not l.ready) m.flags.missing m.flags.crc (busy_in m.activity) a b c d))

-- "6 protected": of Types II and III
pub status_protected :
    (m : Machine) (l : Lines) → Valid m → m.flags.type1 ≡ false → bit_of (read_register m l 0).byte 6 ≡ m.flags.protected
unfolding bit_of status_of status_from type_bits
status_protected m l v type2 =
    rw (read_byte_lem m l v, type2)
    (six (not l.ready) m.flags.missing m.flags.crc (busy_in m.activity) m.flags.protected m.flags.deleted
    m.flags.lost m.wires.drq)

-- "5 .. deleted mark (read)": of Types II and III
pub status_deleted :
    (m : Machine) (l : Lines) → Valid m → m.flags.type1 ≡ false → bit_of (read_register m l 0).byte 5 ≡ m.flags.deleted
unfolding bit_of status_of status_from type_bits
status_deleted m l v type2 =
    rw (read_byte_lem m l v, type2)
    (five (not l.ready) m.flags.missing m.flags.crc (busy_in m.activity) m.flags.protected m.flags.deleted
    m.flags.lost m.wires.drq)

-- "2 .. Lost Data": of Types II and III
pub status_lost :
    (m : Machine) (l : Lines) → Valid m → m.flags.type1 ≡ false → bit_of (read_register m l 0).byte 2 ≡ m.flags.lost
unfolding bit_of status_of status_from type_bits
status_lost m l v type2 =
    rw (read_byte_lem m l v, type2)
    (two (not l.ready) m.flags.missing m.flags.crc (busy_in m.activity) m.flags.protected m.flags.deleted
    m.flags.lost m.wires.drq)

-- "0 Busy"
pub status_busy : (m : Machine) (l : Lines) → Valid m → bit_of (read_register m l 0).byte 0 ≡ busy_in m.activity
unfolding bit_of
status_busy m l v =
    rw (read_byte_lem m l v)
    (either (λ n. eqb (n / 1 % 2) 1 ≡ busy_in m.activity) m l
    (λ a b c d. zeroth (not l.ready) m.flags.missing m.flags.crc (busy_in m.activity) a b c d))

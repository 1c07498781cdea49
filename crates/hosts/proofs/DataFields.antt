-- The numbers of a data field: its mark's byte and what that counts as, and the register over its bytes. Assumes nothing.
use mathlib.Core.Path.{◌≡◌, refl}
use mathlib.Core.Bool.{Bool, true, false}
use Prim.Native.Nat.{ℕ, zero, suc, ◌<◌}
use native.Mathlib.Omega.{arith}
use Rattle.crc.specs.Crc.{preset, crc_byte}
use Rattle.crc.proofs.Laws.{byte_below, over_below}
use Rattle.scan.specs.Marks.{mark_bytes, mark_crc}
use Rattle.scan.specs.DataMarks.{mark_byte, is_deleted}
use Rattle.scan.specs.declared.DataMark.{DataMark}
use Rattle.scan.specs.declared.DataMark.TheVariants.{Fb, F8, F9, Fa}
use Rattle.hosts.specs.Scenes.{counts_deleted}

-- the register after n of the bytes
unfoldable pub sum_after : ℕ → (ℕ → ℕ) → ℕ → ℕ
sum_after crc bytes zero = crc
sum_after crc bytes (suc n) = crc_byte (sum_after crc bytes n) (bytes n)

pub deleted_byte : (mark : DataMark) → is_deleted mark ≡ counts_deleted (mark_byte mark)
unfolding is_deleted mark_byte
deleted_byte Fb = refl
deleted_byte F8 = refl
deleted_byte F9 = refl
deleted_byte Fa = refl

pub mark_word : (mfm : Bool) (b : ℕ) → b < 256 → mark_crc mfm b < 65536
unfolding mark_crc mark_bytes
mark_word false b h = over_below preset _ (omega arith) (h, tt)
mark_word true b h = over_below preset _ (omega arith) (omega arith, (omega arith, (omega arith, (h, tt))))

pub sum_below :
    (crc : ℕ) (bytes : ℕ → ℕ) (n : ℕ)
    → crc < 65536
    → ((i : ℕ) → i < n → bytes i < 256)
    → sum_after crc bytes n < 65536
unfolding sum_after
sum_below crc bytes zero h low = h
sum_below crc bytes (suc n) h low =
    byte_below _ (bytes n) (sum_below crc bytes n h (λ i l. low i (omega arith))) (low n (omega arith))

-- two rows of bytes that agree have one register
pub sum_same :
    (crc : ℕ) (bytes others : ℕ → ℕ) (n : ℕ)
    → ((i : ℕ) → i < n → bytes i ≡ others i)
    → sum_after crc bytes n ≡ sum_after crc others n
unfolding sum_after
sum_same crc bytes others zero same = refl
sum_same crc bytes others (suc n) same =
    rw (sum_same crc bytes others n (λ i l. same i (omega arith)), same n (omega arith)) refl

-- The cells that a Write Sector leaves after its ID, each as a function of its place. Assumes nothing.
use mathlib.Core.Path.{◌≡◌, refl}
use mathlib.Core.Bool.{Bool, true, false, cond}
use Prim.Native.Nat.{ℕ, suc, ◌+◌, ◌-◌, ◌/◌, ◌%◌, ◌≤◌, ◌<◌}
use native.Mathlib.Omega.{arith}
use lib.Dec.{ltb, eqb}
use borrow.Author.Tests.{lt-ltb, le-ltb, le-leb, lt-leb, eq-eqb, ne_eqb, ltb-true}
use Rattle.common.proofs.Cases.{by_cond}
use Rattle.scan.specs.Marks.{sync, lead_of, mark_crc}
use Rattle.writing.specs.Writing.{last_kept, last_zero, mark_place, mark_cell, preamble_cell}
use Rattle.hosts.proofs.DataFields.{sum_after, sum_below, mark_word}
use Rattle.scan.specs.DataMarks.{mark_byte, density_has}
use Rattle.scan.proofs.DataMarks.{mark_byte_lem}
use Rattle.scan.specs.declared.DataMark.{DataMark}

-- a field: its mark, its length, its bytes, and what stood in its place before it, from the ID's last cell on
pub record Field : Type 0 where
  pub mfm : Bool
  pub data_mark : DataMark
  pub of_density : density_has mfm data_mark ≡ true
  pub size : ℕ
  pub bytes : ℕ → ℕ
  pub old : ℕ → ℕ

-- the register after the data
abbrev pub sum_of : Field → ℕ
sum_of f = sum_after (mark_crc f.mfm (mark_byte f.data_mark)) f.bytes f.size

-- "the data, two CRC bytes, one FF"
unfoldable pub field_put : Field → ℕ → ℕ
field_put f i =
    cond (ltb i f.size) (f.bytes i)
    (cond (eqb i f.size) (sum_of f / 256) (cond (eqb i (f.size + 1)) (sum_of f % 256) 0xFF))

-- the cell at place j, the first after the ID's last being 0: what is kept, what leads to the mark, and what is put
unfoldable pub cell_of : Field → ℕ → ℕ
cell_of f j =
    cond (ltb j (mark_place f.mfm))
    (preamble_cell f.mfm (j + 1) (mark_byte f.data_mark) (f.old j))
    (field_put f (j - mark_place f.mfm))

-- from the ID's last cell to the FF
abbrev pub field_reach : Field → ℕ
field_reach f = mark_place f.mfm + f.size + 3

-- ---- numbers of both densities

pub record Numbers (mfm : Bool) : Type 0 where
  pub kept_first : last_kept mfm < last_zero mfm
  pub mark_last : last_zero mfm + lead_of mfm + 1 ≡ mark_place mfm
  pub near : mark_place mfm ≤ 38
  pub some : 10 ≤ last_kept mfm
  pub id_fits : lead_of mfm + 7 ≤ last_kept mfm

pub numbers : (mfm : Bool) → Numbers mfm
unfolding last_kept last_zero mark_place lead_of
numbers false =
    record { kept_first = omega arith; mark_last = refl; near = omega arith; some = omega arith; id_fits = omega arith }
numbers true =
    record { kept_first = omega arith; mark_last = refl; near = omega arith; some = omega arith; id_fits = omega arith }

-- "n + 10 or n + 19 cells in all"
pub in_all : (f : Field) → field_reach f ≡ last_kept f.mfm + (f.size + cond f.mfm 19 10)
unfolding last_kept last_zero mark_place lead_of
in_all f = by f.mfm
  where
    by : (mfm : Bool) → mark_place mfm + f.size + 3 ≡ last_kept mfm + (f.size + cond mfm 19 10)
    by false = omega arith
    by true = omega arith

-- ---- what stands where

module _ (f : Field) where
  -- "nothing written" before the first 00
  pub kept : (j : ℕ) → j < last_kept f.mfm → cell_of f j ≡ f.old j
  unfolding cell_of preamble_cell
  kept j h =
      let p = numbers f.mfm in
      simp (
        lt-ltb j (mark_place f.mfm) (omega (arith, p.kept_first, p.mark_last)),
        le-leb (j + 1) (last_kept f.mfm) (omega arith),
      )

  -- "six 00", "twelve 00"
  pub zeros : (j : ℕ) → last_kept f.mfm ≤ j → j < last_zero f.mfm → cell_of f j ≡ 0
  unfolding cell_of preamble_cell
  zeros j l h =
      let p = numbers f.mfm in
      simp (
        lt-ltb j (mark_place f.mfm) (omega (arith, p.mark_last)),
        lt-leb (j + 1) (last_kept f.mfm) (omega arith),
        le-leb (j + 1) (last_zero f.mfm) (omega arith),
      )

  -- "three flagged A1"
  pub leads : (j : ℕ) → last_zero f.mfm ≤ j → suc j < mark_place f.mfm → cell_of f j ≡ sync
  unfolding cell_of preamble_cell
  leads j l h =
      let p = numbers f.mfm in
      simp (
        lt-ltb j (mark_place f.mfm) (omega arith),
        lt-leb (j + 1) (last_kept f.mfm) (omega (arith, p.kept_first)),
        lt-leb (j + 1) (last_zero f.mfm) (omega arith),
        lt-ltb (j + 1) (mark_place f.mfm) (omega arith),
      )

  -- "flagged mark", "mark"
  pub marked : (j : ℕ) → suc j ≡ mark_place f.mfm → cell_of f j ≡ mark_cell f.mfm (mark_byte f.data_mark)
  unfolding cell_of preamble_cell
  marked j e =
      let p = numbers f.mfm in
      simp (
        lt-ltb j (mark_place f.mfm) (omega arith),
        lt-leb (j + 1) (last_kept f.mfm) (omega (arith, p.kept_first, p.mark_last)),
        lt-leb (j + 1) (last_zero f.mfm) (omega (arith, p.mark_last)),
        le-ltb (j + 1) (mark_place f.mfm) (omega arith),
      )

  -- after the mark
  pub put : (i : ℕ) → cell_of f (mark_place f.mfm + i) ≡ field_put f i
  unfolding cell_of
  put i =
      let e : mark_place f.mfm + i - mark_place f.mfm ≡ i = omega arith in
      simp (le-ltb (mark_place f.mfm + i) (mark_place f.mfm) (omega arith), e)

  pub put_data : (i : ℕ) → i < f.size → field_put f i ≡ f.bytes i
  unfolding field_put
  put_data i h = simp (lt-ltb i f.size h)

  pub put_high : field_put f f.size ≡ sum_of f / 256
  unfolding field_put
  put_high = simp (le-ltb f.size f.size (omega arith), eq-eqb f.size f.size refl)

  pub put_low : field_put f (f.size + 1) ≡ sum_of f % 256
  unfolding field_put
  put_low =
      simp (
        le-ltb (f.size + 1) f.size (omega arith),
        ne_eqb (f.size + 1) f.size (omega arith),
        eq-eqb (f.size + 1) (f.size + 1) refl,
      )

  pub put_last : field_put f (f.size + 2) ≡ 0xFF
  unfolding field_put
  put_last =
      simp (
        le-ltb (f.size + 2) f.size (omega arith),
        ne_eqb (f.size + 2) f.size (omega arith),
        ne_eqb (f.size + 2) (f.size + 1) (omega arith),
      )

  module _ (low : (i : ℕ) → i < f.size → f.bytes i < 256) where
    pub sum_word : sum_of f < 65536
    sum_word =
        let b = mark_byte_lem f.data_mark in
        sum_below _ f.bytes f.size (mark_word f.mfm (mark_byte f.data_mark) (omega (arith, b.1))) low

    -- no cell after the mark is flagged
    pub put_plain : (i : ℕ) → field_put f i < 256
    unfolding field_put
    put_plain i =
        let word : sum_of f < 65536 = sum_word in
        by_cond (λ (c : ℕ). c < 256) (ltb i f.size) (λ t. low i (ltb-true i f.size t))
        (λ t.
        by_cond (λ (c : ℕ). c < 256) (eqb i f.size) (λ e. omega arith)
        (λ e. by_cond (λ (c : ℕ). c < 256) (eqb i (f.size + 1)) (λ d. omega arith) (λ d. omega arith)))

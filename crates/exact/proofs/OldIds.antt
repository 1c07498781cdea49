-- A track that a Write Sector has written on has the IDs that it had before, and its own ID is one of them. Assumes nothing.
use mathlib.Core.Path.{◌≡◌, refl, sym, ap, ◌∙◌}
use mathlib.Core.List.{List}
use mathlib.Core.Logic.{◌⊎◌, inl, inr}
use Prim.Native.Nat.{ℕ, ◌+◌, ◌-◌, ◌%◌, ◌≤◌, ◌<◌}
use native.Mathlib.Nat.{mod-add-mod}
use native.Mathlib.Decide.{dec_lt}
use native.Mathlib.Omega.{arith}
use lib.ListN.{length, get_or}
use Rattle.scan.specs.Streams.{IdAt, id_width, id_from}
use Rattle.writing.specs.Writing.{last_kept}
use Rattle.fields.specs.Rings.{cells_of}
use Rattle.fields.proofs.Rings.{each_round}
use Rattle.hosts.proofs.RingLaws.{reached, id_moved, says_moved}
use Rattle.exact.proofs.SectorField.{Field, cell_of, field_reach, numbers, kept}
use Rattle.exact.proofs.OneMark.{Behind, no_id}

-- the field stands after the ID that stands from cell p on, and all else is as it was
pub record WrittenOver (before now : List ℕ) (p : ℕ) (f : Field) : Type 0 where
  pub same_length : length now ≡ length before
  pub inside : p < length before
  pub fits : id_width f.mfm + field_reach f ≤ length before
  pub inner : (j : ℕ) → j < field_reach f → cells_of now (p + id_width f.mfm + j) ≡ cell_of f j
  pub outer :
      (j : ℕ)
      → field_reach f ≤ j
      → j < length before
      → cells_of now (p + id_width f.mfm + j) ≡ cells_of before (p + id_width f.mfm + j)
  pub stood : (j : ℕ) → f.old j ≡ cells_of before (p + id_width f.mfm + j)

module _ (before now : List ℕ) (p : ℕ) (f : Field) (o : WrittenOver before now p f) where
  abbrev width : ℕ
  width = id_width f.mfm

  -- after the field, up to the ID's end in the next round
  far_same : (x : ℕ) → width + field_reach f ≤ x → x < length before + width → cells_of now (p + x) ≡ cells_of before (p + x)
  far_same x l h =
      let e : p + x ≡ p + width + (x - width) = omega arith in
      ap (cells_of now) e ∙ o.outer (x - width) (omega arith) (omega arith) ∙ ap (cells_of before) (sym e)

  -- from the ID's first cell to the last that is kept
  near_same : (x : ℕ) → x < width + last_kept f.mfm → cells_of now (p + x) ≡ cells_of before (p + x)
  near_same x l = by (dec_lt x width)
    where
      by : Dec (x < width) → cells_of now (p + x) ≡ cells_of before (p + x)
      by (yes h) =
          let e : p + (x + length before) ≡ p + x + length before = omega arith in
          let round : p + (x + length before) ≡ p + x + length now = omega (arith, o.same_length) in
          sym (ap (cells_of now) round ∙ each_round now (p + x))
          ∙ far_same (x + length before) (omega (arith, o.fits)) (omega arith)
          ∙ ap (cells_of before) e
          ∙ each_round before (p + x)
      by (no h) =
          let e : p + x ≡ p + width + (x - width) = omega arith in
          let n = numbers f.mfm in
          ap (cells_of now) e
          ∙ o.inner (x - width) (omega (arith, n.kept_first, n.mark_last))
          ∙ kept f (x - width) (omega arith)
          ∙ o.stood (x - width)
          ∙ ap (cells_of before) (sym e)

  -- "no other cell changed"
  pub others_kept :
      (j : ℕ)
      → j < length before
      → (j < last_kept f.mfm) ⊎ (field_reach f ≤ j)
      → cells_of now (p + width + j) ≡ cells_of before (p + width + j)
  others_kept j l (inl h) =
      let e : p + (width + j) ≡ p + width + j = omega arith in
      rw e at (near_same (width + j) (omega arith))
  others_kept j l (inr h) = o.outer j h l

  -- where no mark stood in the cells that were kept
  module _ (behind : Behind f (λ j. cells_of now (p + width + j))) where
    -- an ID has the cells that it had
    cells_same :
        (y : ℕ)
        → y < length before
        → IdAt f.mfm (cells_of now) (p + y)
        → (i : ℕ)
        → i < width
        → cells_of now (p + y + i) ≡ cells_of before (p + y + i)
    cells_same y l id i h = by (dec_lt y width) (dec_lt y (width + field_reach f))
      where
        e : p + (y + i) ≡ p + y + i
        e = omega arith

        by : Dec (y < width) → Dec (y < width + field_reach f) → cells_of now (p + y + i) ≡ cells_of before (p + y + i)
        by (yes a) d = rw (← e) (near_same (y + i) (omega (arith, (numbers f.mfm).id_fits)))
        by (no a) (no d) = rw (← e) (far_same (y + i) (omega arith) (omega arith))
        by (no a) (yes d) =
            absurd
            (no_id f (λ j. cells_of now (p + width + j)) behind (y - width) (omega arith)
            (id_moved f.mfm (cells_of now) (λ j. cells_of now (p + width + j)) (p + y) (y - width)
            (λ k r. ap (cells_of now) (omega arith)) id))

    -- an ID on the ring now stood there before, and said the same
    pub stood_before :
        (q : ℕ)
        → q < length before
        → IdAt f.mfm (cells_of now) q
        → IdAt f.mfm (cells_of before) q × (id_from f.mfm (cells_of now) q ≡ id_from f.mfm (cells_of before) q)
    unfolding cells_of
    stood_before q l id =
        let (y, near, here) = reached (length before) p o.inside q l in
        let from : (row : List ℕ) → length row ≡ length before → (i : ℕ) → cells_of row (q + i) ≡ cells_of row (p + y + i) =
        λ row e i.
        ap (λ (k : ℕ). get_or row ((k + i) % length row) 0) (sym here ∙ ap (λ (n : ℕ). (p + y) % n) (sym e))
        ∙ ap (λ (k : ℕ). get_or row k 0) (mod-add-mod (p + y) (length row) i) in
        let moved = from now o.same_length in
        let back = from before refl in
        let there = id_moved f.mfm (cells_of now) (cells_of now) q (p + y) (λ i r. moved i) id in
        let same = cells_same y near there in (
          id_moved f.mfm (cells_of before) (cells_of before) (p + y) q (λ i r. sym (back i))
              (id_moved f.mfm (cells_of now) (cells_of before) (p + y) (p + y) same there),
          says_moved f.mfm (cells_of now) (cells_of now) q (p + y) (λ i r. moved i)
              ∙ says_moved f.mfm (cells_of now) (cells_of before) (p + y) (p + y) same
              ∙ says_moved f.mfm (cells_of before) (cells_of before) (p + y) q (λ i r. sym (back i)),
        )

    -- its own ID stands there still, and says the same
    pub stands_still :
        IdAt f.mfm (cells_of before) p
        → IdAt f.mfm (cells_of now) p × (id_from f.mfm (cells_of now) p ≡ id_from f.mfm (cells_of before) p)
    stands_still id =
        let same : (i : ℕ) → i < width → cells_of before (p + i) ≡ cells_of now (p + i) =
        λ i l. sym (near_same i (omega arith)) in (
          id_moved f.mfm (cells_of before) (cells_of now) p p same id,
          sym (says_moved f.mfm (cells_of before) (cells_of now) p p same),
        )

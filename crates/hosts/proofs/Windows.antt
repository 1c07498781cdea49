-- A Read Sector after an ID: the window for the data mark. It is said of any record, from any byte time on. Assumes nothing.
use mathlib.Core.Path.{◌≡◌, refl, sym, ap, ◌∙◌, subst}
use mathlib.Core.Bool.{Bool, true, false}
use mathlib.Core.List.{List}
use Prim.Native.Nat.{ℕ, suc, ◌+◌, ◌-◌, ◌≤◌, ◌<◌}
use native.Mathlib.Decide.{dec_lt}
use native.Mathlib.Omega.{arith}
use Rattle.common.proofs.Cases.{never}
use Rattle.scan.specs.Marks.{mark_crc}
use Rattle.scan.specs.DataMarks.{data_mark_step, mark_byte, is_deleted, window_of}
use Rattle.scan.specs.Streams.{sought_past, sought_after, sought_at}
use Rattle.scan.specs.declared.DataMark.{DataMark}
use Rattle.scan.specs.declared.Sought.{Sought}
use Rattle.scan.specs.declared.Sought.TheVariants.{On, Met}
use Rattle.activity.specs.Limits.{busy_in}
use Rattle.activity.specs.declared.Activity.{Activity}
use Rattle.activity.specs.declared.Activity.TheVariants.{Idle, Window, Data}
use Rattle.activity.specs.declared.Deed.TheVariants.{Nothing, NotFound}
use Rattle.registers.specs.declared.Flags.{Flags}
use Rattle.hosts.specs.Bytes.{deed_at}
use Rattle.hosts.proofs.Keeps.{nothing_keeps}
use Rattle.hosts.proofs.Views.{View, Outside, cell_under}
use Rattle.hosts.proofs.ReadActs.{Does, window_on, window_met, window_lost}
use Rattle.hosts.proofs.Courses.{Course, desk_at, beside_at, Lasts}
use Rattle.hosts.proofs.Phases.{stands, Leaves, Stands, stands_lasts, deed_is, passes_on, loses_on, lasts_from, bit_stays}
use Rattle.hosts.proofs.Passing.{OnTrack, stream_from, cell_at}

-- ---- the data mark

-- the scanner says that a data mark ends
unfoldable pub is_met : Sought → Bool
is_met (On run) = false
is_met (Met mark) = true

pub which_mark : (sought : Sought) → is_met sought ≡ true → (mark : DataMark) × (sought ≡ Met mark)
unfolding is_met
which_mark (On run) e = never (cc)
which_mark (Met mark) e = (mark, refl)

pub unmet_by : (sought : Sought) → ((mark : DataMark) → sought ≡ Met mark → ⊥) → is_met sought ≡ false
unfolding is_met
unmet_by (On run) none = refl
unmet_by (Met mark) none = absurd (none mark refl)

unmet : (sought : Sought) → is_met sought ≡ false → sought ≡ On (sought_past sought)
unfolding is_met sought_past
unmet (On run) e = refl
unmet (Met mark) e = never (cc)

-- none ends with the first n cells
abbrev pub NoMarkIn : Bool → (ℕ → ℕ) → ℕ → Type 0
NoMarkIn mfm cells n = (k : ℕ) → k < n → is_met (sought_at mfm cells k) ≡ false

pub window_some : (mfm : Bool) → 0 < window_of mfm
unfolding window_of
window_some true = omega arith
window_some false = omega arith

-- the first in the window after an ID: its byte is cell u there, counted from 0
pub record FirstMarkIn (mfm : Bool) (cells : ℕ → ℕ) (mark : DataMark) (u : ℕ) : Type 0 where
  pub near : u < window_of mfm
  pub none : NoMarkIn mfm cells u
  pub met : sought_at mfm cells u ≡ Met mark

-- ---- the window

-- the cells from j byte times after a view on
abbrev pub cells_after : View → ℕ → ℕ → ℕ
cells_after v j i = stream_from v (j + i)

-- A command that has come to the window of a record j byte times after byte time t, with so many data cells to come.
pub record Opened {Rows : List ℕ → Type 0} (c : Course Rows) (t : ℕ) (v : View) (j size : ℕ) : Type 0 where
  pub track : OnTrack v
  pub rows : Rows v.row
  pub begins : Stands c t v j v.missing (Window (size + 2) 0 0)

module _ {Rows : List ℕ → Type 0} {c : Course Rows} {t : ℕ} {v : View} {j size : ℕ} (r : Opened c t v j size) where
  abbrev cells : ℕ → ℕ
  cells = cells_after v j

  -- n cells of the window have passed
  abbrev window_at : ℕ → Activity
  window_at n = Window (size + 2) n (sought_after v.mfm cells n)

  module _ (n : ℕ) (o : Outside) where
    abbrev waiting : View
    waiting = stands v (j + n) v.missing (window_at n)

    seeks : data_mark_step v.mfm (cell_under waiting) (sought_after v.mfm cells n) ≡ sought_at v.mfm cells n
    seeks = ap (λ (cell : ℕ). data_mark_step v.mfm cell (sought_after v.mfm cells n)) (cell_at v r.track (j + n))

    module _ (none : is_met (sought_at v.mfm cells n) ≡ false) where
      misses :
          data_mark_step v.mfm (cell_under waiting) (sought_after v.mfm cells n) ≡ On (sought_after v.mfm cells (suc n))
      unfolding sought_after
      misses = seeks ∙ unmet (sought_at v.mfm cells n) none

      awaits_act : suc n < window_of v.mfm → Does waiting o (window_at (suc n)) Nothing
      awaits_act = window_on waiting o (size + 2) n _ refl _ misses

      misses_act : suc n ≡ window_of v.mfm → Does waiting o Idle NotFound
      misses_act = window_lost waiting o (size + 2) n _ refl _ misses

    meets_act :
        (mark : DataMark)
        → sought_at v.mfm cells n ≡ Met mark
        → Does waiting o (Data (size + 2) (mark_crc v.mfm (mark_byte mark)) (is_deleted mark)) Nothing
    meets_act mark e = window_met waiting o (size + 2) n _ refl mark (seeks ∙ e)

  awaits : (n : ℕ) → n < window_of v.mfm → NoMarkIn v.mfm cells n → Stands c t v (j + n) v.missing (window_at n)
  unfolding busy_in sought_after
  awaits n within none =
      lasts_from c t v r.rows j window_at n (λ k l. refl)
      (λ k l o same.
      record { deed = Nothing; acts = awaits_act k o (none k l) (omega arith); keeps = nothing_keeps })
      r.begins

  window_lasts :
      (n : ℕ) → n < window_of v.mfm → NoMarkIn v.mfm (cells_after v j) n → Lasts c v.row (t + (j + n))
  unfolding busy_in
  window_lasts n within none = stands_lasts c t v (awaits n within none) refl

  -- so it lasts from byte time t on, where it has lasted up to the window
  pub opened_lasts :
      ((k : ℕ) → k < j → Lasts c v.row (t + k))
      → (n : ℕ)
      → n < window_of v.mfm
      → NoMarkIn v.mfm (cells_after v j) n
      → (k : ℕ)
      → k < suc (j + n)
      → Lasts c v.row (t + k)
  opened_lasts before n within none k l = by (dec_lt k j)
    where
      by : Dec (k < j) → Lasts c v.row (t + k)
      by (yes h) = before k h
      by (no h) =
          let e : j + (k - j) ≡ k = omega arith in
          rw e at (window_lasts (k - j) (omega arith) (λ i g. none i (omega arith)))

  -- "No data mark by the window's last cell: bit 4, end there."
  pub unmarked : NoMarkIn v.mfm (cells_after v j) (window_of v.mfm) → Stands c t v (j + window_of v.mfm) true Idle
  unfolding busy_in
  unmarked none =
      let last : ℕ = window_of v.mfm - 1 in
      let one : suc last ≡ window_of v.mfm = omega (arith, window_some v.mfm) in
      let e : suc (j + last) ≡ j + window_of v.mfm = omega arith in
      rw e at
      (loses_on c t v r.rows (awaits last (omega arith) (λ k l. none k (omega arith))) refl
      (misses_act last (beside_at c (t + (j + last))) (none last (omega arith)) one))

  -- the status bits that both its deeds leave stay
  pub unmarked_bit :
      NoMarkIn v.mfm (cells_after v j) (window_of v.mfm)
      → (bit : Flags → Bool)
      → Leaves bit Nothing
      → Leaves bit NotFound
      → bit (desk_at c (t + (j + window_of v.mfm))).machine.flags ≡ bit (desk_at c (t + j)).machine.flags
  unfolding busy_in
  unmarked_bit none bit waits fails =
      bit_stays c t v r.rows bit j window_at (window_of v.mfm)
      (λ k l. awaits k l (λ i h. none i (omega arith))) (λ k l. refl) (λ k l. leaves k l (dec_lt (suc k) (window_of v.mfm)))
    where
      leaves : (k : ℕ) → k < window_of v.mfm → Dec (suc k < window_of v.mfm) → Leaves bit (deed_at c.host c.desk (t + (j + k)))
      leaves k l (yes more) =
          subst (Leaves bit)
          (sym
          (deed_is c t v (awaits k l (λ i h. none i (omega arith))) refl r.rows
          (awaits_act k (beside_at c (t + (j + k))) (none k l) more)))
          waits
      leaves k l (no last) =
          subst (Leaves bit)
          (sym
          (deed_is c t v (awaits k l (λ i h. none i (omega arith))) refl r.rows
          (misses_act k (beside_at c (t + (j + k))) (none k l) (omega arith))))
          fails

  -- the data mark, and nothing moves up to it
  module _ (u : ℕ) (mark : DataMark) (first : FirstMarkIn v.mfm (cells_after v j) mark u) where
    pub marked :
        Stands c t v (j + suc u) v.missing (Data (size + 2) (mark_crc v.mfm (mark_byte mark)) (is_deleted mark))
    unfolding busy_in
    marked =
        let e : suc (j + u) ≡ j + suc u = omega arith in
        rw e at
        (passes_on c t v r.rows (awaits u first.near first.none) refl
        (record { deed = Nothing; acts = meets_act u _ mark first.met; keeps = nothing_keeps }))

    pub awaits_deed : (n : ℕ) → n ≤ u → deed_at c.host c.desk (t + (j + n)) ≡ Nothing
    unfolding busy_in
    awaits_deed n l = by (dec_lt n u)
      where
        here : Stands c t v (j + n) v.missing (window_at n)
        here = awaits n (omega (arith, first.near)) (λ k h. first.none k (omega arith))

        by : Dec (n < u) → deed_at c.host c.desk (t + (j + n)) ≡ Nothing
        by (yes h) =
            deed_is c t v here refl r.rows
            (awaits_act n (beside_at c (t + (j + n))) (first.none n h) (omega (arith, first.near)))
        by (no h) =
            let e : u ≡ n = omega arith in
            deed_is c t v here refl r.rows
            (meets_act n (beside_at c (t + (j + n))) mark (rw e at first.met))

    -- so the status bits stay up to it
    pub window_bit :
        (bit : Flags → Bool)
        → Leaves bit Nothing
        → bit (desk_at c (t + (j + suc u))).machine.flags ≡ bit (desk_at c (t + j)).machine.flags
    unfolding busy_in
    window_bit bit leaves =
        bit_stays c t v r.rows bit j window_at (suc u)
        (λ k l. awaits k (omega (arith, first.near)) (λ i h. first.none i (omega arith))) (λ k l. refl)
        (λ k l. subst (Leaves bit) (sym (awaits_deed k (omega arith))) leaves)

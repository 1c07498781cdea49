-- A single Write Sector after its ID, to its end: the row that it leaves, and what it took. Assumes nothing.
use mathlib.Core.Path.{◌≡◌, refl, sym, ap, ◌∙◌}
use mathlib.Core.Bool.{Bool, true, false, cond, ◌&&◌, or-true}
use mathlib.Core.List.{List}
use Prim.Native.Nat.{ℕ, zero, suc, ◌+◌, ◌-◌, ◌%◌, ◌≤◌, ◌<◌}
use native.Mathlib.Nat.{add-zero, add-suc, mod-lt}
use native.Mathlib.Omega.{arith}
use lib.Dec.{leb, eqb}
use lib.ListN.{length, get_or}
use borrow.Author.Tests.{lt-ltb, le-ltb, le-leb}
use Rattle.common.specs.Laid.{laid_row}
use Rattle.common.proofs.Cases.{by_cond, never}
use Rattle.common.proofs.Laid.{Places, laid_out}
use Rattle.command.specs.Bits.{is_multiple, mark_written}
use Rattle.scan.specs.Marks.{mark_crc}
use Rattle.activity.specs.Limits.{busy_in}
use Rattle.activity.specs.Acts.{write, taken_of}
use Rattle.activity.specs.declared.Activity.{Activity}
use Rattle.activity.specs.declared.Activity.TheVariants.{Idle, Preamble, Put}
use Rattle.activity.specs.declared.Deed.{Deed}
use Rattle.activity.specs.declared.Deed.TheVariants.{Nothing, Written, Late, Take}
use Rattle.search.specs.Search.{after_record}
use Rattle.writing.specs.Writing.{mark_place, preamble_cell, preamble_next, preamble_deed, preamble_turn, put_cell}
use Rattle.act.specs.Turns.{begun_activity, activity_act, act_of}
use Rattle.registers.specs.declared.Flags.{Flags}
use Rattle.effects.proofs.Apart.{flags_after}
use Rattle.wd.proofs.Valid.{Held}
use Rattle.reachable.specs.ByteTimes.{turns_on}
use Rattle.reachable.proofs.Counts.{turns_position}
use Rattle.hosts.specs.Hosts.{AloneUntil, EndsAt}
use Rattle.hosts.specs.Bytes.{deed_at}
use Rattle.hosts.proofs.DataFields.{sum_after}
use Rattle.hosts.proofs.Views.{View, act_in}
use Rattle.hosts.proofs.ByteTimes.{lost_later}
use Rattle.hosts.proofs.Courses.{Course, desk_at, beside_at, AnyRow, ends_there}
use Rattle.hosts.proofs.Phases.{comes, Comes, Stands, comes_busy, writes_on, flags_on, deed_is}
use Rattle.hosts.proofs.Keeps.{Keeps, nothing_keeps, ask_keeps, take_keeps, late_keeps, written_keeps}
use Rattle.exact.proofs.WrittenMarks.{written_had}
use Rattle.exact.proofs.RoundPlaces.{round_apart}
use Rattle.exact.proofs.SectorField.{Field, cell_of, field_reach, numbers, put, put_data, put_high, put_low, put_last}
use Rattle.effects.specs.Effects.{effect_of, delivered, address_named, record_over, record_read, cell_taken, stepped, halted}
use Rattle.scan.specs.DataMarks.{mark_byte}

asks_keeps : (n : ℕ) → Keeps (preamble_deed n)
unfolding preamble_deed
asks_keeps n = by_cond Keeps (eqb n 2) (λ e. ask_keeps true) (λ e. nothing_keeps)

-- ---- the write

-- a write that has found its ID: in byte time t it begins its field, and it ends with Lost Data off
pub record WriteBegun (c : Course AnyRow) (n t size : ℕ) (v : View) : Type 0 where
  pub alone : AloneUntil c.host c.desk n
  pub ends : EndsAt c.host c.desk n
  pub upto : (k : ℕ) → c.going.within k ≡ true → k ≤ n
  pub start : Stands c t v 0 v.missing (Preamble (size + 3) 0)
  pub whole : length v.row ≡ v.ring.length
  pub held : Held v.ring
  pub short : size ≤ 1024
  pub single : is_multiple v.order.byte ≡ false
  pub served : (desk_at c n).machine.flags.lost ≡ false

module _ {n : ℕ} (c : Course AnyRow) (t size : ℕ) (v : View) (b : WriteBegun c n t size v) where
  -- the first place after the mark
  abbrev mark : ℕ
  mark = mark_place v.mfm

  abbrev pub place : ℕ → ℕ
  place j = (turns_on j v.ring).position

  -- the byte that goes to data cell i
  abbrev pub took : ℕ → ℕ
  took i = let o = beside_at c (t + (mark + i)) in cond o.drq 0x00 o.dr

  abbrev pub field : Field
  field =
      record {
        mfm = v.mfm;
        data_mark = mark_written v.order.byte;
        of_density = written_had v.mfm v.order.byte;
        size = size;
        bytes = took;
        old = λ j. get_or v.row (place j) 0;
      }

  -- the row with so many cells of it laid
  abbrev pub row_with : ℕ → List ℕ
  row_with j = laid_row v.row place (cell_of field) j

  -- what byte time t + j does to the field's cell j
  abbrev Does : ℕ → (a next : Activity) → Deed → Type 0
  Does j a next deed = act_in (comes v j (row_with j) v.missing a) (beside_at c (t + j)) ≡ write (cell_of field j) next deed

  -- so many cells of it are laid, and the write is doing this
  abbrev Writes : ℕ → Activity → Type 0
  Writes j a = Comes c t v j (row_with j) v.missing a

  lays_on : (j : ℕ) {a next : Activity} {deed : Deed}
      → Writes j a
      → busy_in a ≡ true
      → Does j a next deed
      → Keeps deed
      → Writes (suc j) next
  unfolding laid_row
  lays_on j is busy act keeps = writes_on c t v is busy tt act keeps

  -- where it comes to be idle it is over
  over_there : (j : ℕ) {a : Activity} {row : List ℕ}
      → Writes j a
      → busy_in a ≡ true
      → Comes c t v (suc j) row v.missing Idle
      → t + suc j ≡ n
  unfolding busy_in
  over_there j is busy idle =
      rw (add-suc t j)
      (ends_there c.host c.desk n b.ends (t + j) (b.upto (t + j) is.inside) (comes_busy c t v is busy)
      (rw (add-suc t j) at (ap (λ (w : View). busy_in w.activity) idle.view)))

  -- ---- the places

  reach_fits : field_reach field < length v.row
  reach_fits = omega (arith, b.held.least, b.whole, b.short, (numbers v.mfm).near)

  pub places : Places v.row place (field_reach field)
  places =
      record {
        inside =
            λ i l.
            rw (at_place i)
            (omega (arith, mod-lt (v.ring.position + i) {m = v.ring.length} (omega arith), b.whole));
        apart =
            λ i k l h e.
            round_apart v.ring.length v.ring.position i k b.held.inside l (omega (arith, reach_fits, b.whole))
            (sym (at_place i) ∙ e ∙ at_place k);
      }
    where
      at_place : (j : ℕ) → place j ≡ (v.ring.position + j) % v.ring.length
      at_place j = turns_position j v.ring b.held.inside

  -- a cell that is not laid yet stands as it was
  ahead : (j : ℕ) → j < field_reach field → get_or (row_with j) (place j) 0 ≡ get_or v.row (place j) 0
  ahead j l = laid_out v.row place (cell_of field) j (place j) 0 (λ i h e. places.apart i j h l (sym e))

  -- ---- up to the mark

  -- "Still on at 10: Lost Data, end": it was not
  not_late :
      (j : ℕ)
      → Writes j (Preamble (size + 3) j)
      → (eqb (j + 1) 10 && (beside_at c (t + j)).drq) ≡ false
  unfolding act_of begun_activity activity_act preamble_turn busy_in flags_after effect_of delivered address_named record_over record_read cell_taken stepped halted
  not_late j is = by (eqb (j + 1) 10 && (beside_at c (t + j)).drq) refl
    where
      by : (late : Bool)
          → (eqb (j + 1) 10 && (beside_at c (t + j)).drq) ≡ late
          → (eqb (j + 1) 10 && (beside_at c (t + j)).drq) ≡ false
      by false e = e
      by true e =
          let act :
          act_in (comes v j (row_with j) v.missing (Preamble (size + 3) j)) (beside_at c (t + j))
          ≡ write (get_or (row_with j) (place j) 0) Idle Late = simp e in
          let end : t + suc j ≡ n = over_there j is refl (writes_on c t v is refl tt act late_keeps) in
          let lost : (desk_at c (t + suc j)).machine.flags.lost ≡ true =
          ap (λ (f : Flags). f.lost) (flags_on c t v is refl tt act) in
          let z : true ≡ false = sym lost ∙ rw end b.served in
          never (cc)

  -- what a byte time up to the mark does
  prepares_act :
      (j : ℕ) (next : Activity)
      → j < mark
      → Writes j (Preamble (size + 3) j)
      → preamble_next v.mfm (size + 3) (j + 1) (mark_byte field.data_mark) ≡ next
      → Does j (Preamble (size + 3) j) next (preamble_deed (j + 1))
  unfolding act_of begun_activity activity_act preamble_turn cell_of
  prepares_act j next l is e =
      simp (not_late j is, ahead j (omega arith), lt-ltb j mark l)
      (ap
      (λ (a : Activity).
      write (preamble_cell v.mfm (j + 1) (mark_byte field.data_mark) (field.old j)) a (preamble_deed (j + 1)))
      e)

  prepares : (j : ℕ) → j < mark → Writes j (Preamble (size + 3) j)
  unfolding laid_row preamble_next busy_in
  prepares zero l = b.start
  prepares (suc j) l =
      let before = prepares j (omega arith) in
      let one : j + 1 ≡ suc j = omega arith in
      lays_on j before refl
      (prepares_act j (Preamble (size + 3) (suc j)) (omega arith) before
      (rw one (simp (lt-ltb (suc j) mark l))))
      (asks_keeps (j + 1))

  -- ---- after the mark

  -- the register after the mark and i data bytes
  abbrev register : ℕ → ℕ
  register i = sum_after (mark_crc v.mfm (mark_byte field.data_mark)) took i

  begins_from :
      (j : ℕ) → mark ≡ suc j → Writes (suc j) (Put (size + 3) (mark_crc v.mfm (mark_byte field.data_mark)))
  unfolding preamble_next busy_in
  begins_from j e =
      let before = prepares j (omega arith) in
      lays_on j before refl
      (prepares_act j (Put (size + 3) (mark_crc v.mfm (mark_byte field.data_mark))) (omega arith) before
      (simp (le-ltb (j + 1) mark (omega arith))))
      (asks_keeps (j + 1))

  -- i cells after the mark
  abbrev Puts : ℕ → ℕ → ℕ → Type 0
  Puts i left crc = Writes (mark + i) (Put left crc)

  begins : Puts 0 (size + 3) (register 0)
  unfolding sum_after
  begins =
      let e : suc (mark - 1) ≡ mark = omega (arith, (numbers v.mfm).mark_last) in
      rw (add-zero mark) (rw e at (begins_from (mark - 1) (sym e)))

  -- one of them
  puts_on :
      (i : ℕ) {left crc next sum : ℕ} {deed : Deed}
      → Puts i left crc
      → Does (mark + i) (Put left crc) (Put next sum) deed
      → Keeps deed
      → Puts (suc i) next sum
  unfolding busy_in
  puts_on i is act keeps = rw (add-suc mark i) (lays_on (mark + i) is refl act keeps)

  -- "Each data cell takes DR, or 00 .. if DRQ is on .. then DRQ is on, but off after the last."
  takes_act :
      (i : ℕ)
      → i < size
      → Does (mark + i) (Put (size + 3 - i) (register i)) (Put (size + 3 - suc i) (register (suc i)))
      (Take (leb 5 (size + 3 - i)))
  unfolding act_of begun_activity activity_act put_cell taken_of sum_after
  takes_act i l =
      let e : size + 3 - i - 1 ≡ size + 3 - suc i = omega arith in
      simp (le-leb 4 (size + 3 - i) (omega arith), e, put field i, put_data field i l)

  takes : (i : ℕ) → i ≤ size → Puts i (size + 3 - i) (register i)
  takes zero l = let e : size + 3 - 0 ≡ size + 3 = omega arith in rw e begins
  takes (suc i) l =
      puts_on i (takes i (omega arith)) (takes_act i (omega arith)) (take_keeps (leb 5 (size + 3 - i)))

  -- where the head is then
  pub takes_ring :
      (i : ℕ)
      → i ≤ size
      → (desk_at c (t + (mark + i))).machine.ring ≡ turns_on (mark + i) v.ring
  takes_ring i l = ap (λ (w : View). w.ring) (takes i l).view

  -- "two CRC bytes, one FF"
  high_act : Does (mark + size) (Put 3 (register size)) (Put 2 (register size)) Nothing
  unfolding act_of begun_activity activity_act put_cell
  high_act = rw (put field size ∙ put_high field) refl

  crc_due : Puts size 3 (register size)
  crc_due =
      let three : size + 3 - size ≡ 3 = omega arith in
      rw three at (takes size (omega arith))

  high : Puts (size + 1) 2 (register size)
  high =
      let one : suc size ≡ size + 1 = omega arith in
      rw one at (puts_on size crc_due high_act nothing_keeps)

  low_act : Does (mark + (size + 1)) (Put 2 (register size)) (Put 1 (register size)) Nothing
  unfolding act_of begun_activity activity_act put_cell
  low_act = rw (put field (size + 1) ∙ put_low field) refl

  low : Puts (size + 2) 1 (register size)
  low =
      let two : suc (size + 1) ≡ size + 2 = omega arith in
      rw two at (puts_on (size + 1) high low_act nothing_keeps)

  last_act : Does (mark + (size + 2)) (Put 1 (register size)) Idle (Written false)
  unfolding act_of begun_activity activity_act put_cell after_record
  last_act = simp (b.single, put field (size + 2), put_last field)

  -- ---- its end

  -- "The FF ends it."
  ended : Writes (field_reach field) Idle
  unfolding busy_in
  ended =
      let e : suc (mark + (size + 2)) ≡ field_reach field = omega arith in
      rw e at (lays_on (mark + (size + 2)) low refl last_act written_keeps)

  pub written_over : t + field_reach field ≡ n
  unfolding busy_in
  written_over =
      let e : suc (mark + (size + 2)) ≡ field_reach field = omega arith in
      rw e at (over_there (mark + (size + 2)) low refl (lays_on (mark + (size + 2)) low refl last_act written_keeps))

  pub written_row : (desk_at c (n)).row ≡ row_with (field_reach field)
  written_row =
      ap (λ (k : ℕ). (desk_at c k).row) (sym written_over) ∙ ap (λ (w : View). w.row) ended.view

  -- no data cell was late: Lost Data would have stayed
  pub in_time : (i : ℕ) → i < size → (beside_at c (t + (mark + i))).drq ≡ false
  unfolding flags_after busy_in effect_of delivered address_named record_over record_read cell_taken stepped halted
  in_time i l = by (beside_at c (t + (mark + i))).drq refl
    where
      by : (drq : Bool)
          → (beside_at c (t + (mark + i))).drq ≡ drq
          → (beside_at c (t + (mark + i))).drq ≡ false
      by false e = e
      by true e =
          let k : ℕ = t + suc (mark + i) in
          let lost : (desk_at c (t + suc (mark + i))).machine.flags.lost ≡ true =
          ap (λ (f : Flags). f.lost)
          (flags_on c t v (takes i (omega arith)) refl tt (takes_act i l))
          ∙ rw e (or-true (desk_at c (t + (mark + i))).machine.flags.lost) in
          let q : k + (n - k) ≡ n = omega (arith, written_over) in
          let later = lost_later c.host c.desk (n - k) k (λ i least most. b.alone i (omega arith)) lost in
          let z : true ≡ false = sym (rw q at later) ∙ b.served in
          never (cc)

  -- so each takes DR
  pub took_dr : (i : ℕ) → i < size → took i ≡ (beside_at c (t + (mark + i))).dr
  took_dr i l =
      ap (λ (drq : Bool). cond drq 0x00 (beside_at c (t + (mark + i))).dr) (in_time i l)

  -- ---- what each byte time does

  abbrev deed : ℕ → Deed
  deed j = deed_at c.host c.desk (t + j)

  pub asks_deed : (j : ℕ) → j < mark → deed j ≡ preamble_deed (j + 1)
  unfolding busy_in
  asks_deed j l =
      deed_is c t v (prepares j l) refl tt
      (prepares_act j (preamble_next v.mfm (size + 3) (j + 1) (mark_byte field.data_mark)) l (prepares j l) refl)

  pub take_deed : (i : ℕ) → i < size → deed (mark + i) ≡ Take (leb 5 (size + 3 - i))
  unfolding busy_in
  take_deed i l = deed_is c t v (takes i (omega arith)) refl tt (takes_act i l)

  pub high_deed : deed (mark + size) ≡ Nothing
  unfolding busy_in
  high_deed = deed_is c t v crc_due refl tt high_act

  pub low_deed : deed (mark + (size + 1)) ≡ Nothing
  unfolding busy_in
  low_deed = deed_is c t v high refl tt low_act

  pub last_deed : deed (mark + (size + 2)) ≡ Written false
  unfolding busy_in
  last_deed = deed_is c t v low refl tt last_act

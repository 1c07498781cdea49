-- A Read Sector after a data mark: the data field, the two CRC cells, and the end of the record or the search after it. It is
-- said of any record, from any byte time on, and whatever its CRC is. Assumes nothing.
use mathlib.Core.Path.{◌≡◌, refl, sym, ap, ap₂, ◌∙◌, subst}
use mathlib.Core.Bool.{Bool, true, false, not, ◌||◌, or-false}
use mathlib.Core.List.{List}
use Prim.Native.Nat.{ℕ, suc, ◌+◌, ◌-◌, ◌≤◌, ◌<◌}
use native.Mathlib.Decide.{dec_lt}
use native.Mathlib.Omega.{arith}
use lib.Dec.{eqb}
use lib.Seq.{set-get_or}
use Rattle.crc.specs.Crc.{crc_byte}
use Rattle.scan.specs.Marks.{byte_of}
use Rattle.command.specs.Bits.{is_multiple}
use Rattle.activity.specs.Acts.{pass}
use Rattle.activity.specs.Limits.{busy_in}
use Rattle.activity.specs.declared.Act.{Act}
use Rattle.activity.specs.declared.Activity.{Activity}
use Rattle.activity.specs.declared.Activity.TheVariants.{Idle, Data}
use Rattle.activity.specs.declared.Deed.TheVariants.{Nothing, Deliver, Record}
use Rattle.registers.specs.declared.Flags.{Flags}
use Rattle.search.specs.Search.{afresh, after_record}
use Rattle.reading.specs.Reading.{record_follows}
use Rattle.effects.proofs.Apart.{regs_after, flags_after}
use Rattle.effects.specs.Effects.{raised_sr, effect_of, delivered, address_named, record_over, record_read, cell_taken, stepped, halted}
use Rattle.reachable.specs.ByteTimes.{turns_on}
use Rattle.hosts.specs.Bytes.{deed_at}
use Rattle.hosts.proofs.DataFields.{sum_after}
use Rattle.hosts.proofs.Keeps.{nothing_keeps, deliver_keeps, record_keeps}
use Rattle.hosts.proofs.Views.{View, view_with, view_of, loses, Outside, cell_under, seen_in}
use Rattle.hosts.proofs.ReadActs.{Does, data_on, crc_on, crc_end}
use Rattle.hosts.proofs.Courses.{Course, desk_at, beside_at, Lasts}
use Rattle.hosts.proofs.Phases.{stands, PassesTo, Leaves, Stands, stands_lasts, deed_is, flags_on, acts_within, acts_on, passes_on, lasts_from, bit_stays}
use Rattle.hosts.proofs.Passing.{OnTrack, cell_at}
use Rattle.hosts.proofs.Windows.{cells_after}

-- A command that has come to the data field of a record m byte times after byte time t.
pub record Marked {Rows : List ℕ → Type 0} (c : Course Rows) (t : ℕ) (v : View) (m size crc : ℕ) (deleted : Bool) : Type 0
  where
    pub track : OnTrack v
    pub rows : Rows v.row
    pub begins : Stands c t v m v.missing (Data (size + 2) crc deleted)

-- the byte of its cell i, and the register after the first i of them
abbrev pub byte_after : View → ℕ → ℕ → ℕ
byte_after v m i = byte_of (cells_after v m i)

abbrev pub register_after : View → ℕ → ℕ → ℕ → ℕ
register_after v m crc = sum_after crc (byte_after v m)

-- n byte times on, with SR raised and a search begun
abbrev pub raised_in : View → ℕ → View
raised_in v n = view_with v v.row (turns_on n v.ring) v.tr (raised_sr v.sr true) v.missing (afresh 0)

module _ {Rows : List ℕ → Type 0} {c : Course Rows} {t : ℕ} {v : View} {m size crc : ℕ} {deleted : Bool}
    (r : Marked c t v m size crc deleted) where
  -- i cells of the field have passed; the two CRC cells are of it
  abbrev data_at : ℕ → Activity
  data_at i = Data (size + 2 - i) (register_after v m crc i) deleted

  module _ (i : ℕ) (o : Outside) where
    abbrev reading : View
    reading = stands v (m + i) v.missing (data_at i)

    same_byte : byte_of (cell_under reading) ≡ byte_after v m i
    same_byte = ap byte_of (cell_at v r.track (m + i))

    -- "Each data byte, flags ignored, goes to DR"
    hands_act : i < size → Does reading o (data_at (suc i)) (Deliver (byte_after v m i))
    unfolding sum_after
    hands_act l =
        data_on reading o (size + 2 - i) _ deleted refl (size + 2 - suc i) (omega arith) (omega arith)
        ∙ ap (λ (b : ℕ).
        pass (seen_in reading o) (Data (size + 2 - suc i) (crc_byte (register_after v m crc i) b) deleted) (Deliver b))
        same_byte

    -- the first CRC cell
    first_act : i ≡ size → Does reading o (data_at (suc i)) Nothing
    unfolding sum_after
    first_act e =
        crc_on reading o (size + 2 - i) _ deleted refl (omega arith)
        ∙ ap₂ (λ (left b : ℕ). pass (seen_in reading o) (Data left (crc_byte (register_after v m crc i) b) deleted) Nothing)
        (omega arith) same_byte

    -- and the second
    last_act :
        i ≡ suc size
        → Does reading o (after_record (record_follows (is_multiple v.order.byte) (register_after v m crc (suc i))))
        (Record deleted (not (eqb (register_after v m crc (suc i)) 0))
        (record_follows (is_multiple v.order.byte) (register_after v m crc (suc i))))
    unfolding sum_after
    last_act e =
        crc_end reading o (size + 2 - i) _ deleted refl (omega arith)
        ∙ ap (λ (b : ℕ). ended (crc_byte (register_after v m crc i) b)) same_byte
      where
        -- with this register after its CRC
        ended : ℕ → Act
        ended sum =
            pass (seen_in reading o) (after_record (record_follows (is_multiple v.order.byte) sum))
            (Record deleted (not (eqb sum 0)) (record_follows (is_multiple v.order.byte) sum))

    reads_act : i < suc size → PassesTo reading o (data_at (suc i))
    reads_act l = by (dec_lt i size)
      where
        by : Dec (i < size) → PassesTo reading o (data_at (suc i))
        by (yes h) = record { deed = Deliver (byte_after v m i); acts = hands_act h; keeps = deliver_keeps _ }
        by (no h) = record { deed = Nothing; acts = first_act (omega arith); keeps = nothing_keeps }

  reads : (i : ℕ) → i ≤ suc size → Stands c t v (m + i) v.missing (data_at i)
  unfolding busy_in sum_after
  reads i l =
      let none : size + 2 ≡ size + 2 - 0 = omega arith in
      lasts_from c t v r.rows m data_at i (λ k h. refl) (λ k h o same. reads_act k o (omega arith))
      (subst (λ (left : ℕ). Stands c t v m v.missing (Data left crc deleted)) none r.begins)

  data_lasts : (i : ℕ) → i < size + 2 → Lasts c v.row (t + (m + i))
  unfolding busy_in
  data_lasts i l = stands_lasts c t v (reads i (omega arith)) refl

  -- so it lasts from byte time t on, where it has lasted up to the data field
  pub record_lasts :
      ((k : ℕ) → k < m → Lasts c v.row (t + k)) → (k : ℕ) → k < m + (size + 2) → Lasts c v.row (t + k)
  record_lasts before k l = by (dec_lt k m)
    where
      by : Dec (k < m) → Lasts c v.row (t + k)
      by (yes h) = before k h
      by (no h) =
          let e : m + (k - m) ≡ k = omega arith in
          rw e at (data_lasts (k - m) (omega arith))

  -- where the head is then
  pub data_ring : (i : ℕ) → i ≤ size → (desk_at c (t + (m + i))).machine.ring ≡ turns_on (m + i) v.ring
  data_ring i l = ap (λ (w : View). w.ring) (reads i (omega arith)).view

  -- ---- what each byte time does

  pub hands_deed : (i : ℕ) → i < size → deed_at c.host c.desk (t + (m + i)) ≡ Deliver (byte_after v m i)
  unfolding busy_in
  hands_deed i l = deed_is c t v (reads i (omega arith)) refl r.rows (hands_act i _ l)

  pub first_deed : deed_at c.host c.desk (t + (m + size)) ≡ Nothing
  unfolding busy_in
  first_deed = deed_is c t v (reads size (omega arith)) refl r.rows (first_act size _ refl)

  -- the register after its CRC, and whether another record follows
  abbrev pub closing : ℕ
  closing = register_after v m crc (suc (suc size))

  abbrev pub follows : Bool
  follows = record_follows (is_multiple v.order.byte) (register_after v m crc (suc (suc size)))

  pub last_deed :
      deed_at c.host c.desk (t + (m + suc size))
      ≡ Record deleted (not (eqb (register_after v m crc (suc (suc size))) 0))
      (record_follows (is_multiple v.order.byte) (register_after v m crc (suc (suc size))))
  unfolding busy_in
  last_deed = deed_is c t v (reads (suc size) (omega arith)) refl r.rows (last_act (suc size) _ refl)

  -- what it leaves in the status bits
  pub record_flags :
      (desk_at c (t + (m + (size + 2)))).machine.flags
      ≡ flags_after (desk_at c (t + (m + suc size))).machine.flags (beside_at c (t + (m + suc size))).drq
      (Record deleted (not (eqb closing 0)) follows)
  unfolding busy_in
  record_flags =
      let e : suc (m + suc size) ≡ m + (size + 2) = omega arith in
      rw e at (flags_on c t v (reads (suc size) (omega arith)) refl r.rows (last_act (suc size) _ refl))

  -- up to then bit 3 stays, and so where it was off it is on at the end exactly where the register is not 0: "bit 3 if bad"
  pub record_crc :
      (desk_at c (t + m)).machine.flags.crc ≡ false
      → (desk_at c (t + (m + (size + 2)))).machine.flags.crc ≡ not (eqb (register_after v m crc (suc (suc size))) 0)
  unfolding busy_in flags_after effect_of delivered address_named record_over record_read cell_taken stepped halted
  record_crc off =
      ap (λ (f : Flags). f.crc) record_flags
      ∙ ap (λ (before : Bool). before || not (eqb closing 0))
      (bit_stays c t v r.rows (λ f. f.crc) m data_at (suc size) (λ i l. reads i (omega arith)) (λ i l. refl) leaves ∙ off)
    where
      leaves : (i : ℕ) → i < suc size → Leaves (λ (f : Flags). f.crc) (deed_at c.host c.desk (t + (m + i)))
      leaves i l = by (dec_lt i size)
        where
          by : Dec (i < size) → Leaves (λ (f : Flags). f.crc) (deed_at c.host c.desk (t + (m + i)))
          by (yes h) = subst (Leaves (λ (f : Flags). f.crc)) (sym (hands_deed i h)) (λ f drq. refl)
          by (no h) =
              let e : size ≡ i = omega arith in
              subst (Leaves (λ (f : Flags). f.crc))
              (sym (ap (λ (k : ℕ). deed_at c.host c.desk (t + (m + k))) (sym e) ∙ first_deed)) (λ f drq. refl)

  -- ---- its end

  -- "At the second CRC cell: .. Busy off, INTRQ."
  pub record_ends : follows ≡ false → Stands c t v (m + (size + 2)) v.missing Idle
  unfolding busy_in after_record
  record_ends last =
      let e : suc (m + suc size) ≡ m + (size + 2) = omega arith in
      rw e at
      (passes_on c t v r.rows (reads (suc size) (omega arith)) refl
      (record {
        deed = Record deleted (not (eqb closing 0)) false;
        acts = rw last at (last_act (suc size) (beside_at c (t + (m + suc size))) refl);
        keeps = record_keeps deleted _;
      }))

  -- "With m, SR goes up by one (255 to 0) and the search starts afresh instead": what its first byte time finds
  pub record_again :
      follows ≡ true
      → Stands c (t + (m + (size + 2))) (raised_in v (m + (size + 2))) 0 v.missing (afresh 0)
  unfolding busy_in after_record regs_after loses turns_on effect_of delivered address_named record_over record_read cell_taken stepped halted
  record_again another =
      let here = reads (suc size) (omega arith) in
      let e : suc (m + suc size) ≡ m + (size + 2) = omega arith in
      let on : t + suc (m + suc size) ≡ t + (m + (size + 2)) + 0 = omega arith in
      let act = rw another at (last_act (suc size) (beside_at c (t + (m + suc size))) refl) in
      record {
        inside = rw on at (acts_within c t v here refl);
        view =
            ap (λ (k : ℕ). view_of (desk_at c k)) (sym on)
            ∙ acts_on c t v here refl r.rows act
            ∙ ap₂ (λ (row : List ℕ) (missing : Bool).
            view_with v row (turns_on (suc (m + suc size)) v.ring) v.tr (raised_sr v.sr true) missing (afresh 0))
            (set-get_or v.row (turns_on (m + suc size) v.ring).position 0) (or-false v.missing)
            ∙ ap (raised_in v) e;
      }

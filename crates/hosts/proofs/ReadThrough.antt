-- A single Read Sector that has found its ID and meets a data field with a good CRC, from its acceptance to its end: what each
-- byte time does, and the bytes that it hands over, each as its cell passes. Assumes nothing.
use mathlib.Core.Path.{◌≡◌, refl, sym, ap, ap₂, ◌∙◌, subst}
use mathlib.Core.Bool.{Bool, false, not}
use Prim.Native.Nat.{ℕ, suc, ◌+◌, ◌-◌, ◌%◌, ◌≤◌, ◌<◌}
use native.Mathlib.Decide.{dec_lt, ℕ_discrete}
use native.Mathlib.Omega.{arith}
use lib.Dec.{eqb}
use lib.ListN.{length}
use Rattle.scan.specs.Marks.{byte_of, mark_crc}
use Rattle.scan.specs.declared.DataMark.{DataMark}
use Rattle.scan.specs.DataMarks.{mark_byte, is_deleted}
use Rattle.scan.specs.Streams.{id_width}
use Rattle.command.specs.Bits.{is_multiple}
use Rattle.command.specs.Orders.{order_of}
use Rattle.command.specs.declared.Command.TheVariants.{ReadSector}
use Rattle.activity.specs.declared.Deed.{Deed}
use Rattle.activity.specs.declared.Deed.TheVariants.{Nothing, Deliver, Record}
use Rattle.registers.specs.declared.Ring.{Ring}
use Rattle.registers.specs.declared.Regs.{Regs}
use Rattle.effects.proofs.Apart.{regs_after, flags_after}
use Rattle.reachable.specs.ByteTimes.{turns_on}
use Rattle.hosts.specs.Hosts.{Host, Desk, served_at, at, AloneUntil, EndsAt}
use Rattle.hosts.specs.Scenes.{Scene, loaded}
use Rattle.hosts.specs.Bytes.{deed_at, hands, handed}
use Rattle.hosts.proofs.DataFields.{sum_after, sum_same}
use Rattle.hosts.proofs.Views.{View, Calm}
use Rattle.hosts.proofs.ByteTimes.{next_regs}
use Rattle.hosts.proofs.Courses.{AnyRow, ends_once, ended_calm}
use Rattle.hosts.proofs.Passing.{stream_from}
use Rattle.hosts.proofs.Silent.{Silent}
use Rattle.hosts.proofs.ReadActs.{single_over}
use Rattle.hosts.proofs.Records.{byte_after, register_after, Marked, closing, data_ring, hands_deed, first_deed, last_deed, record_crc}
use Rattle.hosts.proofs.Windows.{FirstMarkIn, cells_after, Opened, awaits_deed, window_bit}
use Rattle.hosts.proofs.Searching.{reads_two}
use Rattle.hosts.proofs.Working.{TakenUp, OverAt, Working, ended_working, course_of, Heads, heads_by, beginning}
use Rattle.hosts.proofs.Found.{Found, found_time, found_place, found_size, found_place_lem, found_silent, found_crc}
use Rattle.hosts.proofs.ReadEnds.{found_opens, found_marked, marked_over}
use Rattle.hosts.proofs.Collected.{listed, listed_same, Stretch, collects}
use Rattle.hosts.proofs.ReadDeeds.{Moves, waits, delivers, records, silent_hands}
use Rattle.effects.specs.Effects.{effect_of, delivered, address_named, record_over, record_read, cell_taken, stepped, halted}

-- A data field of so many bytes in the cells after an ID: its mark is the first of the window, the mark's byte is the cell
-- `place` there, counted from 1, and its CRC is good.
pub record FieldIn (mfm : Bool) (cells : ℕ → ℕ) (size : ℕ) (mark : DataMark) (place : ℕ) : Type 0 where
  pub some : 0 < place
  pub first : (u : ℕ) → suc u ≡ place → FirstMarkIn mfm cells mark u
  -- "a field is good when the register is 0 after its own CRC"
  pub closed : sum_after (mark_crc mfm (mark_byte mark)) (λ i. byte_of (cells (place + i))) (size + 2) ≡ 0

-- ---- the command

-- a single Read Sector that ends by itself in byte time n
pub record EndedSingle (s : Scene) (n : ℕ) : Type 0 where
  pub given : TakenUp s ReadSector
  pub alone : AloneUntil s.host (loaded s) n
  pub ends : EndsAt s.host (loaded s) n
  pub single : is_multiple s.byte ≡ false

module _ {s : Scene} {n : ℕ} (r : EndedSingle s n) where
  abbrev pub working : Working AnyRow s ReadSector
  working = ended_working r.given n r.alone r.ends

  abbrev pub heads : Heads working
  heads = heads_by working n r.ends

  -- the ID that it has found
  abbrev pub FoundId : Type 0
  FoundId = Found working reads_two heads

  -- the cells after that
  abbrev pub cells_on : FoundId → ℕ → ℕ
  cells_on f = cells_after (beginning working heads) (suc f.q)

-- and the data field that it meets then
pub record Meets (s : Scene) (n : ℕ) : Type 0 where
  pub reads : EndedSingle s n
  pub found : FoundId reads
  pub mark : DataMark
  pub place : ℕ
  pub field :
      FieldIn s.machine.mfm (cells_on reads found) (found_size found) mark place

module _ {s : Scene} {n : ℕ} (r : Meets s n) where
  abbrev h : Host
  h = s.host

  abbrev d : Desk
  d = loaded s

  abbrev w : Working AnyRow s ReadSector
  w = working r.reads

  abbrev view : View
  view = beginning w (heads r.reads)

  abbrev begun : ℕ
  begun = (heads r.reads).begun

  -- the bytes of the field
  abbrev pub size : ℕ
  size = found_size r.found

  abbrev pub byte : ℕ → ℕ
  byte i = byte_of (cells_on r.reads r.found (r.place + i))

  -- the byte times up to the ID's last cell, and up to the mark's byte
  abbrev pub start : ℕ
  start = found_time r.found

  abbrev pub from : ℕ
  from = found_time r.found + r.place

  -- ---- its record

  -- the mark's byte is cell u after the ID, and the data field begins m byte times after the search
  abbrev u : ℕ
  u = r.place - 1

  abbrev m : ℕ
  m = suc r.found.q + suc u

  u_is : suc u ≡ r.place
  u_is = omega (arith, r.field.some)

  abbrev first : FirstMarkIn s.machine.mfm (cells_on r.reads r.found) r.mark u
  first = r.field.first u u_is

  abbrev crc : ℕ
  crc = mark_crc s.machine.mfm (mark_byte r.mark)

  opened : Opened (course_of w) begun view (suc r.found.q) size
  opened = found_opens r.found

  met : Marked (course_of w) begun view m size crc (is_deleted r.mark)
  met = found_marked r.found u r.mark first

  ended : OverAt s (begun + (m + (size + 2))) false
  ended = marked_over r.found u r.mark first r.reads.single

  same_byte : (i : ℕ) → byte_after view m i ≡ byte i
  same_byte i = ap (λ (k : ℕ). byte_of (stream_from view k)) (omega (arith, u_is))

  -- the register after the second CRC cell
  closes : register_after view m crc (suc (suc size)) ≡ 0
  closes =
      let e : suc (suc size) ≡ size + 2 = omega arith in
      ap (register_after view m crc) e
      ∙ sum_same crc (byte_after view m) byte (size + 2) (λ i l. same_byte i)
      ∙ r.field.closed

  -- it ends with that cell
  pub over : start + (r.place + size + 2) ≡ n
  over =
      let e : start + (r.place + size + 2) ≡ begun + (m + (size + 2)) = omega (arith, u_is) in
      e ∙ ends_once h d _ n ended.ends r.reads.ends

  -- without Record Not Found
  pub no_missing : (at h d n).machine.flags.missing ≡ false
  no_missing =
      let e : begun + (m + (size + 2)) ≡ n = omega (arith, over, u_is) in
      rw e at ended.told

  -- nor CRC error: a good match has cleared bit 3, and a good record leaves it off
  pub no_crc : (at h d n).machine.flags.crc ≡ false
  unfolding flags_after effect_of delivered address_named record_over record_read cell_taken stepped halted
  no_crc =
      let e : begun + (m + (size + 2)) ≡ n = omega (arith, over, u_is) in
      (rw e at (record_crc met (window_bit opened u r.mark first (λ f. f.crc) (λ f drq. refl) ∙ found_crc r.found)))
      ∙ ap (λ (sum : ℕ). not (eqb sum 0)) closes

  pub within : from + size ≤ n
  within = omega (arith, over)

  -- ---- what each byte time does

  abbrev doing : ℕ → Deed
  doing i = deed_at h d i

  waiting : (i : ℕ) → start ≤ i → i < from → doing i ≡ Nothing
  waiting i l g =
      let e : begun + (suc r.found.q + (i - start)) ≡ i = omega arith in
      ap doing (sym e) ∙ awaits_deed opened u r.mark first (i - start) (omega (arith, u_is))

  -- the data bytes, one after another
  byte_delivered : (i : ℕ) → i < size → doing (from + i) ≡ Deliver (byte i)
  byte_delivered i l =
      let e : begun + (m + i) ≡ from + i = omega (arith, u_is) in
      ap doing (sym e) ∙ hands_deed met i l ∙ ap Deliver (same_byte i)

  -- the two CRC cells
  summing : (i : ℕ) → i ≡ from + size → doing i ≡ Nothing
  summing i is =
      let e : begun + (m + size) ≡ i = omega (arith, u_is) in
      ap doing (sym e) ∙ first_deed met

  pub recorded : (i : ℕ) → i ≡ suc (from + size) → doing i ≡ Record (is_deleted r.mark) false false
  unfolding order_of
  recorded i is =
      let e : begun + (m + suc size) ≡ i = omega (arith, u_is) in
      ap doing (sym e)
      ∙ last_deed met
      ∙ ap₂ (λ (register : ℕ) (another : Bool). Record (is_deleted r.mark) (not (eqb register 0)) another) closes
      (single_over _ (closing met) r.reads.single)

  pub moves : (i : ℕ) → start ≤ i → i < n → Moves (doing i)
  moves i l g = by (dec_lt i from) (dec_lt i (from + size)) (ℕ_discrete i (from + size))
    where
      is : {deed : Deed} → Moves deed → doing i ≡ deed → Moves (doing i)
      is move e = subst Moves (sym e) move

      by : Dec (i < from) → Dec (i < from + size) → Dec (i ≡ from + size) → Moves (doing i)
      by (yes x) y z = is waits (waiting i l x)
      by (no x) (yes y) z =
          let e : from + (i - from) ≡ i = omega arith in
          is delivers (ap doing (sym e) ∙ byte_delivered (i - from) (omega arith))
      by (no x) (no y) (yes z) = is waits (summing i z)
      by (no x) (no y) (no z) = is records (recorded i (omega (arith, over)))

  pub silent : (i : ℕ) → i < start → Silent (doing i)
  silent = found_silent r.found

  pub calm : (i : ℕ) → i < n → Calm h d i
  calm = ended_calm h d n r.reads.alone r.reads.ends

  -- ---- the bytes that it hands over

  -- in the byte times of the data cells, and in no other
  pub stretch : Stretch (λ i. hands (deed_at h d i)) from size n
  unfolding hands
  stretch =
      record {
        within = within;
        before = λ i l. early i l (dec_lt i start);
        during = λ i l. ap hands (byte_delivered i l);
        behind = λ i l g. late i l g (ℕ_discrete i (from + size));
      }
    where
      early : (i : ℕ) → i < from → Dec (i < start) → hands (doing i) ≡ false
      early i l (yes g) = silent_hands (doing i) (silent i g)
      early i l (no g) = ap hands (waiting i (omega arith) l)

      late : (i : ℕ) → from + size ≤ i → i < n → Dec (i ≡ from + size) → hands (doing i) ≡ false
      late i l g (yes e) = ap hands (summing i e)
      late i l g (no e) = ap hands (recorded i (omega (arith, over)))

  -- DR after the byte time of each
  pub handed_byte : (i : ℕ) → i < size → (at h d (suc (from + i))).machine.regs.dr ≡ byte i
  unfolding regs_after effect_of delivered address_named record_over record_read cell_taken stepped halted
  handed_byte i l =
      ap (λ (x : Regs). x.dr)
      (next_regs h d (from + i)
      ∙ ap (regs_after (served_at h (from + i) (at h d (from + i))).machine.regs) (byte_delivered i l))

  pub handed_list : handed h d n ≡ listed byte size
  handed_list =
      collects (λ i. hands (deed_at h d i)) (λ i. (at h d (suc i)).machine.regs.dr) from size n stretch
      ∙ listed_same _ byte size handed_byte

  -- the cell that passes then
  pub handed_place :
      (i : ℕ)
      → i < size
      → (at h d (from + i)).machine.ring.position
      ≡ (found_place r.found
      + id_width s.machine.mfm
      + (r.place + i))
      % length s.row
  handed_place i l =
      let e : from + i ≡ begun + (m + i) = omega (arith, u_is) in
      let on : m + i ≡ suc r.found.q + (r.place + i) = omega (arith, u_is) in
      ap (λ (k : ℕ). (at h d k).machine.ring.position) e
      ∙ ap (λ (x : Ring). x.position) (data_ring met i (omega arith))
      ∙ ap (λ (k : ℕ). (turns_on k view.ring).position) on
      ∙ found_place_lem r.found (r.place + i)

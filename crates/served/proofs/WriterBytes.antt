-- A host that serves each DRQ of a Write Sector: the bytes that it loads into DR are those that the data cells take.
-- Assumes nothing.
use mathlib.Core.Path.{◌≡◌, refl, sym, ap, ◌∙◌}
use mathlib.Core.Bool.{Bool, true, false, cond}
use mathlib.Core.List.{◌∷◌, []}
use Prim.Native.Nat.{ℕ, zero, suc, ◌+◌, ◌-◌, ◌≤◌, ◌<◌}
use native.Mathlib.Nat.{add-zero, add-suc}
use native.Mathlib.Decide.{dec_lt, ℕ_discrete}
use native.Mathlib.Omega.{arith}
use lib.Dec.{leb, eqb}
use borrow.Author.Tests.{le-leb, lt-leb, eq-eqb, ne_eqb}
use Rattle.command.specs.Commands.{class_of}
use Rattle.command.specs.declared.Command.TheVariants.{WriteSector}
use Rattle.command.proofs.Tables.{field_size_some}
use Rattle.activity.specs.declared.Deed.{Deed}
use Rattle.activity.specs.declared.Deed.TheVariants.{Nothing, Ask}
use Rattle.writing.specs.Writing.{mark_place, preamble_deed}
use Rattle.registers.specs.declared.Regs.{Regs}
use Rattle.accepting.specs.Accepting.{asks_first}
use Rattle.effects.specs.Effects.{effect_of, cell_taken}
use Rattle.effects.proofs.Apart.{drq_after, regs_after}
use Rattle.reachable.proofs.Valid.{Valid, load_valid}
use Rattle.hosts.specs.Hosts.{Host, Desk, served_at, at}
use Rattle.hosts.specs.Bytes.{deed_at, takes, collected, taken}
use Rattle.hosts.proofs.Accepted.{given_drq}
use Rattle.hosts.proofs.Views.{View}
use Rattle.hosts.proofs.ByteTimes.{next_regs, next_drq}
use Rattle.hosts.proofs.Courses.{Course, AnyRow}
use Rattle.hosts.proofs.Working.{given_valid, course_of}
use Rattle.hosts.proofs.Found.{found_silent}
use Rattle.hosts.proofs.Silent.{Silent, nothing}
use Rattle.hosts.proofs.Collected.{listed, Stretch, collects, collected_same}
use Rattle.exact.specs.Demand2.{Session, write_scene, begun, Commands}
use Rattle.exact.proofs.SectorField.{numbers}
use Rattle.exact.proofs.WriteStages.{WriteBegun, asks_deed, take_deed, high_deed, low_deed}
use Rattle.exact.proofs.WriteSession as write
use Rattle.served.specs.Served.{given_in, WriterServes}
use Rattle.served.proofs.Serving.{silent_drq, given_collected, given_stays}

-- ---- what the deeds of a Write Sector do to DRQ

-- "DRQ at 2."
asks_drq : (drq : Bool) (n : ℕ) → drq ≡ false → drq_after drq (preamble_deed n) ≡ eqb n 2
unfolding drq_after effect_of preamble_deed
asks_drq drq n off = by (eqb n 2)
  where
    by : (two : Bool) → drq_after drq (cond two (Ask true) Nothing) ≡ two
    by true = refl
    by false = off

-- it leaves DR
asks_dr : (r : Regs) (n : ℕ) → (regs_after r (preamble_deed n)).dr ≡ r.dr
unfolding regs_after effect_of preamble_deed
asks_dr r n = by (eqb n 2)
  where
    by : (two : Bool) → (regs_after r (cond two (Ask true) Nothing)).dr ≡ r.dr
    by true = refl
    by false = refl

module _ (s : Session) (k : Commands s) (serves : WriterServes s) where
  abbrev h : Host
  h = s.writer

  abbrev d : Desk
  d = begun s

  -- the byte times up to the ID's last cell, from there to the mark's byte, and of cell i after the mark
  abbrev time : ℕ
  time = write.time s k

  abbrev mark : ℕ
  mark = mark_place s.machine.mfm

  abbrev cell : ℕ → ℕ
  cell i = write.cell_time s k i

  abbrev size : ℕ
  size = write.size s k

  -- the write as its field begins
  abbrev course : Course AnyRow
  course = course_of (write.working s k)

  abbrev there : View
  there = write.there s k

  abbrev field : WriteBegun course s.written time size there
  field = write.writes_field s k

  -- DRQ as i byte times have passed, DR as byte time i begins, and whether it takes a byte
  abbrev drq : ℕ → Bool
  drq i = (at h d i).machine.wires.drq

  abbrev dr : ℕ → ℕ
  dr i = (served_at h i (at h d i)).machine.regs.dr

  abbrev taking : ℕ → Bool
  taking i = takes (deed_at h d i)

  valid : Valid (begun s).machine
  valid = load_valid s.machine s.lines 0 s.byte (given_valid (write.given s k))

  some : 0 < size
  some = field_size_some _ _

  far : 12 ≤ mark
  far = let n = numbers s.machine.mfm in omega (arith, n.kept_first, n.mark_last, n.some)

  -- ---- DRQ after each byte time

  -- as byte time i finds it
  abbrev drq_found : ℕ → Bool
  drq_found i = (served_at h i (at h d i)).machine.wires.drq

  drq_after_lem : (i : ℕ) {deed : Deed} → i < s.written → deed_at h d i ≡ deed → drq (suc i) ≡ drq_after (drq_found i) deed
  drq_after_lem i l is = next_drq h d i ∙ ap (drq_after (drq_found i)) is

  drq_silent : (i : ℕ) {deed : Deed} → i < s.written → deed_at h d i ≡ deed → Silent deed → drq (suc i) ≡ false
  drq_silent i {deed} l is silent = drq_after_lem i l is ∙ silent_drq (drq_found i) deed silent (serves.off i l)

  -- up to the ID's last cell
  drq_early : (i : ℕ) → i ≤ time → drq i ≡ false
  unfolding at class_of asks_first
  drq_early zero l = given_drq (write_scene s) WriteSector k.writes refl k.accepted refl
  drq_early (suc i) l = drq_silent i (omega (arith, write.over s k)) refl (found_silent (write.found s k) i (omega arith))

  -- up to the mark
  drq_leading : (j : ℕ) → j < mark → drq (suc (time + j)) ≡ eqb (j + 1) 2
  drq_leading j l =
      let inside : time + j < s.written = omega (arith, write.over s k) in
      drq_after_lem (time + j) inside (asks_deed course time size there field j l)
      ∙ asks_drq (drq_found (time + j)) (j + 1) (serves.off (time + j) inside)

  drq_led : (i : ℕ) → time < i → i < time + mark + 1 → drq i ≡ eqb (i - time) 2
  drq_led i l g =
      let e : suc (time + (i - time - 1)) ≡ i = omega arith in
      let one : i - time - 1 + 1 ≡ i - time = omega arith in
      rw (e, one) at (drq_leading (i - time - 1) (omega arith))

  -- "then DRQ is on, but off after the last"
  drq_putting : (i : ℕ) → i < size → drq (suc (cell i)) ≡ leb 5 (size + 3 - i)
  unfolding drq_after effect_of cell_taken
  drq_putting i l = drq_after_lem (cell i) (omega (arith, write.over s k)) (take_deed course time size there field i l)

  -- and after the two CRC bytes
  drq_closing : (i : ℕ) → size ≤ i → i ≤ size + 1 → drq (suc (cell i)) ≡ false
  drq_closing i l g = by (ℕ_discrete i size)
    where
      is : (j : ℕ) → i ≡ j → deed_at h d (cell j) ≡ Nothing → drq (suc (cell i)) ≡ false
      is j e deed =
          drq_silent (cell i) (omega (arith, write.over s k)) (ap (λ (x : ℕ). deed_at h d (cell x)) e ∙ deed) nothing

      by : Dec (i ≡ size) → drq (suc (cell i)) ≡ false
      by (yes e) = is size e (high_deed course time size there field)
      by (no e) = is (size + 1) (omega arith) (low_deed course time size there field)

  -- ---- the first byte

  -- "DRQ at 2.": it is loaded before the third byte time after the ID, and no other up to the first data cell
  first_given : Stretch drq (time + 2) 1 (time + mark + 1)
  first_given =
      record {
        within = omega (arith, far);
        before = λ i l. before i l (dec_lt time i);
        during =
            λ i l. drq_led (time + 2 + i) (omega arith) (omega (arith, far)) ∙ eq-eqb (time + 2 + i - time) 2 (omega arith);
        behind = λ i l g. drq_led i (omega arith) g ∙ ne_eqb (i - time) 2 (omega arith);
      }
    where
      before : (i : ℕ) → i < time + 2 → Dec (time < i) → drq i ≡ false
      before i l (yes g) = drq_led i g (omega (arith, far)) ∙ ne_eqb (i - time) 2 (omega arith)
      before i l (no g) = drq_early i (omega arith)

  -- it stays in DR up to there
  first_kept_on : (i : ℕ) → time + 2 ≤ i → i < time + mark → dr (suc i) ≡ dr i
  first_kept_on i l g =
      let e : time + (i - time) ≡ i = omega arith in
      let regs : Regs = (served_at h i (at h d i)).machine.regs in
      given_stays h d s.written valid (write.alone s k) serves (suc i) (omega (arith, write.over s k))
      (first_given.behind (suc i) (omega arith) (omega arith))
      ∙ ap (λ (r : Regs). r.dr) (next_regs h d i)
      ∙ ap (λ (deed : Deed). (regs_after regs deed).dr)
      (rw e at (asks_deed course time size there field (i - time) (omega arith)))
      ∙ asks_dr regs (i - time + 1)

  first_kept : (j : ℕ) → j + 2 ≤ mark → dr (time + 2 + j) ≡ dr (time + 2)
  first_kept zero l = ap dr (add-zero (time + 2))
  first_kept (suc j) l =
      ap dr (add-suc (time + 2) j) ∙ first_kept_on (time + 2 + j) (omega arith) (omega arith) ∙ first_kept j (omega arith)

  -- the first data cell takes it
  first_taken : Stretch taking (time + mark) 1 (time + mark + 1)
  first_taken =
      record {
        within = omega arith;
        before = (write.stretch s k).before;
        during = λ i l. (write.stretch s k).during i (omega (arith, some));
        behind = λ i l g. absurd (omega arith);
      }

  same_first : collected drq dr (time + mark + 1) ≡ collected taking dr (time + mark + 1)
  unfolding listed
  same_first =
      let two : time + 2 + 0 ≡ time + 2 = omega arith in
      let last : time + 2 + (mark - 2) ≡ time + mark + 0 = omega (arith, far) in
      collects drq dr (time + 2) 1 (time + mark + 1) first_given
      ∙ ap (λ (b : ℕ). b ∷ []) (ap dr two ∙ sym (first_kept (mark - 2) (omega (arith, far))) ∙ ap dr last)
      ∙ sym (collects taking dr (time + mark) 1 (time + mark + 1) first_taken)

  -- ---- the others

  -- each is loaded just before its data cell takes it: cell i has passed
  same_after : (i : ℕ) → suc (cell i) < s.written → drq (suc (cell i)) ≡ taking (suc (cell i))
  same_after i g = by (dec_lt (suc i) size) (dec_lt i size)
    where
      next : taking (time + mark + suc i) ≡ taking (suc (cell i))
      next = ap taking (omega arith)

      by : Dec (suc i < size) → Dec (i < size) → drq (suc (cell i)) ≡ taking (suc (cell i))
      by (yes l) any =
          drq_putting i (omega arith) ∙ le-leb 5 (size + 3 - i) (omega arith) ∙ sym ((write.stretch s k).during (suc i) l) ∙ next
      by (no l) (yes last) =
          drq_putting i last
          ∙ lt-leb 5 (size + 3 - i) (omega arith)
          ∙ sym ((write.stretch s k).behind (suc (cell i)) (omega arith) g)
      by (no l) (no over) =
          drq_closing i (omega arith) (omega (arith, write.over s k))
          ∙ sym ((write.stretch s k).behind (suc (cell i)) (omega arith) g)

  same_later : (i : ℕ) → time + mark + 1 ≤ i → i < s.written → drq i ≡ taking i
  same_later i l g =
      let e : suc (cell (i - (time + mark + 1))) ≡ i = omega arith in
      rw e at (same_after (i - (time + mark + 1)) (omega arith))

  -- ---- all of them

  pub given_taken : given_in s.writer s.written ≡ taken s.writer (begun s) s.written
  given_taken =
      let rest : ℕ = s.written - (time + mark + 1) in
      let e : time + mark + 1 + rest ≡ s.written = omega (arith, write.over s k) in
      given_collected h d s.written valid (write.alone s k) serves s.written (omega arith)
      ∙ (rw e at
      (collected_same drq taking dr (time + mark + 1) rest same_first (λ i l g. same_later i l (omega arith))))

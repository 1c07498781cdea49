-- A byte time as a step of what decides a command's course: row, ring, density, TR, SR, bit 4, order and activity. DR, the
-- wires, the other status bits, the head and the lines stand outside. Assumes nothing.
use mathlib.Core.Path.{◌≡◌, refl, sym, ap, ap₂, ◌∙◌}
use mathlib.Core.Bool.{Bool, true, false, cond, ◌||◌, or-false, or-true}
use mathlib.Core.List.{List}
use Prim.Native.Nat.{ℕ, zero, suc, ◌+◌, ◌≤◌}
use lib.Dec.{ltb, eqb}
use lib.ListN.{length, get_or, set}
use borrow.Author.Tests.{le-ltb}
use Rattle.command.specs.declared.Order.{Order}
use Rattle.activity.specs.Limits.{busy_in}
use Rattle.activity.specs.declared.Seen.{Seen}
use Rattle.activity.specs.declared.Act.{Act}
use Rattle.activity.specs.declared.Activity.{Activity}
use Rattle.activity.specs.declared.Deed.{Deed}
use Rattle.activity.specs.declared.Deed.TheVariants.{Nothing, Deliver, Named, Matched, NotFound, Record, Written, Ask, Late, Take, Step, Halt}
use Rattle.act.specs.Turns.{act_of}
use Rattle.registers.specs.declared.Ring.{Ring}
use Rattle.registers.specs.declared.Flags.{Flags}
use Rattle.registers.specs.declared.Lines.{Lines}
use Rattle.registers.specs.Rings.{ring_next, seen_of}
use Rattle.effects.proofs.Apart.{regs_after, flags_after, regs_apart, flags_apart}
use Rattle.wd.specs.declared.Machine.{Machine}
use Rattle.wd.specs.Turns.{parts_of, does_of, act_applied, cell_turn}
use Rattle.wd.specs.Rows.{row_refusal, under, refused_at, done_by, byte_time, byte_time_row}
use Rattle.wd.proofs.Valid.{row_open}
use Rattle.reachable.proofs.Valid.{Valid, byte_time_valid}
use Rattle.hosts.specs.Hosts.{NoneAccepted, Host, Desk, called_all, served_at, passes_under, at}
use Rattle.hosts.proofs.QuietCalls.{calls_bus, calls_valid, calls_targets}
use Rattle.effects.specs.Effects.{effect_of, delivered, address_named, record_over, record_read, cell_taken, stepped, halted}
use Rattle.refusals.specs.declared.Refusal.TheVariants as refusal
use Rattle.refusals.specs.Numbers.{refused, done}
use Rattle.refusals.proofs.Outcomes.{not_ok-done, done-ok, refused-done}
use Rattle.std.specs.Result.{is_ok}

-- ---- the view

pub record View : Type 0 where
  pub row : List ℕ
  pub ring : Ring
  pub mfm : Bool
  pub tr : ℕ
  pub sr : ℕ
  pub missing : Bool
  pub order : Order
  pub activity : Activity

-- a view with another row, ring, TR, SR, bit 4 and activity
abbrev pub view_with : View → List ℕ → Ring → ℕ → ℕ → Bool → Activity → View
view_with v row ring tr sr missing a =
    record {
      row = row;
      ring = ring;
      mfm = v.mfm;
      tr = tr;
      sr = sr;
      missing = missing;
      order = v.order;
      activity = a;
    }

abbrev pub view_of : Desk → View
view_of d =
    record {
      row = d.row;
      ring = d.machine.ring;
      mfm = d.machine.mfm;
      tr = d.machine.regs.tr;
      sr = d.machine.regs.sr;
      missing = d.machine.flags.missing;
      order = d.machine.order;
      activity = d.machine.activity;
    }

-- what a byte time sees beside it
pub record Outside : Type 0 where
  pub hlt : Bool
  pub track0 : Bool
  pub drq : Bool
  pub dr : ℕ

abbrev pub outside_of : Machine → Lines → Outside
outside_of m l = record { hlt = l.hlt; track0 = l.track0; drq = m.wires.drq; dr = m.regs.dr }

abbrev pub cell_under : View → ℕ
cell_under v = get_or v.row v.ring.position 0

abbrev pub seen_in : View → Outside → Seen
seen_in v o =
    record {
      mfm = v.mfm;
      index = eqb v.ring.position 0;
      last = eqb (v.ring.position + 1) v.ring.length;
      hlt = o.hlt;
      track0 = o.track0;
      drq = o.drq;
      tr = v.tr;
      sr = v.sr;
      dr = o.dr;
      cell = cell_under v;
    }

abbrev pub act_in : View → Outside → Act
act_in v o = act_of v.order (seen_in v o) v.activity

-- ---- the step

-- Seek Error, or Record Not Found
unfoldable pub loses : Deed → Bool
loses Nothing = false
loses (Deliver b) = false
loses (Named b track bad) = false
loses (Matched bad) = false
loses NotFound = true
loses (Record deleted bad follows) = false
loses (Written follows) = false
loses (Ask on) = false
loses Late = false
loses (Take on) = false
loses (Step inward track) = false
loses (Halt rule load) = false

-- the view after an act, with the ring as it is then
abbrev pub acted_in : View → Ring → ℕ → Act → View
acted_in v ring dr a =
    let regs = regs_after (record { tr = v.tr; sr = v.sr; dr = dr }) a.deed in
    view_with v (set v.row v.ring.position a.cell) ring regs.tr regs.sr (v.missing || loses a.deed) a.next

unfoldable pub step_of : View → Outside → View
step_of v o = acted_in v (ring_next v.ring) o.dr (act_in v o)

-- what a deed does to bit 4; that it leaves bit 6, the type, and Lost Data where it is on
pub record FlagsAfter (f : Flags) (drq : Bool) (deed : Deed) : Type 0 where
  pub missing : (flags_after f drq deed).missing ≡ (f.missing || loses deed)
  pub kind : ((flags_after f drq deed).protected ≡ f.protected) × ((flags_after f drq deed).type1 ≡ f.type1)
  pub lost : f.lost ≡ true → (flags_after f drq deed).lost ≡ true

pub flags_after_lem : (f : Flags) (drq : Bool) (deed : Deed) → FlagsAfter f drq deed
unfolding flags_after loses effect_of delivered address_named record_over record_read cell_taken stepped halted
flags_after_lem f drq Nothing = record { missing = sym (or-false _); kind = (refl, refl); lost = λ e. e }
flags_after_lem f drq (Deliver b) = record { missing = sym (or-false _); kind = (refl, refl); lost = λ e. rw e refl }
flags_after_lem f drq (Named b track bad) = record { missing = sym (or-false _); kind = (refl, refl); lost = λ e. rw e refl }
flags_after_lem f drq (Matched bad) = record { missing = sym (or-false _); kind = (refl, refl); lost = λ e. e }
flags_after_lem f drq NotFound = record { missing = sym (or-true f.missing); kind = (refl, refl); lost = λ e. e }
flags_after_lem f drq (Record deleted bad follows) =
    record { missing = sym (or-false _); kind = (refl, refl); lost = λ e. e }
flags_after_lem f drq (Written follows) = record { missing = sym (or-false _); kind = (refl, refl); lost = λ e. e }
flags_after_lem f drq (Ask on) = record { missing = sym (or-false _); kind = (refl, refl); lost = λ e. e }
flags_after_lem f drq Late = record { missing = sym (or-false _); kind = (refl, refl); lost = λ e. refl }
flags_after_lem f drq (Take on) = record { missing = sym (or-false _); kind = (refl, refl); lost = λ e. rw e refl }
flags_after_lem f drq (Step inward track) = record { missing = sym (or-false _); kind = (refl, refl); lost = λ e. e }
flags_after_lem f drq (Halt rule load) = record { missing = sym (or-false _); kind = (refl, refl); lost = λ e. e }

-- a byte time that is done
abbrev pub Done : Lines → Desk → Type 0
Done l d = (byte_time d.machine l d.row).outcome ≡ done

module _ (m : Machine) (l : Lines) (row : List ℕ) where
  done_tests :
      (byte_time m l row).outcome ≡ done → (is_ok (row_refusal m (length row)) ≡ true) × (ltb 511 (under m row) ≡ false)
  unfolding byte_time refused_at done_by
  done_tests = by (is_ok (row_refusal m (length row))) (ltb 511 (under m row)) refl
    where
      by :
          (a b : Bool)
          → is_ok (row_refusal m (length row)) ≡ a
          → (cond a (cond b (refused_at (refused refusal.Cell) m) (done_by (cell_turn m l (under m row)))) (refused_at (row_refusal m (length row)) m)
          ).outcome ≡ done
          → (a ≡ true) × (b ≡ false)
      by true true e h = absurd (refused-done _ h)
      by true false e h = (refl, refl)
      by false b e h = absurd (not_ok-done _ e h)

  -- it turns the machine and writes the cell as the crate `act` says
  pub done_machine : (byte_time m l row).outcome ≡ done → (byte_time m l row).machine ≡ (cell_turn m l (under m row)).machine
  unfolding byte_time done_by
  done_machine h = let t = done_tests h in simp (t.0, t.1)

  pub done_row : (byte_time m l row).outcome ≡ done → byte_time_row m l row ≡ set row m.ring.position (does_of m l (under m row)).cell
  unfolding byte_time_row cell_turn act_applied
  done_row h = let t = done_tests h in simp (t.0, t.1)

  -- done: a row of its length, and no cell above 511 under the head
  done_by_lem : Valid m → length row ≡ m.ring.length → under m row ≤ 511 → (byte_time m l row).outcome ≡ done
  unfolding byte_time done_by
  done_by_lem v whole low =
      simp (done-ok (row_refusal m (length row)) (row_open m (length row) v whole), le-ltb 511 (under m row) low)

abbrev desk_of : Machine → List ℕ → Desk
desk_of m row = record { machine = m; row = row }

pub step_view : (l : Lines) (d : Desk) → Done l d → view_of (passes_under l d) ≡ step_of (view_of d) (outside_of d.machine l)
unfolding passes_under step_of cell_turn act_applied seen_of
step_view l d done =
    ap₂ (λ (m : Machine) (row : List ℕ). view_of (desk_of m row)) (done_machine d.machine l d.row done)
    (done_row d.machine l d.row done)
    ∙ (λ i.
    view_with next next.row next.ring (regs_apart (parts_of d.machine) deed i).tr
    (regs_apart (parts_of d.machine) deed i).sr (missed i) next.activity)
  where
    next : View
    next = step_of (view_of d) (outside_of d.machine l)

    deed : Deed
    deed = (act_in (view_of d) (outside_of d.machine l)).deed

    missed : (effect_of (parts_of d.machine) deed).flags.missing ≡ (d.machine.flags.missing || loses deed)
    missed =
        ap (λ (f : Flags). f.missing) (flags_apart (parts_of d.machine) deed)
        ∙ (flags_after_lem d.machine.flags d.machine.wires.drq deed).missing

-- ---- the host's calls before it

pub served_view : (h : Host) (n : ℕ) (d : Desk)
    → NoneAccepted d.machine (h.calls n)
    → busy_in d.machine.activity ≡ true
    → view_of (served_at h n d) ≡ view_of d
unfolding served_at
served_view h n d quiet busy =
    let bus = calls_bus d.machine (h.calls n) quiet in
    let targets = calls_targets d.machine (h.calls n) quiet busy in
    λ i. record {
      row = d.row;
      ring = (bus i).ring;
      mfm = (bus i).mfm;
      tr = targets.0 i;
      sr = targets.1 i;
      missing = (bus i).flags.missing;
      order = (bus i).order;
      activity = (bus i).activity;
    }

-- byte time n is done, which the desk has come to
abbrev pub DoneAt : Host → Desk → ℕ → Type 0
DoneAt h d n = Done (h.lines n) (served_at h n (at h d n))

-- what byte time n sees beside the view
abbrev pub outside_at : Host → Desk → ℕ → Outside
outside_at h d n = outside_of (served_at h n (at h d n)).machine (h.lines n)

module _ (h : Host) (d : Desk) where
  -- a valid machine stays valid
  pub stays_valid : Valid d.machine → (n : ℕ) → Valid (at h d n).machine
  unfolding at passes_under served_at
  stays_valid v zero = v
  stays_valid v (suc n) =
      byte_time_valid (called_all (at h d n).machine (h.calls n)) (h.lines n) (at h d n).row
      (calls_valid (at h d n).machine (h.calls n) (stays_valid v n))

  -- byte time n is done, and none of the calls before it is an accepted command
  pub record Calm (n : ℕ) : Type 0 where
    pub quiet : NoneAccepted (at h d n).machine (h.calls n)
    pub done : DoneAt h d n

  pub calm_view :
      {n : ℕ}
      → Calm n
      → busy_in (at h d n).machine.activity ≡ true
      → view_of (at h d (suc n)) ≡ step_of (view_of (at h d n)) (outside_at h d n)
  unfolding at
  calm_view {n} calm busy =
      step_view (h.lines n) (served_at h n (at h d n)) calm.done
      ∙ ap (λ (v : View). step_of v (outside_at h d n)) (served_view h n (at h d n) calm.quiet busy)

  pub done_under :
      (n : ℕ)
      → NoneAccepted (at h d n).machine (h.calls n)
      → Valid (at h d n).machine
      → length (at h d n).row ≡ (at h d n).machine.ring.length
      → cell_under (view_of (at h d n)) ≤ 511
      → DoneAt h d n
  unfolding served_at
  done_under n quiet v whole low =
      let ring = ap (λ (m : Machine). m.ring) (calls_bus (at h d n).machine (h.calls n) quiet) in
      done_by_lem (called_all (at h d n).machine (h.calls n)) (h.lines n) (at h d n).row
      (calls_valid (at h d n).machine (h.calls n) v)
      (whole ∙ sym (ap (λ (r : Ring). r.length) ring))
      (rw (ap (λ (r : Ring). get_or (at h d n).row r.position 0) ring) low)

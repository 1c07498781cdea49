-- A byte time under any host, done or refused: what it does, and what it leaves in registers, DRQ and status bits. Assumes
-- nothing.
use mathlib.Core.Path.{◌≡◌, refl, ap, ◌∙◌}
use mathlib.Core.Bool.{true}
use mathlib.Core.List.{List}
use Prim.Native.Nat.{ℕ, zero, suc, ◌+◌, ◌≤◌, ◌<◌}
use native.Mathlib.Nat.{add-zero, add-suc}
use native.Mathlib.Omega.{arith}
use lib.Dec.{ltb}
use lib.ListN.{length, set}
use Rattle.common.proofs.Cases.{by_cond}
use Rattle.activity.specs.Limits.{busy_in}
use Rattle.activity.specs.declared.Act.{Act}
use Rattle.activity.specs.declared.Deed.{Deed}
use Rattle.activity.specs.declared.Deed.TheVariants.{Nothing}
use Rattle.registers.specs.declared.Flags.{Flags}
use Rattle.registers.specs.declared.Lines.{Lines}
use Rattle.registers.specs.Rings.{seen_of}
use Rattle.effects.specs.Effects.{effect_of}
use Rattle.effects.proofs.Apart.{regs_after, drq_after, flags_after, regs_apart, drq_apart, flags_apart}
use Rattle.wd.specs.declared.Machine.{Machine}
use Rattle.wd.specs.declared.Passed.{Passed}
use Rattle.wd.specs.Turns.{parts_of, act_applied, cell_turn, does_of}
use Rattle.wd.specs.Rows.{row_refusal, under, refused_at, done_by, byte_time}
use Rattle.reachable.proofs.AsGiven.{byte_time_machine}
use Rattle.hosts.specs.Hosts.{NoneAccepted, Host, Desk, called_all, served_at, passes_under, at, AloneUntil}
use Rattle.hosts.specs.Bytes.{deed_on, deed_at}
use Rattle.hosts.proofs.QuietCalls.{calls_bus, calls_targets}
use Rattle.hosts.proofs.Views.{View, view_of, act_in, outside_at, DoneAt, Calm, flags_after_lem, done_machine, done_row, served_view}
use Rattle.refusals.specs.Numbers.{refused, done}
use Rattle.std.specs.Result.{is_ok}
use Rattle.refusals.proofs.Outcomes.{done-ok, not_done-ok, done_decided}

-- "For Types II and III bit 6 is set only by a write refused for protection": no byte time sets it
pub byte_time_protected :
    (m : Machine) (l : Lines) (row : List ℕ) → (byte_time m l row).machine.flags.protected ≡ m.flags.protected
unfolding byte_time refused_at done_by cell_turn act_applied
byte_time_protected m l row =
    by_cond (λ (p : Passed). p.machine.flags.protected ≡ m.flags.protected) (is_ok (row_refusal m (length row)))
    (λ e.
    by_cond (λ (p : Passed). p.machine.flags.protected ≡ m.flags.protected) (ltb 511 (under m row))
    (λ f. refl)
    (λ f.
    ap (λ (g : Flags). g.protected) (flags_apart (parts_of m) (does_of m l (under m row)).deed)
    ∙ (flags_after_lem m.flags m.wires.drq (does_of m l (under m row)).deed).kind.0))
    (λ e. refl)

-- ---- a byte time

module _ (h : Host) (d : Desk) (n : ℕ) where
  -- what it finds, and what it does
  abbrev pub finds : Machine
  finds = called_all (at h d n).machine (h.calls n)

  abbrev pub does : Act
  does = does_of finds (h.lines n) (under finds (at h d n).row)

  pub done_or_not : Dec (DoneAt h d n)
  done_or_not = done_decided _

  -- one that is done
  module _ (done : DoneAt h d n) where
    pub turned : (at h d (suc n)).machine ≡ (cell_turn finds (h.lines n) (under finds (at h d n).row)).machine
    unfolding at served_at passes_under
    turned = done_machine finds (h.lines n) (at h d n).row done

    pub turned_row : (at h d (suc n)).row ≡ set (at h d n).row finds.ring.position does.cell
    unfolding at served_at passes_under
    turned_row = done_row finds (h.lines n) (at h d n).row done

    pub deed_done : deed_at h d n ≡ does.deed
    unfolding deed_on deed_at served_at
    deed_done = simp (done-ok _ done)

  -- one that is refused leaves the machine as it finds it
  module _ (refused : DoneAt h d n → ⊥) where
    pub refused_machine : (at h d (suc n)).machine ≡ finds
    unfolding at served_at passes_under
    refused_machine = byte_time_machine finds (h.lines n) (at h d n).row refused

    pub deed_none : deed_at h d n ≡ Nothing
    unfolding deed_on deed_at served_at
    deed_none = simp (not_done-ok _ refused)

  -- either leaves in registers, DRQ and flags what its deed says
  record Leaves (after : Machine) (deed : Deed) : Type 0 where
    regs : after.regs ≡ (effect_of (parts_of finds) deed).regs
    drq : after.wires.drq ≡ (effect_of (parts_of finds) deed).drq
    flags : after.flags ≡ (effect_of (parts_of finds) deed).flags

  leaves : Leaves (at h d (suc n)).machine (deed_at h d n)
  unfolding cell_turn act_applied effect_of
  leaves = by done_or_not
    where
      by : Dec (DoneAt h d n) → Leaves (at h d (suc n)).machine (deed_at h d n)
      by (yes done) = rw (turned done, deed_done done) (record { regs = refl; drq = refl; flags = refl })
      by (no refused) = rw (refused_machine refused, deed_none refused) (record { regs = refl; drq = refl; flags = refl })

  pub next_regs : (at h d (suc n)).machine.regs ≡ regs_after (served_at h n (at h d n)).machine.regs (deed_at h d n)
  unfolding served_at
  next_regs = leaves.regs ∙ regs_apart (parts_of finds) (deed_at h d n)

  pub next_drq : (at h d (suc n)).machine.wires.drq ≡ drq_after (served_at h n (at h d n)).machine.wires.drq (deed_at h d n)
  unfolding served_at
  next_drq = leaves.drq ∙ drq_apart (parts_of finds) (deed_at h d n)

  pub found_flags :
      (at h d (suc n)).machine.flags
      ≡ flags_after (served_at h n (at h d n)).machine.flags (served_at h n (at h d n)).machine.wires.drq (deed_at h d n)
  unfolding served_at
  found_flags = leaves.flags ∙ flags_apart (parts_of finds) (deed_at h d n)

  -- where none of the calls before it is an accepted command, the flags are as they were before them
  pub next_flags :
      NoneAccepted (at h d n).machine (h.calls n)
      → (at h d (suc n)).machine.flags
      ≡ flags_after (at h d n).machine.flags (served_at h n (at h d n)).machine.wires.drq (deed_at h d n)
  unfolding served_at
  next_flags quiet =
      found_flags
      ∙ ap (λ (m : Machine). flags_after m.flags finds.wires.drq (deed_at h d n))
      (calls_bus (at h d n).machine (h.calls n) quiet)

  -- while Busy the view decides what it does
  pub deed_view :
      Calm h d n
      → busy_in (at h d n).machine.activity ≡ true
      → deed_at h d n ≡ (act_in (view_of (at h d n)) (outside_at h d n)).deed
  unfolding seen_of served_at
  deed_view calm busy =
      deed_done calm.done
      ∙ ap (λ (v : View). (act_in v (outside_at h d n)).deed) (served_view h n (at h d n) calm.quiet busy)

  -- and the registers that it leaves
  pub regs_view :
      Calm h d n
      → busy_in (at h d n).machine.activity ≡ true
      → (at h d (suc n)).machine.regs
      ≡ regs_after
      (record { tr = (view_of (at h d n)).tr; sr = (view_of (at h d n)).sr; dr = (outside_at h d n).dr })
      (act_in (view_of (at h d n)) (outside_at h d n)).deed
  unfolding served_at
  regs_view calm busy =
      let targets = calls_targets (at h d n).machine (h.calls n) calm.quiet busy in
      next_regs
      ∙ (λ i. regs_after (record { tr = targets.0 i; sr = targets.1 i; dr = (outside_at h d n).dr }) (deed_view calm busy i))

-- ---- byte times one after another

-- Lost Data stays on until a command is accepted
pub lost_later :
    (h : Host) (d : Desk) (j k : ℕ)
    → ((i : ℕ) → k ≤ i → i < k + j → NoneAccepted (at h d i).machine (h.calls i))
    → (at h d k).machine.flags.lost ≡ true
    → (at h d (k + j)).machine.flags.lost ≡ true
lost_later h d zero k quiet e = rw (add-zero k) e
lost_later h d (suc j) k quiet e =
    rw (add-suc k j)
    (ap (λ (f : Flags). f.lost) (next_flags h d (k + j) (quiet (k + j) (omega arith) (omega arith)))
    ∙ (flags_after_lem _ _ _).lost (lost_later h d j k (λ i l m. quiet i l (omega arith)) e))

-- bit 6 and the type stay too
pub kind_later :
    (h : Host) (d : Desk) (n : ℕ)
    → AloneUntil h d n
    → ((at h d n).machine.flags.protected ≡ d.machine.flags.protected)
    × ((at h d n).machine.flags.type1 ≡ d.machine.flags.type1)
unfolding at
kind_later h d zero alone = (refl, refl)
kind_later h d (suc n) alone =
    let step = next_flags h d n (alone n (omega arith)) in
    let stays = (flags_after_lem (at h d n).machine.flags (served_at h n (at h d n)).machine.wires.drq (deed_at h d n)).kind in
    let before = kind_later h d n (λ k l. alone k (omega arith)) in (
      ap (λ (f : Flags). f.protected) step ∙ stays.0 ∙ before.0,
      ap (λ (f : Flags). f.type1) step ∙ stays.1 ∙ before.1,
    )

-- A byte time in which a byte is transferred is the one that the definition makes, and it ends a run. Assumes nothing.
use mathlib.Core.Path.{◌≡◌, refl, ap, subst, ◌∙◌}
use mathlib.Core.Bool.{Bool, true, false, cond, ◌||◌, and-false, or-false}
use mathlib.Core.List.{List}
use Prim.Native.Nat.{ℕ, ◌<◌, ◌-◌}
use lib.Dec.{ltb, eqb}
use lib.ListN.{length, set}
use Rattle.common.proofs.Cases.{by_cond, neither}
use Rattle.activity.specs.Limits.{busy_in}
use Rattle.activity.specs.declared.Act.{Act}
use Rattle.activity.specs.declared.Activity.{Activity}
use Rattle.registers.specs.Rings.{seen_of, condition_met}
use Rattle.registers.specs.declared.Conditions.{Conditions}
use Rattle.registers.specs.declared.Lines.{Lines}
use Rattle.registers.specs.declared.Pulse.TheVariants as pulse
use Rattle.effects.specs.Effects.{delivered}
use Rattle.transfer.specs.Transfers.{transfer_in}
use Rattle.transfer.specs.declared.Transfer.{Transfer}
use Rattle.std.specs.Prelude.{Option, Some, None}
use Rattle.transfer.proofs.Transferring.{Goes, Says, says}
use Rattle.wd.specs.declared.Machine.{Machine}
use Rattle.wd.specs.Turns.{conditions_of, parts_of, act_applied, sees_of, cell_turn}
use Rattle.wd.specs.Rows.{row_refusal, under, done_by, byte_time, byte_time_row, tallied, counted_of, ran_to, empty_run, stops_at, onward, runs_on, run_from}
use Rattle.wd.specs.Transfers.{conditions_asked, transfer_now, after_transfer, one_byte_time}
use Rattle.wd.proofs.Runs.{at, open_run, one_more}
use Rattle.refusals.specs.Numbers.{done}
use Rattle.refusals.proofs.Outcomes.{done-ok}

-- where no condition is asked, no condition is met
untold : (k : Conditions) (was ready index : Bool) → conditions_asked k ≡ false → condition_met k was ready index ≡ false
unfolding condition_met
untold k was ready index e =
    let index = neither (k.on || k.off) k.index e in
    let both = neither k.on k.off index.0 in rw (both.0, both.1, index.1) refl

-- the machine after it
turned_over :
    (m : Machine) (l : Lines) (cell : ℕ) (next : Activity) (dr left : ℕ)
    → conditions_asked (conditions_of m) ≡ false
    → Goes m.order (sees_of m l cell) m.activity next dr left
    → cell_turn m l cell ≡ record { machine = after_transfer m l.ready dr next; cell = left; pulse = pulse.Off }
unfolding cell_turn act_applied after_transfer seen_of delivered
turned_over m l cell next dr left none g =
    ap (λ (act : Act). act_applied m act l.ready (sees_of m l cell).index) g.does
    ∙ rw (
      g.effect (parts_of m) refl,
      g.busy,
      and-false (busy_in m.activity),
      untold (conditions_of m) m.past.ready l.ready (eqb m.ring.position 0) none,
      or-false m.wires.intrq,
      or-false m.wires.intrq,
    )
    refl

-- the same where the code has looked at the cell and the conditions
abbrev Tells : Machine → Lines → ℕ → Option Transfer → Type 0
Tells m l cell None = Unit {0}
Tells m l cell (Some t) =
    (ltb 511 cell ≡ false)
    × (cell_turn m l cell ≡ record { machine = after_transfer m l.ready t.dr t.next; cell = t.cell; pulse = pulse.Off })

tells : (m : Machine) (l : Lines) (cell : ℕ) → Tells m l cell (transfer_now m l cell)
unfolding transfer_now
tells m l cell =
    by_cond (Tells m l cell) (ltb 511 cell) (λ e. tt)
    (λ e.
    by_cond (Tells m l cell) (conditions_asked (conditions_of m)) (λ some. tt)
    (λ none. by e none (transfer_in (sees_of m l cell) m.activity) (says m.order (sees_of m l cell) m.activity)))
  where
    by :
        ltb 511 cell ≡ false
        → conditions_asked (conditions_of m) ≡ false
        → (h : Option Transfer)
        → Says m.order (sees_of m l cell) m.activity h
        → Tells m l cell h
    by e none None g = tt
    by e none (Some t) g = (e, turned_over m l cell t.next t.dr t.cell none g)

module _ (m : Machine) (l : Lines) (row : List ℕ) (t : Transfer) (opens : row_refusal m (length row) ≡ done)
    (over : transfer_now m l (under m row) ≡ Some t) where
  told : Tells m l (under m row) (Some t)
  told = subst (Tells m l (under m row)) over (tells m l (under m row))

  abbrev behind : Machine
  behind = after_transfer m l.ready t.dr t.next

  passed_over : byte_time m l row ≡ record { outcome = done; pulse = pulse.Off; machine = behind }
  unfolding byte_time done_by
  passed_over = rw (done-ok _ opens, told.0, told.1) refl

  row_over : byte_time_row m l row ≡ set row m.ring.position t.cell
  unfolding byte_time_row
  row_over = rw (done-ok _ opens, told.0, told.1) refl

  stops_over : stops_at (byte_time m l row) ≡ true
  unfolding stops_at after_transfer
  stops_over = rw passed_over refl

  onward_over : onward l (at (empty_run done m) row) ≡ at (one_byte_time behind) (set row m.ring.position t.cell)
  unfolding onward ran_to counted_of tallied empty_run one_byte_time
  onward_over = rw (passed_over, row_over) refl

  -- a run that begins with it is no more
  pub over_run : (limit : ℕ) → 0 < limit → run_from m l limit row ≡ at (one_byte_time behind) (set row m.ring.position t.cell)
  unfolding empty_run
  over_run limit more =
      open_run m l limit row opens
      ∙ one_more limit l (at (empty_run done m) row) more
      ∙ ap
      (λ (b : Bool). cond b (onward l (at (empty_run done m) row)) (runs_on (limit - 1) l (onward l (at (empty_run done m) row))))
      stops_over
      ∙ onward_over

-- Demand 2's first sentence for the first calls after power-on, from `demand_1` and `demand_2` alone. Assumes nothing.
use mathlib.Core.Path.{◌≡◌, refl, sym, ap, ◌∙◌, subst}
use mathlib.Core.Bool.{Bool, true, cond}
use mathlib.Core.Logic.{inl, inr}
use mathlib.Core.List.{List}
use Prim.Native.Nat.{ℕ, ◌+◌, ◌≤◌}
use native.Mathlib.Omega.{arith}
use Rattle.scan.specs.Rows.{length_within}
use Rattle.effects.specs.Effects.{effect_of}
use Rattle.activity.specs.Limits.{busy_in, counts_within}
use Rattle.act.specs.Turns.{begun_activity, activity_act, act_of}
use Rattle.registers.specs.declared.Lines.{Lines}
use Rattle.registers.specs.Rings.{ring_within, ring_next, seen_of, condition_met}
use Rattle.registers.specs.Registers.{read_refusal, read_byte, guarded, load_refusal, load_regs, load_wires}
use Rattle.wd.specs.declared.Called.{Called}
use Rattle.wd.specs.declared.Read.{Read}
use Rattle.wd.specs.declared.Ran.{Ran}
use Rattle.wd.specs.declared.Passed.{Passed}
use Rattle.wd.specs.Machines.{valid_of, fresh_machine, power_on}
use Rattle.wd.specs.Reads.{read_register}
use Rattle.wd.specs.Loads.{load_register}
use Rattle.wd.specs.Turns.{act_applied, cell_turn}
use Rattle.wd.specs.Rows.{row_refusal, done_by, byte_time, byte_time_row, tallied, counted_of, ran_to, empty_run, stops_at, onward, runs_on, run_from}
use Rattle.reachable.proofs.Samples.{empty}
use Rattle.reachable.proofs.Valid.{Valid, power_on_valid}
use Rattle.safe.specs.Demand1.{AtPowerOn, power_on_1}
use Rattle.hosts.specs.Hosts.{Desk, called_all, served_at, at}
use Rattle.command.specs.declared.Chip.{Chip}
use Rattle.command.specs.declared.Chip.TheVariants.{Wd1797}
use Rattle.common.specs.Bits.{bit_of}
use Rattle.command.specs.Commands.{class_of}
use Rattle.accepting.specs.Accepting.{conditions_for}
use Rattle.in_time.proofs.Scenes.{fresh}
use Rattle.uses.specs.CallContracts.{PowerOnCall, PoweredOn, LoadCall, ReadCall, ByteTimeCall, RunCall}
use Rattle.uses.specs.Uses.{load, read, byte_time_call, run, Use, over, next, defined_by, documented, answered_by, Answered, passed_in, passed, passes_then, made_then, host_of, due_at}
use Rattle.uses.specs.Courses.{silent}
use Rattle.demands.proofs.Demand1.{demand_1}
use Rattle.demands.proofs.Demand2.{demand_2}
use Rattle.applied.specs.FirstCalls.{FirstCalls}
use Rattle.applied.proofs.Conditions.{is_one, one_with_u, accepts, taken as accepted}
use Rattle.refusals.specs.Numbers.{done}
use Rattle.std.specs.Result.{is_ok}
use Rattle.refusals.proofs.Outcomes.{number_done}

abbrev start : Bool → Chip → Desk
start mfm chip = record { machine = fresh mfm chip; row = empty }

-- ---- three calls

module _ (mfm : Bool) (chip : Chip) (l l' l'' : Lines) (r : Called) (p : Passed) (row : List ℕ) (q : Read)
    (loaded : LoadCall (fresh mfm chip) l 1 5 r) (passes : ByteTimeCall r.machine l' empty p row)
    (reads : ReadCall p.machine l'' 1 q) where
  abbrev calls : Use (start mfm chip) (record { machine = q.machine; row = row })
  calls = next (load l 1 5 (omega arith) r loaded) (next (byte_time_call l' p row passes) (next (read l'' 1 q reads) over))

  three_calls : (q.byte ≡ 5) × (q.machine.regs.tr ≡ 5) × (q.machine.ring.position ≡ 1) × (row ≡ empty)
  unfolding documented defined_by Answered answered_by power_on length_within fresh_machine valid_of ring_within counts_within busy_in
      load_register load_refusal guarded load_regs load_wires byte_time byte_time_row row_refusal done_by cell_turn act_applied effect_of
      ring_next seen_of act_of begun_activity activity_act read_register read_refusal read_byte
  three_calls =
      let (left, answers) = demand_2.exactly (start mfm chip) _ calls in (
        ap (λ (a : Read). a.byte) answers.1.1.0,
        ap (λ (d : Desk). d.machine.regs.tr) left,
        ap (λ (d : Desk). d.machine.ring.position) left,
        ap (λ (d : Desk). d.row) left,
      )

-- ---- a byte time and a run of limit 1

module _ (mfm : Bool) (chip : Chip) (l : Lines) (p : Passed) (r : Ran) (row row' : List ℕ) (passes : ByteTimeCall (fresh mfm chip) l empty p row)
    (runs_one : RunCall (fresh mfm chip) l 1 empty r row') where
  abbrev by_time : Use (start mfm chip) (record { machine = p.machine; row = row })
  by_time = next (byte_time_call l p row passes) over

  abbrev by_run : Use (start mfm chip) (record { machine = r.machine; row = row' })
  by_run = next (run l 1 r row' runs_one) over

  -- where a host is that makes n byte times
  abbrev made_by : ℕ → Desk
  made_by n = due_at (passes_then n l silent) (start mfm chip) (n + 0 + 0)

  time_after : made_by (cond (is_ok p.outcome) 1 0) ≡ record { machine = p.machine; row = row }
  unfolding host_of made_then passed passed_in served_at called_all at
  time_after = demand_2.every_use (start mfm chip) _ by_time silent 0

  run_after_lem : made_by r.tally.passed ≡ record { machine = r.machine; row = row' }
  unfolding host_of made_then passed passed_in served_at called_all at
  run_after_lem = demand_2.every_use (start mfm chip) _ by_run silent 0

  same_count : r.tally.passed ≡ cond (is_ok p.outcome) 1 0
  unfolding Answered answered_by power_on length_within fresh_machine valid_of ring_within counts_within busy_in byte_time byte_time_row
      row_refusal done_by cell_turn act_applied effect_of act_of begun_activity activity_act bit_of conditions_for class_of condition_met
      run_from runs_on stops_at empty_run onward ran_to counted_of tallied
  same_count =
      ap (λ (a : Ran). a.tally.passed) (demand_2.exactly (start mfm chip) _ by_run).1.0
      ∙ ap (λ (a : Passed). cond (is_ok a.outcome) 1 0) (sym (demand_2.exactly (start mfm chip) _ by_time).1.0)

  same_left : (r.machine ≡ p.machine) × (row' ≡ row)
  same_left =
      let same = sym run_after_lem ∙ ap made_by same_count ∙ time_after in
      (ap (λ (d : Desk). d.machine) same, ap (λ (d : Desk). d.row) same)

-- ---- the side output

side_on : (mfm : Bool) (l l' : Lines) (r s : Called)
    → LoadCall (fresh mfm Wd1797) l 0 0xC2 r
    → LoadCall r.machine l' 0 0xD0 s
    → (r.machine.sso ≡ true) × (s.machine.sso ≡ true)
unfolding bit_of power_on length_within fresh_machine
side_on mfm l l' r s first second =
    let asked = number_done _ ((demand_1.load (fresh mfm Wd1797) l 0 0xC2 r first).given.done.1 (accepted mfm Wd1797 l 0xC2 one_with_u)) in
    let on : r.machine.sso ≡ true =
    ap (λ (q : Called). q.machine.sso) first.told
    ∙ (demand_2.requests.side_output (fresh mfm Wd1797)).set l 0xC2 refl (inl (omega arith, omega arith))
    (ap (λ (q : Called). q.outcome) (sym first.told) ∙ asked) in (
      on,
      ap (λ (q : Called). q.machine.sso) second.told
          ∙ (demand_2.requests.side_output r.machine).left l' 0xD0 (inr (omega arith, omega arith))
          ∙ on,
    )

-- ---- power-on

module _ (size : ℕ) (mfm : Bool) (chip : Chip) (r : Called) (least : 2048 ≤ size) (most : size ≤ 10416)
    (call : PowerOnCall size mfm chip r) where
  taken : r.outcome ≡ done
  taken = number_done _ ((demand_1.power_on_call size mfm chip r call).given.done.1 none)
    where
      none : (j : ℕ) → AtPowerOn size j → ⊥
      none j (power_on_1 out) = out (least, most)

  powered : PoweredOn size mfm chip r.machine
  powered = demand_2.starts size mfm chip r call taken

  reads : (l : Lines) (s : Called) → LoadCall r.machine l 0 0x80 s → s.outcome ≡ done
  reads l s loads =
      let holds = subst (λ (q : Called). Valid q.machine) (sym call.told) (power_on_valid size mfm chip) in
      let none = accepts r.machine l holds powered.idle 0x80 (is_one r.machine.chip) in
      number_done _ ((demand_1.load r.machine l 0 0x80 s loads).given.done.1 none)

pub first_calls : FirstCalls
first_calls =
    record {
      starts = λ size mfm chip r least most call.
          let on = powered size mfm chip r least most call in
          (taken size mfm chip r least most call, on.ring, on.regs, on.chip_named, on.side_output);
      accepts = λ size mfm chip l r s least most call. reads size mfm chip r least most call l s;
      side_output = side_on;
      exactly = three_calls;
      one_by_one = same_left;
    }

-- DR holds a byte: no byte time puts anything else there, and no call loads anything else. Assumes nothing.
use mathlib.Core.List.{List, [], ◌∷◌}
use Prim.Native.Nat.{ℕ, zero, suc, ◌+◌, ◌<◌}
use native.Mathlib.Omega.{arith}
use lib.Dec.{ltb, eqb}
use lib.ListN.{length}
use Rattle.common.proofs.Cases.{by_cond}
use Rattle.command.specs.Commands.{decoded_of, is_restore}
use Rattle.command.specs.declared.Order.{Order}
use Rattle.command.specs.declared.Command.{Command}
use Rattle.std.specs.Prelude.{Option, Some, None}
use Rattle.activity.specs.Limits.{busy_in}
use Rattle.activity.specs.declared.Seen.{Seen}
use Rattle.activity.specs.declared.Act.{Act}
use Rattle.activity.specs.declared.Activity.{Activity}
use Rattle.activity.specs.declared.Deed.{Deed}
use Rattle.activity.specs.declared.Deed.TheVariants.{Nothing, Deliver, Named, Matched, NotFound, Record, Written, Ask, Take, Late, Step, Halt}
use Rattle.writing.specs.Writing.{preamble_deed}
use Rattle.act.proofs.Acts.{Passes, Writes, Acts, turns}
use Rattle.registers.specs.declared.Lines.{Lines}
use Rattle.registers.specs.declared.Regs.{Regs}
use Rattle.registers.specs.Registers.{load_refusal, load_regs}
use Rattle.accepting.specs.Accepting.{begin_regs}
use Rattle.effects.specs.declared.Parts.{Parts}
use Rattle.effects.specs.Effects.{delivered, address_named, record_over, record_read, cell_taken, stepped, halted, effect_of}
use Rattle.wd.specs.declared.Machine.{Machine}
use Rattle.wd.specs.declared.Called.{Called}
use Rattle.wd.specs.declared.Passed.{Passed as ByteTime}
use Rattle.wd.specs.Machines.{valid_of}
use Rattle.wd.specs.Loads.{command_begun, command_answer, load_register}
use Rattle.wd.specs.Turns.{parts_of, sees_of, act_applied, cell_turn}
use Rattle.wd.specs.Rows.{row_refusal, under, refused_at, done_by, byte_time}
use Rattle.hosts.specs.Hosts.{Call, loads, reads, called_of, called_all, Host, Desk, served_at, passes_under, at}
use Rattle.hosts.proofs.QuietCalls.{read_regs}
use Rattle.std.specs.Result.{is_ok}

abbrev Holds : Parts → Type 0
Holds p = p.regs.dr < 256

-- what a deed leaves in DR is a byte
module _ (o : Order) (s : Seen) (p : Parts) (low : Holds p) where
  passed : {a next : Activity} (deed : Deed) → Passes o s a next deed → Holds (effect_of p deed)
  unfolding effect_of delivered address_named record_over record_read stepped halted
  passed Nothing x = low
  passed (Deliver b) (Passes.data_byte e) = omega arith
  passed (Deliver b) (Passes.address_byte e) = omega arith
  passed (Named b track bad) Passes.address_over = omega arith
  passed (Matched bad) x = low
  passed NotFound x = low
  passed (Record deleted bad follows) x = low
  passed (Written follows) x = elim x [ ]
  passed (Ask more) x = elim x [ ]
  passed (Take more) x = elim x [ ]
  passed Late x = low
  passed (Step inward track) x = low
  passed (Halt rule load) x = low

  written : {a next : Activity} {cell : ℕ} {deed : Deed} → Writes o s a cell next deed → Holds (effect_of p deed)
  unfolding effect_of record_over cell_taken preamble_deed
  written (Writes.preamble_goes_on {n} e) = by_cond (λ d. Holds (effect_of p d)) (eqb (n + 1) 2) (λ f. low) (λ f. low)
  written (Writes.mark_put {n}) = by_cond (λ d. Holds (effect_of p d)) (eqb (n + 1) 2) (λ f. low) (λ f. low)
  written (Writes.byte_put e) = low
  written (Writes.high_put e) = low
  written (Writes.low_put e) = low
  written Writes.record_put = low
  written Writes.high_laid = low
  written Writes.byte_laid = low
  written Writes.low_laid = low

  acted : {a : Activity} {act : Act} → Acts o s a act → Holds (effect_of p act.deed)
  acted (Acts.passes x) = passed _ x
  acted (Acts.writes e x) = written x

-- so a byte time leaves a byte there, refused or not
byte_time_byte : (m : Machine) (l : Lines) (row : List ℕ) → m.regs.dr < 256 → (byte_time m l row).machine.regs.dr < 256
unfolding byte_time refused_at done_by cell_turn act_applied
byte_time_byte m l row low =
    by_cond (λ (p : ByteTime). p.machine.regs.dr < 256) (is_ok (row_refusal m (length row)))
    (λ e.
    by_cond (λ (p : ByteTime). p.machine.regs.dr < 256) (ltb 511 (under m row))
    (λ f. low)
    (λ f. let s = sees_of m l (under m row) in acted m.order s (parts_of m) low (turns m.order s m.activity)))
    (λ e. low)

-- ---- and no call loads anything else

-- "Restore sets TR 255, DR 0 at acceptance"; other commands leave DR
pub begun_byte :
    (m : Machine) (l : Lines) (b : ℕ) (command : Command)
    → m.regs.dr < 256
    → (command_begun m l b command).regs.dr < 256
unfolding command_begun begin_regs
begun_byte m l b command low =
    by_cond (λ (r : Regs). r.dr < 256) (is_restore command) (λ e. omega arith) (λ e. low)

answer_byte :
    (m : Machine) (l : Lines) (b : ℕ) (d : Option Command)
    → m.regs.dr < 256
    → (command_answer m l b d).machine.regs.dr < 256
unfolding command_answer
answer_byte m l b (Some command) low = begun_byte m l b command low
answer_byte m l b None low = low

load_byte :
    (m : Machine) (l : Lines) (number b : ℕ)
    → b < 256
    → m.regs.dr < 256
    → (load_register m l number b).machine.regs.dr < 256
unfolding load_register load_regs
load_byte m l number b byte low =
    by_cond (λ (q : Called). q.machine.regs.dr < 256) (is_ok (load_refusal (valid_of m) (busy_in m.activity) number b))
    (λ taken.
    by_cond (λ (q : Called). q.machine.regs.dr < 256) (eqb number 0)
    (λ command. answer_byte m l b (decoded_of m.chip b) low)
    (λ other.
    by_cond (λ (r : Regs). r.dr < 256) (eqb number 1)
    (λ tr. low)
    (λ e. by_cond (λ (r : Regs). r.dr < 256) (eqb number 2) (λ sr. low) (λ dr. byte))))
    (λ refused. low)

call_byte : (m : Machine) (c : Call) → m.regs.dr < 256 → (called_of m c).regs.dr < 256
unfolding called_of
call_byte m (loads l number b byte) low = load_byte m l number b byte low
call_byte m (reads l number) low = rw (read_regs m l number) low

calls_byte : (m : Machine) (cs : List Call) → m.regs.dr < 256 → (called_all m cs).regs.dr < 256
unfolding called_all
calls_byte m [] low = low
calls_byte m (c ∷ cs) low = calls_byte (called_of m c) cs (call_byte m c low)

-- so where a host begins with a byte in DR, each of its byte times finds one there
module _ (h : Host) (d : Desk) (low : d.machine.regs.dr < 256) where
  at_byte : (k : ℕ) → (at h d k).machine.regs.dr < 256
  unfolding at served_at passes_under
  at_byte zero = low
  at_byte (suc k) =
      byte_time_byte (called_all (at h d k).machine (h.calls k)) (h.lines k) (at h d k).row
      (calls_byte (at h d k).machine (h.calls k) (at_byte k))

  pub found_byte : (k : ℕ) → (served_at h k (at h d k)).machine.regs.dr < 256
  unfolding served_at
  found_byte k = calls_byte (at h d k).machine (h.calls k) (at_byte k)

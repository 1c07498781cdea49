-- The accident of March again, from `march` and `demand_2` alone. Assumes nothing.
use mathlib.Core.Path.{◌≡◌, sym, ◌∙◌, subst}
use mathlib.Core.Bool.{true, false, true≢false, not-eq-not}
use mathlib.Core.Logic.{◌⊎◌, inl, inr}
use Prim.Native.Nat.{suc}
use native.Mathlib.Omega.{arith}
use Rattle.common.specs.Bits.{bit_of}
use Rattle.registers.specs.declared.Lines.{Lines}
use Rattle.wd.specs.declared.Read.{Read}
use Rattle.reachable.proofs.Samples.{on}
use Rattle.hosts.specs.Hosts.{none, Host, Desk}
use Rattle.lost_data.specs.LostData.{ZeroWritten, Terminated, PutOver}
use Rattle.uses.specs.CallContracts.{ReadCall}
use Rattle.uses.specs.Uses.{Use, throughout, no_command, passed}
use Rattle.uses.specs.Courses.{read_sector, lost_data_bit, Accepted, since, silent, ReadByte, WriteByte}
use Rattle.uses.proofs.Calls.{a_read}
use Rattle.uses.proofs.Statuses.{shown}
use Rattle.demands.proofs.Demand2.{demand_2}
use Rattle.demands.proofs.March.{march}
use Rattle.applied.specs.March.{MarchAgain}
use Rattle.applied.proofs.AllCalls.{all_calls, all_host, all_passed, all_alone}
use Rattle.applied.proofs.Unread.{unread}

-- before its first byte time a command has been late for nothing
cleared : (c : Accepted) (e : Desk) (u : Use (since c) e)
    → throughout no_command u ≡ true
    → passed u ≡ 0
    → (l : Lines) (r : Read)
    → ReadCall e.machine l 0 r
    → ReadByte c.machine.chip c.byte ⊎ WriteByte c.machine.chip c.byte
    → bit_of r.byte lost_data_bit ≡ true
    → ⊥
cleared c e u alone zero l r call (inl byte) lost =
    let (k, low, cause) = (march.read c e u byte alone l r call).0 lost in
    omega (arith, low, zero)
cleared c e u alone zero l r call (inr byte) lost =
    let (k, low, cause) = (march.write c e u byte alone l r call).0 lost in
    omega (arith, low, zero)

pub march_again : MarchAgain
march_again =
    record {
      unread = unread;
      served = λ t p a served k low over.
          let lost = march.never_silently t.read t.reading.after (all_calls t.reading) k
          (inl (read_sector a.reads.first a.reads.last a.reads.even)) (all_alone t.reading)
          (omega (arith, low, all_passed t.reading))
          (subst (λ (h : Host). PutOver h (since t.read) k) (sym (all_host t.reading silent)) over) in
          true≢false
          (sym (shown t.reading.after lost_data_bit true on lost)
          ∙ shown t.reading.after lost_data_bit false on ((demand_2.reads_back t p a).none_lost served));
      idle_host = λ d k over. march.of_every_machine silent d k (suc k) over (omega arith) (λ i after before. none);
      written = λ c course byte off k low late.
          let on_then = (march.write c course.after (all_calls course) byte (all_alone course) on _
          (a_read course.after.machine on 0)).1 (
            k,
            omega (arith, low, all_passed course),
            subst (λ (h : Host). ZeroWritten h (since c) k ⊎ Terminated h (since c) k) (sym (all_host course silent)) late,
          ) in
          true≢false (sym on_then ∙ shown course.after lost_data_bit false on off);
      cleared = λ c e u which alone zero l r call. not-eq-not.0 (cleared c e u alone zero l r call which);
    }

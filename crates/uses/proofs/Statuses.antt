-- What a read of the status shows on the way, as the machine holds it. Assumes nothing.
use mathlib.Core.Path.{◌≡◌, sym, ap, ◌∙◌, subst}
use mathlib.Core.Bool.{Bool}
use Prim.Native.Nat.{ℕ}
use Rattle.common.specs.Bits.{bit_of}
use Rattle.activity.specs.Limits.{busy_in}
use Rattle.registers.specs.declared.Lines.{Lines}
use Rattle.wd.specs.declared.Called.{Called}
use Rattle.wd.specs.declared.Read.{Read}
use Rattle.wd.specs.declared.Passed.{Passed}
use Rattle.wd.specs.declared.Ran.{Ran}
use Rattle.wd.specs.Reads.{read_register}
use Rattle.reachable.proofs.Valid.{Valid, load_valid, read_valid, byte_time_valid, run_valid}
use Rattle.reachable.proofs.StatusBits.{status_busy}
use Rattle.hosts.specs.Hosts.{Desk}
use Rattle.hosts.proofs.Accepted.{accepted_valid}
use Rattle.uses.specs.Uses.{Made, load, read, byte_time_call, run, Use, over, next}
use Rattle.uses.specs.Courses.{busy_bit, Shows, Showed, Accepted, since}
use Rattle.uses.proofs.Calls.{a_read}
use Rattle.uses.proofs.EveryUse.{byte_time_told, run_told}

-- ---- every call keeps a valid machine valid

pub made_valid : {d e : Desk} → Made d e → Valid d.machine → Valid e.machine
made_valid {d} (load l number b byte r told) v =
    subst (λ (q : Called). Valid q.machine) (sym told.told) (load_valid d.machine l number b v)
made_valid {d} (read l number r told) v =
    subst (λ (q : Read). Valid q.machine) (sym told.told) (read_valid d.machine l number v)
made_valid {d} (byte_time_call l r row told) v =
    subst (λ (q : Passed). Valid q.machine) (sym (byte_time_told told).0) (byte_time_valid d.machine l d.row v)
made_valid {d} (run l limit r row told) v =
    subst (λ (q : Ran). Valid q.machine) (sym (run_told told).0) (run_valid d.machine l limit d.row v)

pub use_valid : {d e : Desk} → Use d e → Valid d.machine → Valid e.machine
use_valid over v = v
use_valid (next made rest) v = use_valid rest (made_valid made v)

-- so is the machine that has accepted a command
pub since_valid : (c : Accepted) → Valid (since c).machine
since_valid c =
    subst (λ (q : Called). Valid q.machine) (sym c.call.told)
    (load_valid c.machine c.lines 0 c.byte
    (accepted_valid c.machine c.lines c.byte (ap (λ (q : Called). q.outcome) (sym c.call.told) ∙ c.outcome)))

-- ---- a read of the status

-- a bit that is that of the machine under any lines
pub shows : (d : Desk) (bit : ℕ) (on : Bool) → ((l : Lines) → bit_of (read_register d.machine l 0).byte bit ≡ on) → Shows d bit on
shows d bit on is l r call = ap (λ (q : Read). bit_of q.byte bit) call.told ∙ is l

pub shown : (d : Desk) (bit : ℕ) (b : Bool) (l : Lines) → Shows d bit b → bit_of (read_register d.machine l 0).byte bit ≡ b
shown d bit b l s = s l (read_register d.machine l 0) (a_read d.machine l 0)

pub showed : (d : Desk) (bit : ℕ) (is b : Bool)
    → ((l : Lines) → bit_of (read_register d.machine l 0).byte bit ≡ is)
    → Showed d bit b
    → is ≡ b
showed d bit is b same (l, r, call, byte) = sym (same l) ∙ ap (λ (q : Read). bit_of q.byte bit) (sym call.told) ∙ byte

pub busy_showed : (d : Desk) (b : Bool) → Valid d.machine → Showed d busy_bit b → busy_in d.machine.activity ≡ b
busy_showed d b v = showed d busy_bit (busy_in d.machine.activity) b (λ l. status_busy d.machine l v)

pub shows_busy : (d : Desk) (b : Bool) → Valid d.machine → busy_in d.machine.activity ≡ b → Shows d busy_bit b
shows_busy d b v is = shows d busy_bit b (λ l. status_busy d.machine l v ∙ is)

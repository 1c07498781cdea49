-- Register calls of which none is an accepted command, any number of them, under any lines, change registers and wires only,
-- and while Busy no register but DR. Assumes nothing.
use mathlib.Core.Path.{◌≡◌, refl, sym, ap, ◌∙◌, subst}
use mathlib.Core.Bool.{Bool, true, false, cond, ◌&&◌, ◌||◌}
use mathlib.Core.List.{List, [], ◌∷◌}
use Prim.Native.Nat.{ℕ}
use lib.Dec.{leb, eqb}
use Rattle.common.proofs.Cases.{by_cond, never}
use Rattle.command.specs.Commands.{decoded_of}
use Rattle.std.specs.Prelude.{Option, Some, None}
use Rattle.command.specs.declared.Command.{Command}
use Rattle.activity.specs.Limits.{busy_in}
use Rattle.registers.specs.declared.Lines.{Lines}
use Rattle.registers.specs.Registers.{read_refusal, guarded, load_refusal, load_regs, load_wires}
use Rattle.wd.specs.declared.Machine.{Machine}
use Rattle.wd.specs.declared.Called.{Called}
use Rattle.wd.specs.declared.Read.{Read}
use Rattle.wd.specs.Machines.{valid_of}
use Rattle.wd.specs.Reads.{with_bus, read_register}
use Rattle.wd.specs.Loads.{command_answer, load_register}
use Rattle.reachable.proofs.Valid.{Valid, load_valid, read_valid}
use Rattle.hosts.specs.Hosts.{Call, loads, reads, called_of, commands, called_all, NoneAccepted, none, more}
use Rattle.refusals.specs.declared.Refusal.TheVariants as refusal
use Rattle.refusals.specs.Numbers.{refused, Outcome, done}
use Rattle.std.specs.Result.{is_ok}

-- the machine with the registers and wires of another
abbrev pub bus_from : Machine → Machine → Machine
bus_from m other = with_bus m other.regs other.wires

-- ---- a load

-- a load while Busy that is done: it is neither of TR nor of SR
unguarded :
    (valid : Bool) (number b : ℕ)
    → is_ok (load_refusal valid true number b) ≡ true
    → (eqb number 1 ≡ false) × (eqb number 2 ≡ false)
unfolding load_refusal guarded
unguarded true number b =
    by_cond (λ (o : Outcome). is_ok o ≡ true → (eqb number 1 ≡ false) × (eqb number 2 ≡ false)) (leb number 3)
    (λ low. by (eqb number 1) (eqb number 2) (eqb number 0 && _))
    (λ high e. never (cc))
  where
    by : (one two zero : Bool) → is_ok (cond (one || two || zero) (refused refusal.Busy) done) ≡ true → (one ≡ false) × (two ≡ false)
    by true two zero e = never (cc)
    by false true zero e = never (cc)
    by false false zero e = (refl, refl)
unguarded false number b = λ e. never (cc)

commanded_bus : (m : Machine) (l : Lines) (b : ℕ) (d : Option Command)
    → is_ok (command_answer m l b d).outcome ≡ false
    → (command_answer m l b d).machine ≡ m
unfolding command_answer
commanded_bus m l b (Some command) e = never (cc)
commanded_bus m l b None e = refl

module _ (m : Machine) (l : Lines) (number b : ℕ) where
  -- no accepted command
  abbrev NoneIn : Called → Type 0
  NoneIn q = (eqb number 0 && is_ok q.outcome) ≡ false

  -- it leaves the machine, or sets a register
  pub load_by :
      (P : Machine → Type 0)
      → P m
      → (eqb number 0 ≡ false
      → is_ok (load_refusal (valid_of m) (busy_in m.activity) number b) ≡ true
      → P (with_bus m (load_regs m.regs number b) (load_wires m.wires number)))
      → (eqb number 0 && is_ok (load_register m l number b).outcome) ≡ false
      → P (load_register m l number b).machine
  unfolding load_register
  load_by P left sets =
      by_cond (λ (q : Called). NoneIn q → P q.machine)
      (is_ok (load_refusal (valid_of m) (busy_in m.activity) number b))
      (λ taken.
      by_cond (λ (q : Called). NoneIn q → P q.machine) (eqb number 0)
      (λ zero quiet. subst P (sym (commanded_bus m l b (decoded_of m.chip b) (rw zero at quiet))) left)
      (λ other quiet. sets other taken))
      (λ refused quiet. left)

  load_bus : NoneIn (load_register m l number b) → (load_register m l number b).machine ≡ bus_from m (load_register m l number b).machine
  load_bus = load_by (λ (n : Machine). n ≡ bus_from m n) refl (λ other taken. refl)

  -- 6: "TR, SR .. loaded while Busy"
  load_targets :
      busy_in m.activity ≡ true
      → NoneIn (load_register m l number b)
      → ((load_register m l number b).machine.regs.tr ≡ m.regs.tr) × ((load_register m l number b).machine.regs.sr ≡ m.regs.sr)
  unfolding load_regs
  load_targets busy =
      load_by (λ (n : Machine). (n.regs.tr ≡ m.regs.tr) × (n.regs.sr ≡ m.regs.sr)) (refl, refl)
      (λ other taken.
      let free = unguarded (valid_of m) number b (rw busy at taken) in
      simp (free.0, free.1) (refl, refl))

-- ---- a read

read_bus : (m : Machine) (l : Lines) (number : ℕ) → (read_register m l number).machine ≡ bus_from m (read_register m l number).machine
unfolding read_register
read_bus m l number =
    by_cond (λ (q : Read). q.machine ≡ bus_from m q.machine) (is_ok (read_refusal (valid_of m) number))
    (λ taken. refl)
    (λ refused. refl)

pub read_regs : (m : Machine) (l : Lines) (number : ℕ) → (read_register m l number).machine.regs ≡ m.regs
unfolding read_register
read_regs m l number =
    by_cond (λ (q : Read). q.machine.regs ≡ m.regs) (is_ok (read_refusal (valid_of m) number))
    (λ taken. refl)
    (λ refused. refl)

-- ---- any call

call_bus : (m : Machine) (c : Call) → commands m c ≡ false → called_of m c ≡ bus_from m (called_of m c)
unfolding called_of commands
call_bus m (loads l number b byte) quiet = load_bus m l number b quiet
call_bus m (reads l number) quiet = read_bus m l number

call_targets : (m : Machine) (c : Call)
    → commands m c ≡ false
    → busy_in m.activity ≡ true
    → ((called_of m c).regs.tr ≡ m.regs.tr) × ((called_of m c).regs.sr ≡ m.regs.sr)
unfolding called_of commands
call_targets m (loads l number b byte) quiet busy = load_targets m l number b busy quiet
call_targets m (reads l number) quiet busy = simp (read_regs m l number) (refl, refl)

call_valid : (m : Machine) (c : Call) → Valid m → Valid (called_of m c)
unfolding called_of
call_valid m (loads l number b byte) v = load_valid m l number b v
call_valid m (reads l number) v = read_valid m l number v

-- ---- any number of calls

-- registers and wires are all that they change
pub calls_bus : (m : Machine) (cs : List Call) → NoneAccepted m cs → called_all m cs ≡ bus_from m (called_all m cs)
unfolding called_all
calls_bus m [] none = refl
calls_bus m (c ∷ cs) (more quiet rest) =
    calls_bus (called_of m c) cs rest ∙ ap (λ (n : Machine). bus_from n (called_all (called_of m c) cs)) (call_bus m c quiet)

-- a valid machine stays valid, whatever the calls
pub calls_valid : (m : Machine) (cs : List Call) → Valid m → Valid (called_all m cs)
unfolding called_all
calls_valid m [] v = v
calls_valid m (c ∷ cs) v = calls_valid (called_of m c) cs (call_valid m c v)

-- the command goes on, or none does
pub calls_activity : (m : Machine) (cs : List Call) → NoneAccepted m cs → (called_all m cs).activity ≡ m.activity
calls_activity m cs quiet = ap (λ (n : Machine). n.activity) (calls_bus m cs quiet)

-- while Busy TR and SR stay
pub calls_targets :
    (m : Machine) (cs : List Call)
    → NoneAccepted m cs
    → busy_in m.activity ≡ true
    → ((called_all m cs).regs.tr ≡ m.regs.tr) × ((called_all m cs).regs.sr ≡ m.regs.sr)
unfolding called_all
calls_targets m [] none busy = (refl, refl)
calls_targets m (c ∷ cs) (more quiet rest) busy =
    let here = call_targets m c quiet busy in
    let still = ap (λ (n : Machine). busy_in n.activity) (call_bus m c quiet) ∙ busy in
    let later = calls_targets (called_of m c) cs rest still in
    (later.0 ∙ here.0, later.1 ∙ here.1)

-- Register calls of which none loads DR, and none is an accepted command, leave DR as it is. Assumes nothing.
use mathlib.Core.Path.{◌≡◌, refl, ap, ◌∙◌}
use mathlib.Core.Bool.{Bool, true, false, not, ◌&&◌}
use mathlib.Core.List.{List, [], ◌∷◌}
use Prim.Native.Nat.{ℕ, ◌≤◌}
use native.Mathlib.Omega.{arith}
use lib.Dec.{leb, eqb}
use borrow.Author.Tests.{eqb-false, leb-true}
use Rattle.common.proofs.Cases.{by_cond, never, both, not_on}
use Rattle.activity.specs.Limits.{busy_in}
use Rattle.registers.specs.declared.Lines.{Lines}
use Rattle.registers.specs.declared.Regs.{Regs}
use Rattle.registers.specs.Registers.{load_refusal, load_regs}
use Rattle.wd.specs.declared.Machine.{Machine}
use Rattle.wd.specs.Machines.{valid_of}
use Rattle.wd.specs.Loads.{load_register}
use Rattle.hosts.specs.Hosts.{Call, loads, reads, called_of, commands, called_all, NoneAccepted, none, more}
use Rattle.hosts.proofs.QuietCalls.{load_by, read_regs}
use Rattle.ends.specs.Ends.{leaves_dr}
use Rattle.std.specs.Result.{is_ok}
use Rattle.refusals.specs.Numbers.{Outcome}

-- a load that is done: its register is one of the four
of_four : (valid busy : Bool) (number b : ℕ) → is_ok (load_refusal valid busy number b) ≡ true → number ≤ 3
unfolding load_refusal
of_four true busy number b =
    by_cond (λ (o : Outcome). is_ok o ≡ true → number ≤ 3) (leb number 3) (λ low e. leb-true number 3 low) (λ high e. never (cc))
of_four false busy number b = λ e. never (cc)

-- what it hands back has the DR that it was given, if it is no accepted command
load_steady :
    (m : Machine) (l : Lines) (number b : ℕ)
    → eqb number 3 ≡ false
    → (eqb number 0 && is_ok (load_register m l number b).outcome) ≡ false
    → (load_register m l number b).machine.regs.dr ≡ m.regs.dr
unfolding load_regs
load_steady m l number b other =
    load_by m l number b (λ (n : Machine). n.regs.dr ≡ m.regs.dr) refl
    (λ nonzero taken.
    by_cond (λ (r : Regs). r.dr ≡ m.regs.dr) (eqb number 1)
    (λ tr. refl)
    (λ not_tr.
    by_cond (λ (r : Regs). r.dr ≡ m.regs.dr) (eqb number 2)
    (λ sr. refl)
    (λ not_sr.
    absurd
    (omega (
      arith,
      of_four (valid_of m) (busy_in m.activity) number b taken,
      eqb-false number 0 nonzero,
      eqb-false number 1 not_tr,
      eqb-false number 2 not_sr,
      eqb-false number 3 other,
    )))))

call_steady : (m : Machine) (c : Call) (cs : List Call)
    → commands m c ≡ false
    → leaves_dr (c ∷ cs) ≡ true
    → ((called_of m c).regs.dr ≡ m.regs.dr) × (leaves_dr cs ≡ true)
unfolding called_of commands leaves_dr
call_steady m (loads l number b byte) cs quiet leaves =
    let parts = both (not (eqb number 3)) (leaves_dr cs) leaves in
    (load_steady m l number b (not_on (eqb number 3) parts.0) quiet, parts.1)
call_steady m (reads l number) cs quiet leaves = (ap (λ (r : Regs). r.dr) (read_regs m l number), leaves)

pub calls_steady :
    (m : Machine) (cs : List Call) → NoneAccepted m cs → leaves_dr cs ≡ true → (called_all m cs).regs.dr ≡ m.regs.dr
unfolding called_all
calls_steady m [] none leaves = refl
calls_steady m (c ∷ cs) (more quiet rest) leaves =
    let here = call_steady m c cs quiet leaves in
    calls_steady (called_of m c) cs rest here.1 ∙ here.0

-- "Reading or loading DR turns DRQ off.": register calls of which none is an accepted command leave DRQ as it is, but for those
-- of DR, which turn it off. Assumes nothing.
use mathlib.Core.Path.{◌≡◌, refl, sym, ap, ◌∙◌}
use mathlib.Core.Bool.{Bool, true, false, not, ◌&&◌, and-true, and-false, and_assoc}
use mathlib.Core.List.{List, [], ◌∷◌}
use Prim.Native.Nat.{ℕ}
use native.Mathlib.Omega.{arith}
use lib.Dec.{leb, eqb}
use borrow.Author.Tests.{leb-false, eqb-true, ne_eqb}
use Rattle.registers.specs.declared.Lines.{Lines}
use Rattle.registers.specs.Registers.{read_refusal, read_wires, guarded, load_refusal, load_wires}
use Rattle.wd.specs.declared.Machine.{Machine}
use Rattle.wd.specs.Reads.{read_register}
use Rattle.wd.specs.Loads.{load_register}
use Rattle.reachable.proofs.Valid.{Valid}
use Rattle.hosts.specs.Hosts.{Call, loads, reads, called_of, commands, called_all, NoneAccepted, none, more}
use Rattle.hosts.proofs.QuietCalls.{load_by, calls_valid}
use Rattle.lost_data.specs.LostData.{on_dr, none_on_dr}
use Rattle.std.specs.Result.{is_ok}

module _ (m : Machine) (valid : Valid m) where
  -- no load of DR is refused
  dr_loaded : (l : Lines) (b : ℕ) → (load_register m l 3 b).machine.wires.drq ≡ false
  unfolding load_register load_refusal guarded load_wires
  dr_loaded l b = simp (valid, and-false)

  load_drq :
      (l : Lines) (number b : ℕ)
      → (eqb number 0 && is_ok (load_register m l number b).outcome) ≡ false
      → (load_register m l number b).machine.wires.drq ≡ (m.wires.drq && not (eqb number 3))
  unfolding load_wires
  load_drq l number b quiet = by (eqb number 3) refl
    where
      by :
          (dr : Bool)
          → eqb number 3 ≡ dr
          → (load_register m l number b).machine.wires.drq ≡ (m.wires.drq && not dr)
      by true e = rw (eqb-true number 3 e) (dr_loaded l b ∙ sym (and-false m.wires.drq))
      by false e =
          load_by m l number b (λ (n : Machine). n.wires.drq ≡ (m.wires.drq && true)) (sym (and-true m.wires.drq))
          (λ other taken. ap (λ (dr : Bool). m.wires.drq && not dr) e) quiet

  read_drq : (l : Lines) (number : ℕ) → (read_register m l number).machine.wires.drq ≡ (m.wires.drq && not (eqb number 3))
  unfolding read_register read_refusal read_wires
  read_drq l number = by (leb number 3) refl
    where
      by :
          (low : Bool)
          → leb number 3 ≡ low
          → (read_register m l number).machine.wires.drq ≡ (m.wires.drq && not (eqb number 3))
      by true e = simp (valid, e)
      by false e = simp (valid, e, ne_eqb number 3 (omega (arith, leb-false number 3 e)), and-true)

  call_drq : (c : Call) → commands m c ≡ false → (called_of m c).wires.drq ≡ (m.wires.drq && not (on_dr c))
  unfolding called_of commands on_dr
  call_drq (loads l number b byte) quiet = load_drq l number b quiet
  call_drq (reads l number) quiet = read_drq l number

pub calls_drq :
    (m : Machine) (cs : List Call)
    → Valid m
    → NoneAccepted m cs
    → (called_all m cs).wires.drq ≡ (m.wires.drq && none_on_dr cs)
unfolding called_all none_on_dr
calls_drq m [] valid none = sym (and-true m.wires.drq)
calls_drq m (c ∷ cs) valid (more quiet rest) =
    calls_drq (called_of m c) cs (calls_valid m (c ∷ []) valid) rest
    ∙ ap (λ (on : Bool). on && none_on_dr cs) (call_drq m valid c quiet)
    ∙ and_assoc m.wires.drq (not (on_dr c)) (none_on_dr cs)

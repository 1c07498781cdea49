-- Register calls that are no commands: what they do to DR and DRQ, and the bytes that a list of them moves where each on DR is
-- made with DRQ on. Assumes nothing.
use mathlib.Core.Path.{◌≡◌, refl, sym, ap, ap₂, ◌∙◌}
use mathlib.Core.Bool.{Bool, true, false, cond, ◌&&◌, and-true, and-false, true≢false}
use mathlib.Core.List.{List, [], ◌∷◌}
use Prim.Native.Nat.{ℕ}
use native.Mathlib.Omega.{arith}
use lib.Dec.{leb, eqb}
use borrow.Author.Tests.{leb-true, eqb-true, eqb-false}
use Rattle.common.proofs.Cases.{by_cond, never}
use Rattle.activity.specs.Limits.{busy_in}
use Rattle.registers.specs.declared.Lines.{Lines}
use Rattle.registers.specs.declared.Regs.{Regs}
use Rattle.registers.specs.Registers.{read_refusal, read_byte, read_wires, guarded, load_refusal, load_regs, load_wires}
use Rattle.wd.specs.declared.Machine.{Machine}
use Rattle.wd.specs.declared.Read.{Read}
use Rattle.wd.specs.Machines.{valid_of}
use Rattle.wd.specs.Reads.{read_register}
use Rattle.wd.specs.Loads.{load_register}
use Rattle.reachable.proofs.Valid.{Valid, load_valid, read_valid}
use Rattle.hosts.specs.Hosts.{Call, loads, reads, called_of, commands, called_all, NoneAccepted, none, more}
use Rattle.hosts.proofs.QuietCalls.{load_by}
use Rattle.served.specs.Served.{given, returned, loads_dr, reads_dr, OnDrq}
use Rattle.refusals.specs.Numbers.{refused, done}
use Rattle.std.specs.Result.{is_ok}
use Rattle.refusals.specs.declared.Refusal.TheVariants as refusal

-- DR and DRQ as they were
pub record Leaves (m next : Machine) : Type 0 where
  pub dr : next.regs.dr ≡ m.regs.dr
  pub drq : next.wires.drq ≡ m.wires.drq

-- ---- a call that is not on DR

-- 5: "register number above 3"
low_number : (valid busy : Bool) (number b : ℕ) → is_ok (load_refusal valid busy number b) ≡ true → leb number 3 ≡ true
unfolding load_refusal
low_number false busy number b e = never (cc)
low_number true busy number b e = by (leb number 3) e
  where
    by : (low : Bool) → is_ok (cond low (cond (busy && guarded number b) (refused refusal.Busy) done) (refused refusal.Register)) ≡ true → low ≡ true
    by true f = refl
    by false f = never (cc)

load_leaves :
    (m : Machine) (l : Lines) (number b : ℕ)
    → eqb number 3 ≡ false
    → (eqb number 0 && is_ok (load_register m l number b).outcome) ≡ false
    → Leaves m (load_register m l number b).machine
unfolding load_regs load_wires
load_leaves m l number b three =
    load_by m l number b (Leaves m) (record { dr = refl; drq = refl })
    (λ other taken.
    record {
      dr =
          by_cond (λ (r : Regs). r.dr ≡ m.regs.dr) (eqb number 1)
          (λ tr. refl)
          (λ one.
          by_cond (λ (r : Regs). r.dr ≡ m.regs.dr) (eqb number 2)
          (λ sr. refl)
          (λ two.
          absurd
          (omega (
            arith,
            leb-true number 3 (low_number (valid_of m) (busy_in m.activity) number b taken),
            eqb-false number 0 other,
            eqb-false number 1 one,
            eqb-false number 2 two,
            eqb-false number 3 three,
          ))));
      drq = rw three (and-true m.wires.drq);
    })

pub read_leaves : (m : Machine) (l : Lines) (number : ℕ) → eqb number 3 ≡ false → Leaves m (read_register m l number).machine
unfolding read_register read_wires
read_leaves m l number three =
    by_cond (λ (q : Read). Leaves m q.machine) (is_ok (read_refusal (valid_of m) number))
    (λ taken. record { dr = refl; drq = rw three (and-true m.wires.drq) })
    (λ refused. record { dr = refl; drq = refl })

call_leaves :
    (m : Machine) (c : Call)
    → commands m c ≡ false
    → loads_dr c ≡ false
    → reads_dr c ≡ false
    → Leaves m (called_of m c)
unfolding called_of commands loads_dr reads_dr
call_leaves m (loads l number b byte) quiet three other = load_leaves m l number b three quiet
call_leaves m (reads l number) quiet other three = read_leaves m l number three

-- ---- a call on DR

-- "Reading or loading DR turns DRQ off.", "Writes 0 to 3: command, TR, SR, DR."
load_on :
    (m : Machine) (l : Lines) (number b : ℕ)
    → Valid m
    → eqb number 3 ≡ true
    → ((load_register m l number b).machine.regs.dr ≡ b) × ((load_register m l number b).machine.wires.drq ≡ false)
unfolding load_register load_refusal guarded load_regs load_wires
load_on m l number b v three =
    rw (eqb-true number 3 three) (simp (v, and-false (busy_in m.activity), and-false m.wires.drq) (refl, refl))

-- "Reads 0 to 3: status, TR, SR, DR."
pub read_on :
    (m : Machine) (l : Lines) (number : ℕ)
    → Valid m
    → eqb number 3 ≡ true
    → ((read_register m l number).byte ≡ m.regs.dr) × ((read_register m l number).machine.wires.drq ≡ false)
unfolding read_register read_refusal read_byte read_wires
read_on m l number v three = rw (eqb-true number 3 three) (simp (v, and-false m.wires.drq) (refl, refl))

-- ---- calls one after another

-- with DRQ off one of them is not on DR
unasked : (kind drq : Bool) → (kind ≡ true → drq ≡ true) → drq ≡ false → kind ≡ false
unasked true drq asks off = absurd (true≢false (sym (asks refl) ∙ off))
unasked false drq asks off = refl

pub calls_leave :
    (m : Machine) (cs : List Call)
    → NoneAccepted m cs
    → OnDrq loads_dr reads_dr m cs
    → m.wires.drq ≡ false
    → Leaves m (called_all m cs)
unfolding called_all
calls_leave m [] none OnDrq.none off = record { dr = refl; drq = refl }
calls_leave m (c ∷ cs) (more quiet rest) (OnDrq.more asks other served) off =
    let here = call_leaves m c quiet (unasked (loads_dr c) m.wires.drq asks off) other in
    let later = calls_leave (called_of m c) cs rest served (here.drq ∙ off) in
    record { dr = later.dr ∙ here.dr; drq = later.drq ∙ here.drq }

-- the byte that is moved, if DRQ is on
abbrev pub one_if : Bool → ℕ → List ℕ
one_if drq b = cond drq (b ∷ []) []

-- with DRQ off none is, and with DRQ on one is and no other
none_if : {drq : Bool} (b : ℕ) → drq ≡ false → one_if drq b ≡ []
none_if b off = ap (λ (drq : Bool). one_if drq b) off

one_if_lem : {drq : Bool} (b : ℕ) → drq ≡ true → one_if drq b ≡ b ∷ []
one_if_lem b on = ap (λ (drq : Bool). one_if drq b) on

one_moved : {b byte : ℕ} {rest : List ℕ} {drq : Bool} → b ≡ byte → rest ≡ [] → drq ≡ true → b ∷ rest ≡ one_if drq byte
one_moved {byte = byte} same over on = ap₂ ◌∷◌ same over ∙ sym (one_if_lem byte on)

-- those of them that load DR load one byte, and it stays there
pub given_one :
    (m : Machine) (cs : List Call)
    → Valid m
    → NoneAccepted m cs
    → OnDrq loads_dr reads_dr m cs
    → (called_all m cs).wires.drq ≡ false
    → given cs ≡ one_if m.wires.drq (called_all m cs).regs.dr
unfolding given called_all called_of commands loads_dr reads_dr
given_one m [] v none OnDrq.none off = rw off
given_one m (loads l number b byte ∷ cs) v (more quiet rest) (OnDrq.more asks other served) off =
    by (eqb number 3) refl (given_one (load_register m l number b).machine cs (load_valid m l number b v) rest served off)
  where
    next : Machine
    next = (load_register m l number b).machine

    by :
        (kind : Bool)
        → eqb number 3 ≡ kind
        → given cs ≡ one_if next.wires.drq (called_all next cs).regs.dr
        → cond kind (b ∷ given cs) (given cs) ≡ one_if m.wires.drq (called_all next cs).regs.dr
    by true e later =
        let here = load_on m l number b v e in
        let stays = (calls_leave next cs rest served here.1).dr ∙ here.0 in
        one_moved (sym stays) (later ∙ none_if (called_all next cs).regs.dr here.1) (asks e)
    by false e later =
        later ∙ ap (λ (drq : Bool). one_if drq (called_all next cs).regs.dr) (load_leaves m l number b e quiet).drq
given_one m (reads l number ∷ cs) v (more quiet rest) (OnDrq.more asks other served) off =
    given_one (read_register m l number).machine cs (read_valid m l number v) rest served off
    ∙ ap (λ (drq : Bool). one_if drq (called_all (read_register m l number).machine cs).regs.dr)
    (read_leaves m l number other).drq

-- those that read DR return the byte that it holds
pub returned_one :
    (m : Machine) (cs : List Call)
    → Valid m
    → NoneAccepted m cs
    → OnDrq reads_dr loads_dr m cs
    → (called_all m cs).wires.drq ≡ false
    → returned m cs ≡ one_if m.wires.drq m.regs.dr
unfolding returned called_all called_of commands loads_dr reads_dr
returned_one m [] v none OnDrq.none off = rw off
returned_one m (loads l number b byte ∷ cs) v (more quiet rest) (OnDrq.more asks other served) off =
    let leaves = load_leaves m l number b other quiet in
    returned_one (load_register m l number b).machine cs (load_valid m l number b v) rest served off
    ∙ (λ i. one_if (leaves.drq i) (leaves.dr i))
returned_one m (reads l number ∷ cs) v (more quiet rest) (OnDrq.more asks other served) off =
    by (eqb number 3) refl (returned_one (read_register m l number).machine cs (read_valid m l number v) rest served off)
  where
    next : Machine
    next = (read_register m l number).machine

    by :
        (kind : Bool)
        → eqb number 3 ≡ kind
        → returned next cs ≡ one_if next.wires.drq next.regs.dr
        → cond kind ((read_register m l number).byte ∷ returned next cs) (returned next cs) ≡ one_if m.wires.drq m.regs.dr
    by true e later =
        let here = read_on m l number v e in
        one_moved here.0 (later ∙ none_if next.regs.dr here.1) (asks e)
    by false e later =
        let leaves = read_leaves m l number e in
        later ∙ (λ i. one_if (leaves.drq i) (leaves.dr i))

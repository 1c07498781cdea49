-- A host that reads the status before every byte time, and DR too where DRQ is on: it serves each DRQ, and the command goes as
-- under the host that reads DR before every byte time. Assumes nothing.
use mathlib.Core.Path.{◌≡◌, refl, sym, ap, ◌∙◌, subst}
use mathlib.Core.Bool.{Bool, true, false, cond, and-true, and-false, true≢false}
use mathlib.Core.List.{[], ◌∷◌}
use Prim.Native.Nat.{ℕ, zero, suc}
use Rattle.common.proofs.Cases.{by_cond}
use Rattle.activity.specs.Limits.{busy_in}
use Rattle.registers.specs.declared.Lines.{Lines}
use Rattle.registers.specs.Registers.{read_refusal, read_wires}
use Rattle.wd.specs.declared.Machine.{Machine}
use Rattle.wd.specs.declared.Read.{Read}
use Rattle.wd.specs.Machines.{valid_of}
use Rattle.wd.specs.Reads.{with_bus, read_register}
use Rattle.reachable.proofs.Samples.{on}
use Rattle.reachable.proofs.Valid.{Valid, read_valid}
use Rattle.hosts.specs.Hosts.{reads, called_of, commands, called_all, NoneAccepted, none, more, Host, Desk, served_at, passes_under, at, EndsAt}
use Rattle.hosts.proofs.Views.{stays_valid}
use Rattle.in_time.proofs.Scenes.{reader}
use Rattle.served.specs.Served.{loads_dr, reads_dr, OnDrq, ServesEach}
use Rattle.served.proofs.DrCalls.{read_leaves, read_on}
use Rattle.std.specs.Result.{is_ok}

-- with DRQ off a read of DR changes nothing
read_idle : (m : Machine) (l : Lines) → m.wires.drq ≡ false → (read_register m l 3).machine ≡ m
unfolding read_register read_wires
read_idle m l off =
    by_cond (λ (q : Read). q.machine ≡ m) (is_ok (read_refusal (valid_of m) 3))
    (λ taken i.
    with_bus m m.regs
    (record { drq = (and-false m.wires.drq ∙ sym off) i; intrq = and-true m.wires.intrq i }))
    (λ refused. refl)

-- the calls, where DRQ is on or off
module _ (m : Machine) where
  calls_same :
      (drq : Bool)
      → m.wires.drq ≡ drq
      → called_all m (reads on 0 ∷ cond drq (reads on 3 ∷ []) []) ≡ called_all m (reads on 0 ∷ reads on 3 ∷ [])
  unfolding called_all called_of
  calls_same true e = refl
  calls_same false e = sym (read_idle (read_register m on 0).machine on ((read_leaves m on 0 refl).drq ∙ e))

  calls_on : (drq : Bool) → m.wires.drq ≡ drq → OnDrq reads_dr loads_dr m (reads on 0 ∷ cond drq (reads on 3 ∷ []) [])
  unfolding called_of loads_dr reads_dr
  calls_on true e =
      OnDrq.more (λ f. absurd (true≢false (sym f))) refl (OnDrq.more (λ f. (read_leaves m on 0 refl).drq ∙ e) refl OnDrq.none)
  calls_on false e = OnDrq.more (λ f. absurd (true≢false (sym f))) refl OnDrq.none

  calls_quiet : (drq : Bool) → NoneAccepted m (reads on 0 ∷ cond drq (reads on 3 ∷ []) [])
  unfolding commands
  calls_quiet true = more refl (more refl none)
  calls_quiet false = more refl none

module _ (d : Desk) where
  abbrev pub polling : Host
  polling =
      record {
        calls = λ k. reads on 0 ∷ cond (at reader d k).machine.wires.drq (reads on 3 ∷ []) [];
        lines = λ k. on;
      }

  -- ---- it goes as under the other

  polling_served :
      (k : ℕ) → at polling d k ≡ at reader d k → served_at polling k (at polling d k) ≡ served_at reader k (at reader d k)
  unfolding served_at
  polling_served k same =
      ap (served_at polling k) same
      ∙ ap (λ (m : Machine). record { machine = m; row = (at reader d k).row })
      (calls_same (at reader d k).machine (at reader d k).machine.wires.drq refl)

  polling_same : (k : ℕ) → at polling d k ≡ at reader d k
  unfolding at
  polling_same zero = refl
  polling_same (suc k) = ap (passes_under on) (polling_served k (polling_same k))

  -- ---- what is asked of it

  pub polling_alone : (k : ℕ) → NoneAccepted (at polling d k).machine (polling.calls k)
  polling_alone k = calls_quiet (at polling d k).machine (at reader d k).machine.wires.drq

  pub polling_ends : (n : ℕ) → EndsAt reader d n → EndsAt polling d n
  polling_ends n ends =
      record {
        busy = λ k l. ap busy_at (polling_same k) ∙ ends.busy k l;
        over = ap busy_at (polling_same n) ∙ ends.over;
      }
    where
      busy_at : Desk → Bool
      busy_at e = busy_in e.machine.activity

  pub polling_serves : Valid d.machine → (n : ℕ) → ServesEach reads_dr loads_dr polling d n
  unfolding served_at called_all called_of
  polling_serves valid n =
      record {
        off =
            λ k l.
            ap (λ (e : Desk). e.machine.wires.drq) (polling_served k (polling_same k))
            ∙ (read_on (read_register (at reader d k).machine on 0).machine on 3
            (read_valid (at reader d k).machine on 0 (stays_valid reader d valid k)) refl
            ).1;
        on =
            λ k l.
            subst (λ (e : Desk). OnDrq reads_dr loads_dr e.machine (polling.calls k)) (sym (polling_same k))
            (calls_on (at reader d k).machine (at reader d k).machine.wires.drq refl);
      }

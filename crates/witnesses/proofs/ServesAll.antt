-- Whether a host serves each DRQ, as a test that computes. Assumes nothing.
use mathlib.Core.Path.{◌≡◌}
use mathlib.Core.Bool.{Bool, true, false, not, ◌&&◌, ◌||◌}
use mathlib.Core.List.{List, [], ◌∷◌}
use Prim.Native.Nat.{ℕ, zero, suc, ◌+◌, ◌≤◌, ◌<◌}
use native.Mathlib.Decide.{ℕ_discrete}
use native.Mathlib.Omega.{arith}
use Rattle.common.proofs.Cases.{never, both, not_on}
use Rattle.wd.specs.declared.Machine.{Machine}
use Rattle.hosts.specs.Hosts.{Call, called_of, Host, Desk, served_at, passes_under, at}
use Rattle.served.specs.Served.{OnDrq, ServesEach}

module _ (kind other : Call → Bool) where
  -- calls one after another
  unfoldable pub on_drq : Machine → List Call → Bool
  on_drq m [] = true
  on_drq m (c ∷ cs) = (not (kind c) || m.wires.drq) && (not (other c) && on_drq (called_of m c) cs)

  -- so many byte times from byte time k on
  unfoldable pub serves_from : Host → (left k : ℕ) → Desk → Bool
  serves_from h zero k d = true
  serves_from h (suc left) k d =
      on_drq d.machine (h.calls k)
      && (not (served_at h k d).machine.wires.drq && serves_from h left (suc k) (passes_under (h.lines k) (served_at h k d)))

  -- ---- where it passes, the host does

  implied : (a b : Bool) → (not a || b) ≡ true → a ≡ true → b ≡ true
  implied true b e f = e
  implied false b e f = never (cc)

  on_drq_so : (m : Machine) (cs : List Call) → on_drq m cs ≡ true → OnDrq kind other m cs
  unfolding on_drq
  on_drq_so m [] e = OnDrq.none
  on_drq_so m (c ∷ cs) e =
      let first = both (not (kind c) || m.wires.drq) (not (other c) && on_drq (called_of m c) cs) e in
      let rest = both (not (other c)) (on_drq (called_of m c) cs) first.1 in
      OnDrq.more (implied (kind c) m.wires.drq first.0) (not_on (other c) rest.0)
      (on_drq_so (called_of m c) cs rest.1)

  module _ (h : Host) (d : Desk) where
    -- byte time i is served
    abbrev Served : ℕ → Type 0
    Served i = OnDrq kind other (at h d i).machine (h.calls i) × ((served_at h i (at h d i)).machine.wires.drq ≡ false)

    serves_so : (left k : ℕ) → serves_from h left k (at h d k) ≡ true → (i : ℕ) → k ≤ i → i < k + left → Served i
    unfolding serves_from at
    serves_so zero k e i l g = absurd (omega arith)
    serves_so (suc left) k e i l g =
        let found = served_at h k (at h d k) in
        let first = both (on_drq (at h d k).machine (h.calls k)) _ e in
        let rest = both (not found.machine.wires.drq) _ first.1 in
        by (on_drq_so (at h d k).machine (h.calls k) first.0, not_on found.machine.wires.drq rest.0)
        (λ m. serves_so left (suc k) rest.1 i m (omega arith)) (ℕ_discrete k i)
      where
        by : Served k → (suc k ≤ i → Served i) → Dec (k ≡ i) → Served i
        by here later (yes same) = rw same at here
        by here later (no other) = later (omega arith)

    pub serves_all : (n : ℕ) → serves_from h n 0 d ≡ true → ServesEach kind other h d n
    unfolding at
    serves_all n e =
        record {
          off = λ k l. (serves_so n 0 e k (omega arith) (omega arith)).1;
          on = λ k l. (serves_so n 0 e k (omega arith) (omega arith)).0;
        }

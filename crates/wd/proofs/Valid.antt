-- What refusals 2 and 3 let through, and that a byte time keeps it: a valid machine and a row of its length. Assumes nothing.
use mathlib.Core.Path.{◌≡◌, refl, sym, ◌∙◌}
use mathlib.Core.Bool.{true}
use mathlib.Core.List.{List}
use Prim.Native.Nat.{ℕ, ◌+◌, ◌≤◌, ◌<◌}
use native.Mathlib.Omega.{arith}
use lib.Dec.{ltb, eqb}
use lib.ListN.{length, length-set}
use borrow.Author.Tests.{ltb-true, eqb-true, eqb-false, lt-ltb, eq-eqb}
use Rattle.common.proofs.Cases.{by_cond, both, all}
use Rattle.activity.specs.Limits.{counts_within}
use Rattle.act.proofs.Within.{within_kept}
use Rattle.registers.specs.declared.Ring.{Ring}
use Rattle.registers.specs.declared.Lines.{Lines}
use Rattle.wd.specs.declared.Machine.{Machine}
use Rattle.wd.specs.declared.Passed.{Passed}
use Rattle.scan.specs.Rows.{shortest_row, longest_row, length_within}
use Rattle.scan.proofs.Rows.{within_least, within_most, row_within}
use Rattle.registers.specs.Rings.{ring_within, ring_next}
use Rattle.wd.specs.Machines.{valid_of}
use Rattle.wd.specs.Turns.{sees_of, act_applied, cell_turn}
use Rattle.wd.specs.Rows.{row_refusal, under, refused_at, done_by, byte_time, byte_time_row}
use Rattle.refusals.specs.Numbers.{Outcome, done}
use Rattle.refusals.proofs.Outcomes.{refused-done}
use Rattle.std.specs.Result.{is_ok}

-- ---- the ring

pub record Held (r : Ring) : Type 0 where
  pub least : shortest_row ≤ r.length
  pub most : r.length ≤ longest_row
  pub inside : r.position < r.length

pub ring_held : (r : Ring) → ring_within r ≡ true → Held r
unfolding ring_within
ring_held r e =
    let h = both (length_within r.length) (ltb r.position r.length) e in
    record { least = within_least _ h.0; most = within_most _ h.0; inside = ltb-true _ _ h.1 }

pub held_ring : (r : Ring) → Held r → ring_within r ≡ true
unfolding ring_within
held_ring r h = all (row_within _ h.least h.most) (lt-ltb _ _ h.inside)

pub next_length : (r : Ring) → (ring_next r).length ≡ r.length
unfolding ring_next
next_length r =
    by_cond (λ (q : Ring). q.length ≡ r.length) (ltb r.position r.length)
    (λ low. by_cond (λ (q : Ring). q.length ≡ r.length) (eqb (r.position + 1) r.length) (λ e. refl) (λ e. refl))
    (λ high. refl)

pub next_inside : (r : Ring) → r.position < r.length → (ring_next r).position < r.length
unfolding ring_next
next_inside r h =
    by_cond (λ (q : Ring). q.position < r.length) (ltb r.position r.length)
    (λ low.
    by_cond (λ (q : Ring). q.position < r.length) (eqb (r.position + 1) r.length)
    (λ e. omega arith)
    (λ e. let apart : (r.position + 1 ≡ r.length) → ⊥ = eqb-false _ _ e in omega arith))
    (λ high. h)

next_held : (r : Ring) → Held r → Held (ring_next r)
next_held r h =
    record {
      least = rw (next_length r) h.least;
      most = rw (next_length r) h.most;
      inside = rw (next_length r) (next_inside r h.inside);
    }

-- ---- the machine

pub valid_ring : (m : Machine) → valid_of m ≡ true → Held m.ring
unfolding valid_of
valid_ring m v = ring_held m.ring (both (ring_within m.ring) (counts_within m.activity) v).0

-- a byte time keeps a valid machine valid
pub turn_valid : (m : Machine) (l : Lines) (cell : ℕ) → valid_of m ≡ true → valid_of (cell_turn m l cell).machine ≡ true
unfolding valid_of cell_turn act_applied
turn_valid m l cell v =
    let h = both (ring_within m.ring) (counts_within m.activity) v in
    all (held_ring (ring_next m.ring) (next_held m.ring (ring_held m.ring h.0)))
    (within_kept m.order (sees_of m l cell) m.activity h.1)

turned_ring : (m : Machine) (l : Lines) (cell : ℕ) → (cell_turn m l cell).machine.ring.length ≡ m.ring.length
unfolding cell_turn act_applied
turned_ring m l cell = next_length m.ring

-- ---- the row

pub open_row : (m : Machine) (size : ℕ) → row_refusal m size ≡ done → (valid_of m ≡ true) × (size ≡ m.ring.length)
unfolding row_refusal
open_row m size =
    by_cond (λ (o : Outcome). o ≡ done → (valid_of m ≡ true) × (size ≡ m.ring.length)) (valid_of m)
    (λ v.
    by_cond (λ (o : Outcome). o ≡ done → (valid_of m ≡ true) × (size ≡ m.ring.length)) (eqb size m.ring.length)
    (λ e h. (v, eqb-true _ _ e))
    (λ e h. absurd (refused-done _ h)))
    (λ v h. absurd (refused-done _ h))

pub row_open : (m : Machine) (size : ℕ) → valid_of m ≡ true → size ≡ m.ring.length → row_refusal m size ≡ done
unfolding row_refusal
row_open m size v e = simp (v, eq-eqb _ _ e)

-- the cell under the head is one of the row's
pub row_inside : (m : Machine) (size : ℕ) → row_refusal m size ≡ done → m.ring.position < size
row_inside m size e =
    let h = open_row m size e in
    omega (arith, h.1, (valid_ring m h.0).inside)

-- a byte time's row has as many cells
pub row_length : (m : Machine) (l : Lines) (row : List ℕ) → length (byte_time_row m l row) ≡ length row
unfolding byte_time_row
row_length m l row =
    by_cond (λ (q : List ℕ). length q ≡ length row) (is_ok (row_refusal m (length row)))
    (λ e.
    by_cond (λ (q : List ℕ). length q ≡ length row) (ltb 511 (under m row)) (λ f. refl)
    (λ f. length-set row m.ring.position (cell_turn m l (under m row)).cell))
    (λ e. refl)

-- and what passed may pass again
pub pass_open :
    (m : Machine) (l : Lines) (row : List ℕ)
    → row_refusal m (length row) ≡ done
    → row_refusal (byte_time m l row).machine (length (byte_time_row m l row)) ≡ done
unfolding byte_time refused_at done_by
pass_open m l row e =
    by_cond (λ (p : Passed). row_refusal p.machine (length (byte_time_row m l row)) ≡ done) (is_ok (row_refusal m (length row)))
    (λ t.
    by_cond (λ (p : Passed). row_refusal p.machine (length (byte_time_row m l row)) ≡ done) (ltb 511 (under m row))
    (λ f. row_open m _ h.0 (row_length m l row ∙ h.1))
    (λ f. row_open (cell_turn m l (under m row)).machine _ (turn_valid m l (under m row) h.0) turned_length))
    (λ t. row_open m _ h.0 (row_length m l row ∙ h.1))
  where
    h : (valid_of m ≡ true) × (length row ≡ m.ring.length)
    h = open_row m (length row) e

    turned_length : length (byte_time_row m l row) ≡ (cell_turn m l (under m row)).machine.ring.length
    turned_length = row_length m l row ∙ h.1 ∙ sym (turned_ring m l (under m row))

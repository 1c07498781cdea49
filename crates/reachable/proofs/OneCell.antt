-- A byte time writes at most the cell under the head. Assumes nothing.
use mathlib.Core.Path.{◌≡◌, refl}
use mathlib.Core.List.{List}
use Prim.Native.Nat.{ℕ}
use lib.Dec.{ltb}
use lib.ListN.{length, get_or}
use lib.Seq.{get_or-set_other}
use Rattle.common.proofs.Cases.{by_cond}
use Rattle.registers.specs.declared.Lines.{Lines}
use Rattle.wd.specs.declared.Machine.{Machine}
use Rattle.wd.specs.Turns.{cell_turn}
use Rattle.wd.specs.Rows.{row_refusal, under, byte_time_row}
use Rattle.wd.proofs.Valid.{row_length}
use Rattle.std.specs.Result.{is_ok}

-- "Each byte time the cell at the head position passes": every other cell stays, and so does their number
pub one_cell :
    (m : Machine) (l : Lines) (row : List ℕ)
    → (length (byte_time_row m l row) ≡ length row)
    × ((i : ℕ) → (i ≡ m.ring.position → ⊥) → get_or (byte_time_row m l row) i 0 ≡ get_or row i 0)
unfolding byte_time_row
one_cell m l row = (
  row_length m l row,
  λ i apart.
      by_cond (λ (q : List ℕ). get_or q i 0 ≡ get_or row i 0) (is_ok (row_refusal m (length row)))
      (λ e.
      by_cond (λ (q : List ℕ). get_or q i 0 ≡ get_or row i 0) (ltb 511 (under m row))
      (λ f. refl)
      (λ f. get_or-set_other row m.ring.position i (cell_turn m l (under m row)).cell 0 apart))
      (λ e. refl),
)

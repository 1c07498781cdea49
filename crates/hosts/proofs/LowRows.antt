-- A row with no cell above 511 refuses no byte time. Assumes nothing.
use mathlib.Core.Path.{◌≡◌, refl, sym, ◌∙◌}
use mathlib.Core.Bool.{Bool, true, ◌&&◌}
use mathlib.Core.List.{List, [], ◌∷◌}
use Prim.Native.Nat.{ℕ, zero, suc, ◌≤◌, ◌<◌}
use native.Mathlib.Decide.{ℕ_discrete}
use native.Mathlib.Omega.{arith}
use lib.Dec.{leb}
use lib.ListN.{length, get_or, set, length-set}
use lib.Seq.{get_or-set_same, get_or-set_other}
use borrow.Author.Tests.{leb-true}
use Rattle.common.proofs.Cases.{both}
use Rattle.wd.proofs.Valid.{valid_ring, row_length}
use Rattle.reachable.proofs.Valid.{Valid}
use Rattle.hosts.specs.Hosts.{Host, Desk, called_all, served_at, passes_under, at, BusyAt, Undisturbed}
use Rattle.hosts.proofs.Views.{Calm, stays_valid, done_under}
use Rattle.hosts.proofs.Idling.{host_fixed}
use Rattle.hosts.proofs.Courses.{Going}

-- "none above 511"
abbrev pub LowRow : List ℕ → Type 0
LowRow row = (i : ℕ) → i < length row → get_or row i 0 ≤ 511

-- by a test
unfoldable pub all_low : List ℕ → Bool
all_low [] = true
all_low (cell ∷ cells) = leb cell 511 && all_low cells

pub low_by : (row : List ℕ) → all_low row ≡ true → LowRow row
unfolding all_low
low_by [] e i l = absurd (omega arith)
low_by (cell ∷ cells) e zero l = leb-true cell 511 (both (leb cell 511) (all_low cells) e).0
low_by (cell ∷ cells) e (suc i) l = low_by cells (both (leb cell 511) (all_low cells) e).1 i (omega arith)

-- a cell that is written leaves it so
pub set_low : (row : List ℕ) (p cell : ℕ) → cell ≤ 511 → LowRow row → LowRow (set row p cell)
set_low row p cell low rest i inside = by (ℕ_discrete i p)
  where
    here : i < length row
    here = omega (arith, length-set row p cell)

    by : Dec (i ≡ p) → get_or (set row p cell) i 0 ≤ 511
    by (yes e) = rw e (omega (arith, get_or-set_same row p cell 0 (omega (arith, here))))
    by (no e) = omega (arith, get_or-set_other row p i cell 0 e, rest i here)

-- the row stays as long as it was
at_length : (h : Host) (d : Desk) (n : ℕ) → length (at h d n).row ≡ length d.row
unfolding at served_at passes_under
at_length h d zero = refl
at_length h d (suc n) =
    row_length (called_all (at h d n).machine (h.calls n)) (h.lines n) (at h d n).row ∙ at_length h d n

-- so the byte times of a valid machine over such rows are done, as long as no command is accepted while it is Busy
module _ (h : Host) (d : Desk) (alone : Undisturbed h d) (valid : Valid d.machine)
    (whole : length d.row ≡ d.machine.ring.length) where
  low_calm : (k : ℕ) → BusyAt h d k → LowRow (at h d k).row → Calm h d k
  low_calm k busy low =
      let here = stays_valid h d valid k in
      let size = at_length h d k ∙ whole ∙ sym (host_fixed h d k).length in
      record {
        quiet = alone k busy;
        done =
            done_under h d k (alone k busy) here size
            (low (at h d k).machine.ring.position (omega (arith, size, (valid_ring (at h d k).machine here).inside)));
      }

  pub low_going : Going LowRow h d
  low_going = record { within = λ k. true; next = λ k l busy. refl; calm = λ k l busy. low_calm k busy }

  pub low_within : (k : ℕ) → low_going.within k ≡ true
  unfolding low_going
  low_within k = refl

-- A Write Sector that nobody serves, so that the law of it speaks of something, and what it says. Assumes nothing.
use mathlib.Core.Path.{◌≡◌, sym, ◌∙◌}
use mathlib.Core.Bool.{true, false}
use mathlib.Core.List.{[]}
use Prim.Native.Nat.{ℕ, ◌<◌}
use native.Mathlib.Decide.{dec_lt, ℕ_discrete}
use native.Mathlib.Omega.{arith}
use Rattle.common.proofs.Arms.{range}
use Rattle.common.proofs.Cases.{never}
use Rattle.activity.specs.declared.Deed.TheVariants.{Nothing, Matched, Ask}
use Rattle.hosts.specs.Hosts.{none, at, EndsAt}
use Rattle.hosts.specs.Scenes.{loaded}
use Rattle.hosts.specs.Bytes.{deed_at, taken}
use Rattle.exact.specs.LateWrite.{WritePremises, StillOn}
use Rattle.exact.proofs.LateWrite.{late_write}
use Rattle.witnesses.proofs.LastBusy.{ends_after}
use Rattle.witnesses.proofs.Runs.{nobody, unserved, runs}

ends : EndsAt nobody (loaded unserved) 17
ends =
    ends_after nobody (loaded unserved) 16 (λ n m. none) runs.of_unserved.ends.goes runs.of_unserved.ends.over

asked : WritePremises unserved 17
asked =
    record {
      writes = runs.of_unserved.writes;
      accepted = runs.of_unserved.accepted;
      alone = λ n l. none;
      ends = ends;
    }

first : (j : ℕ) → j < 8 → deed_at nobody (loaded unserved) j ≡ Ask true → ⊥
first j l asks = by (dec_lt j 6) (ℕ_discrete j 6)
  where
    by : Dec (j < 6) → Dec (j ≡ 6) → ⊥
    by (yes h) other =
        let z : Nothing ≡ Ask true =
        range (deed_at nobody (loaded unserved)) 0 6 runs.of_unserved.searches (omega arith) h ∙ asks in
        never (cc)
    by (no h) (yes e) = let z : Matched false ≡ Ask true = sym runs.of_unserved.finds ∙ (rw e at asks) in never (cc)
    by (no h) (no e) =
        let seven : j ≡ 7 = omega arith in
        let z : Nothing ≡ Ask true = sym runs.of_unserved.passes ∙ (rw seven at asks) in
        never (cc)

still_on : StillOn unserved 17 8
still_on =
    record {
      inside = omega arith;
      asks = runs.of_unserved.asks;
      first = first;
      still = runs.of_unserved.still;
    }

-- it ends in byte time 17, with Lost Data and the row as it was
pub nobody_serves :
    WritePremises unserved 17
    × StillOn unserved 17 8
    × ((at nobody (loaded unserved) 17).machine.flags.lost ≡ true)
    × (taken nobody (loaded unserved) 17 ≡ [])
    × ((at nobody (loaded unserved) 17).row ≡ unserved.row)
nobody_serves =
    let says = (late_write unserved 17 asked).late 8 still_on in
    (asked, still_on, says.lost, says.none, says.row)

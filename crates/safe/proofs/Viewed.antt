-- Demand 1 for the viewer: its numbers, and what a refusal hands back. Assumes nothing.
use mathlib.Core.Path.{◌≡◌, refl, ap}
use mathlib.Core.Bool.{Bool}
use mathlib.Core.List.{List, []}
use Prim.Native.Nat.{ℕ}
use native.Mathlib.Nat.{zero-add}
use Rattle.std.specs.Prelude.{Result, Ok, Err}
use Rattle.refusals.specs.declared.Refusal.{Refusal}
use Rattle.viewer.specs.declared.Place.{Place}
use Rattle.viewer.specs.declared.Place.TheVariants.{Zero, One}
use Rattle.viewer.specs.Views.{place_of, part_cells, part_start, number_of}
use Rattle.safe.specs.Viewer.{SafeView}
use Rattle.safe.proofs.Viewer.{view_given}

-- what a refusal hands back
refused_part : (p : Result Place Refusal) (s0 s1 : List ℕ) (p0 p1 : ℕ × ℕ) → (number_of p ≡ 0 → ⊥)
    → (part_cells p s0 s1 ≡ []) × (part_start p p0 p1 ≡ p0)
unfolding part_cells part_start
refused_part (Ok (Zero span)) s0 s1 p0 p1 h = absurd (h refl)
refused_part (Ok (One span)) s0 s1 p0 p1 h = absurd (h refl)
refused_part (Err refusal) s0 s1 p0 p1 h = (refl, ap (λ (at : ℕ). (p0.0, at)) (zero-add p0.1))

-- for every input
pub view_safe : (s0 s1 : List ℕ) (p0 p1 : ℕ × ℕ) (mfm : Bool) (track sector : ℕ)
    → let place = place_of s0 s1 mfm track sector in
    SafeView s0 s1 p0 mfm track sector (number_of place) (part_cells place s0 s1) (part_start place p0 p1)
view_safe s0 s1 p0 p1 mfm track sector =
    record {
      given = view_given s0 s1 mfm track sector;
      refused = refused_part (place_of s0 s1 mfm track sector) s0 s1 p0 p1;
    }

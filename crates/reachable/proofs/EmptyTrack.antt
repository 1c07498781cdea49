-- Over a track of 00 what waits for a mark stays as it is and counts index pulses, up to the fourth. Assumes nothing.
use mathlib.Core.Path.{◌≡◌, refl, sym, ap, ◌∙◌}
use mathlib.Core.Bool.{Bool, true, false}
use mathlib.Core.List.{List}
use Prim.Native.Nat.{ℕ, zero, suc, ◌+◌, ◌<◌}
use native.Mathlib.Omega.{arith}
use lib.Dec.{eqb}
use lib.ListN.{length, get_or}
use borrow.Author.Tests.{lt-ltb, lt-leb, ne_eqb}
use Rattle.scan.specs.Marks.{lead_of, carries_mark, sync_run, mark_step}
use Rattle.scan.specs.Ids.{run_in, id_cell_step, id_mark_step, id_step}
use Rattle.scan.specs.declared.Passed.TheVariants as mark
use Rattle.scan.specs.declared.Scan.TheVariants.{Gap}
use Rattle.command.specs.declared.Order.{Order}
use Rattle.search.specs.Search.{pulses_seen, search_step, search_cell}
use Rattle.reading.specs.Reading.{hunt_step, hunt_cell}
use Rattle.act.specs.Turns.{begun_activity, activity_act, act_of}
use Rattle.activity.specs.declared.Seen.{Seen}
use Rattle.activity.specs.declared.Activity.{Activity}
use Rattle.activity.specs.declared.Activity.TheVariants.{Search, Hunt}
use Rattle.registers.specs.declared.Ring.{Ring}
use Rattle.registers.specs.declared.Lines.{Lines}
use Rattle.wd.specs.declared.Machine.{Machine}
use Rattle.registers.specs.Rings.{ring_next, seen_of}
use Rattle.wd.specs.Turns.{sees_of, act_applied, cell_turn}
use Rattle.wd.specs.Rows.{row_refusal, under, done_by, byte_time}
use Rattle.wd.proofs.Valid.{row_open}
use Rattle.reachable.specs.Growth.{Grown, byte_time_call}
use Rattle.reachable.proofs.Valid.{grown_valid}
use Rattle.reachable.proofs.Samples.{sample_length, empty, empty_length, empty_cell}
use Rattle.refusals.proofs.Outcomes.{done-ok}
use Rattle.refusals.specs.Numbers.{done}

-- what waits for a mark, having seen so many pulses
abbrev pub Waits : (ℕ → Activity) → Type 0
Waits waiting =
    (o : Order) (s : Seen) (seen : ℕ)
    → s.cell ≡ 0
    → pulses_seen seen s.index < 5
    → (act_of o s (waiting seen)).next ≡ waiting (pulses_seen seen s.index)

no_mark : (mfm : Bool) → mark_step mfm 0 0 ≡ mark.Gap 0
unfolding mark_step lead_of carries_mark sync_run
no_mark true = refl
no_mark false = refl

pub search_waits : Waits (λ seen. Search seen (Gap 0))
unfolding act_of begun_activity activity_act search_cell search_step id_step id_mark_step run_in id_cell_step
search_waits o s seen empty few = simp (lt-leb 5 (pulses_seen seen s.index) few, empty, no_mark s.mfm)

pub hunt_waits : Waits (λ seen. Hunt seen 0)
unfolding act_of begun_activity activity_act hunt_cell hunt_step
hunt_waits o s seen empty few = simp (lt-leb 5 (pulses_seen seen s.index) few, empty, no_mark s.mfm)

-- ---- round the track

-- the head at a position of a track of so many cells
abbrev cell : ℕ → Ring
cell position = record { length = sample_length; position = position }

-- a grown machine waits there, having seen so many pulses
abbrev pub WaitsAt : (ℕ → Activity) → ℕ → ℕ → Type 0
WaitsAt waiting position seen = (m : Machine) × Grown m × (m.ring ≡ cell position) × (m.activity ≡ waiting seen)

onwards : (position next : ℕ) → position + 1 ≡ next → next < sample_length → ring_next (cell position) ≡ cell next
unfolding ring_next
onwards position next e h =
    let inside : position < sample_length = omega arith in
    let apart : (next ≡ sample_length) → ⊥ = omega arith in
    simp (lt-ltb position sample_length inside, e, ne_eqb next sample_length apart)

passed :
    (m : Machine) (l : Lines) (row : List ℕ)
    → row_refusal m (length row) ≡ done
    → under m row ≡ 0
    → (byte_time m l row).machine ≡ (cell_turn m l 0).machine
unfolding byte_time done_by
passed m l row opens plain = simp (done-ok (row_refusal m (length row)) opens, plain)

module _ (l : Lines) (waiting : ℕ → Activity) (waits : Waits waiting) where
  turn :
      (position next seen then : ℕ)
      → position < sample_length
      → ring_next (cell position) ≡ cell next
      → pulses_seen seen (eqb position 0) ≡ then
      → then < 5
      → WaitsAt waiting position seen
      → WaitsAt waiting next then
  unfolding seen_of cell_turn act_applied
  turn position next seen then inside e p few (m, g, ring, activity) =
      let whole = empty_length sample_length ∙ sym (ap (λ (r : Ring). r.length) ring) in
      let opens = row_open m (length empty) (grown_valid m g) whole in
      let plain = ap (λ (r : Ring). get_or empty r.position 0) ring ∙ empty_cell sample_length position inside in
      let turned = passed m l empty opens plain in
      let pulses = ap (λ (r : Ring). pulses_seen seen (eqb r.position 0)) ring ∙ p in (
        (byte_time m l empty).machine,
        byte_time_call g l empty,
        ap (λ (q : Machine). q.ring) turned ∙ ap ring_next ring ∙ e,
        ap (λ (q : Machine). q.activity) turned
            ∙ ap (λ (a : Activity). (act_of m.order (sees_of m l 0) a).next) activity
            ∙ waits m.order (sees_of m l 0) seen refl (rw pulses few)
            ∙ ap waiting pulses,
      )

  steps : (n seen : ℕ) → n < 2047 → seen < 5 → WaitsAt waiting 1 seen → WaitsAt waiting (n + 1) seen
  unfolding pulses_seen
  steps zero seen h few w = w
  steps (suc n) seen h few w =
      let apart : (n + 1 ≡ 0) → ⊥ = omega arith in
      turn (n + 1) (suc n + 1) seen seen (omega arith) (onwards (n + 1) (suc n + 1) (omega arith) (omega arith))
      (simp (ne_eqb (n + 1) 0 apart)) few
      (steps n seen (omega arith) few w)

  lap : (seen : ℕ) → seen < 4 → WaitsAt waiting 1 seen → WaitsAt waiting 1 (seen + 1)
  unfolding pulses_seen ring_next
  lap seen few w =
      let more : seen < 5 = omega arith in
      turn 0 1 seen (seen + 1) (omega arith) refl (simp (lt-ltb seen 5 more)) (omega arith)
      (turn 2047 0 seen seen (omega arith) refl refl more (steps 2046 seen (omega arith) more w))

  pub four_pulses : WaitsAt waiting 1 1 → WaitsAt waiting 1 4
  four_pulses w = lap 3 (omega arith) (lap 2 (omega arith) (lap 1 (omega arith) w))

-- A track with one sector, on which the viewer finds what a Read Sector reads: so the law that they agree speaks of
-- something. Assumes nothing.
use mathlib.Core.Path.{◌≡◌, refl, sym, ap, ◌∙◌}
use mathlib.Core.Bool.{Bool, true, false}
use mathlib.Core.List.{List, [], ◌∷◌, ◌++◌, map}
use Prim.Native.Nat.{ℕ, ◌+◌, ◌-◌, ◌%◌, ◌<◌}
use native.Mathlib.Nat.{mod-eq_of_lt}
use native.Mathlib.Decide.{dec_lt}
use native.Mathlib.Omega.{arith}
use lib.Dec.{eqb}
use lib.ListN.{get_or, replicate, get_or-replicate}
use lib.Seq.{get_or-append-add}
use borrow.Author.Tests.{eqb-false}
use Rattle.std.specs.Prelude.{Result, Ok}
use Rattle.common.proofs.Arms.{range}
use Rattle.common.proofs.Cases.{never}
use Rattle.crc.specs.Crc.{crc_bit, crc_bits, crc_byte, crc_over}
use Rattle.refusals.specs.declared.Refusal.{Refusal}
use Rattle.scan.specs.Rows.{length_within}
use Rattle.scan.specs.Marks.{byte_of, lead_of, carries_mark, sync_run, mark_step, mark_bytes, mark_crc}
use Rattle.scan.specs.DataMarks.{mark_byte, density_has, data_mark_of, data_mark_in, data_mark_step, window_of}
use Rattle.scan.specs.Ids.{id_begun, pushed_of, whole_of, id_byte_step, run_in, id_cell_step, id_mark_step, id_step}
use Rattle.scan.specs.Streams.{MarkAt}
use Rattle.command.specs.Sizes.{size_of}
use Rattle.common.specs.Bits.{bit_of}
use Rattle.fields.specs.Rings.{cells_of}
use Rattle.fields.specs.Ids.{found_by, heard_in, next_id}
use Rattle.fields.specs.DataMarks.{met_by, sought_in, mark_behind}
use Rattle.viewer.specs.declared.Place.{Place}
use Rattle.viewer.specs.declared.Place.TheVariants.{Zero}
use Rattle.viewer.specs.Views.{cells_within, view_refusal, first_place, place_of, part_cells}
use Rattle.viewer.specs.Sectors.{register_over, span_of, span_from, span_marked, span_behind, wanted_of, span_in, span_among, span_on}
use Rattle.viewer.proofs.Views.{cells_within_lem}
use Rattle.wd.specs.Machines.{fresh_machine, power_on}
use Rattle.hosts.specs.Hosts.{EndsAt}
use Rattle.hosts.specs.Scenes.{Scene, loaded}
use Rattle.hosts.specs.Bytes.{handed}
use Rattle.in_time.specs.Demand3.{InTimePremises, OnRing}
use Rattle.in_time.proofs.Scenes.{scene_of, scene_asked, fresh, fresh_accepts}
use Rattle.agreement.specs.Agreement.{place_in, on_side_0, Viewed}
use Rattle.agreement.proofs.Agreement.{agree}
use Rattle.reachable.proofs.Samples.{sample_length}
use Rattle.command.specs.Bits.{ibm_lengths}
use Rattle.command.specs.declared.Chip.TheVariants.{Wd1793}

-- cells 0 to 154: an FM ID of track 0, side 0, sector 1 and 128 bytes, a gap, a data mark, 128 times E5 and the CRC
abbrev front : List ℕ
front =
    (0x1FE ∷ 0x00 ∷ 0x00 ∷ 0x01 ∷ 0x00 ∷ 0xD2 ∷ 0xC3 ∷ [])
    ++ replicate 17 0
    ++ (0x1FB ∷ [])
    ++ replicate 128 0xE5
    ++ (0x5D ∷ 0x30 ∷ [])

abbrev track : List ℕ
track = front ++ replicate 1893 0

-- a Read Sector at power-on, TR 0 and SR 1
abbrev scene : Scene
scene = scene_of (fresh false Wd1793) track

within : cells_within track ≡ true
unfolding cells_within
within = refl

asked : InTimePremises scene
unfolding power_on length_within fresh_machine
asked = scene_asked (fresh false Wd1793) track (fresh_accepts false Wd1793) refl ((cells_within_lem track).0 within)

-- the one ID of the track
at_zero : (ring : OnRing scene) → ring.cell ≡ 0
unfolding MarkAt cells_of power_on length_within fresh_machine
at_zero ring = by ring.cell ring.inside ring.stands.mark.1 (dec_lt 0 ring.cell) (dec_lt ring.cell 155)
  where
    is : ℕ → Bool
    is k = eqb (get_or track k 0) 0x1FE

    by : (k : ℕ) → k < sample_length → get_or track (k % sample_length) 0 ≡ 0x1FE → Dec (0 < k) → Dec (k < 155) → k ≡ 0
    by k l e (no z) other = omega arith
    by k l e (yes z) (yes h) =
        absurd
        (eqb-false _ _ (sym (range is {x = k} 1 154 refl z (omega arith)))
        (ap (λ (x : ℕ). get_or track x 0) (sym (mod-eq_of_lt l)) ∙ e))
    by k l e (yes z) (no h) =
        let q : 155 + (k - 155) ≡ k = omega arith in
        let zero : get_or track k 0 ≡ 0 =
        ap (λ (x : ℕ). get_or track x 0) (sym q)
        ∙ get_or-append-add front (replicate 1893 0) (k - 155) 0
        ∙ get_or-replicate 1893 (k - 155) 0 0 (omega arith) in
        absurd (omega (arith, e, zero, ap (λ (x : ℕ). get_or track x 0) (mod-eq_of_lt l)))

-- the viewer finds the sector's data cells
finds : place_in scene track track ≡ Ok (Zero (span_of 25 153))
unfolding place_of view_refusal first_place cells_within length_within span_on span_among span_in wanted_of span_behind span_marked
    span_from register_over next_id heard_in found_by mark_behind sought_in met_by cells_of id_step id_mark_step id_cell_step run_in
    id_byte_step whole_of pushed_of id_begun mark_step lead_of carries_mark sync_run mark_crc mark_bytes data_mark_step data_mark_in data_mark_of density_has
    mark_byte window_of crc_over crc_byte crc_bits crc_bit size_of power_on fresh_machine
finds = refl

viewed : Viewed scene track track 25 153
unfolding bit_of power_on length_within fresh_machine ibm_lengths
viewed =
    record {
      finds = on_side_0 refl finds;
      side = λ p first asks. never (cc);
      lengths = refl;
      only = λ a b. at_zero a ∙ sym (at_zero b);
    }

-- all that is asked can be met, and there the Read Sector hands over 128 times E5
pub same_bytes :
    InTimePremises scene
    × Viewed scene track track 25 153
    × ((n : ℕ) × EndsAt scene.host (loaded scene) n × (handed scene.host (loaded scene) n ≡ replicate 128 0xE5))
unfolding part_cells
same_bytes =
    let (n, ends, same) = agree scene track track 25 153 viewed asked in (
      asked,
      viewed,
      (n, ends, same.bytes ∙ ap (λ (x : Result Place Refusal). map byte_of (part_cells x track track)) finds),
    )

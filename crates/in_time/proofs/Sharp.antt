-- A track on which a Read Sector takes L + 1,078 byte times, so that demand 3's bound cannot be less. The search begins one
-- cell after the first of an MFM ID, which stands over the ring's end; its data mark is the window's last, and its data
-- field the longest. Assumes nothing.
use mathlib.Core.Path.{◌≡◌, refl, sym, ap, ◌∙◌, subst}
use mathlib.Core.Bool.{Bool, true, false}
use mathlib.Core.List.{List, [], ◌∷◌, ◌++◌}
use Prim.Native.Nat.{ℕ, ◌+◌, ◌-◌, ◌%◌, ◌≤◌, ◌<◌}
use native.Mathlib.Nat.{zero-add, mod-eq_of_lt}
use native.Mathlib.Decide.{dec_lt}
use native.Mathlib.Omega.{arith}
use lib.Dec.{ltb, eqb}
use lib.ListN.{length, get_or, replicate, get_or-replicate, get_or-append, length-replicate}
use lib.Seq.{get_or-append-add}
use borrow.Author.Tests.{ltb-true, leb-true, eqb-false}
use Rattle.common.proofs.Cases.{never}
use Rattle.common.proofs.Arms.{range}
use Rattle.crc.specs.Crc.{crc_bit, crc_bits, crc_byte}
use Rattle.scan.specs.Marks.{sync, lead_of}
use Rattle.scan.specs.DataMarks.{mark_byte, density_has, window_of}
use Rattle.scan.specs.Streams.{MarkAt, crc_from, id_from, IdEnds}
use Rattle.scan.specs.declared.DataMark.TheVariants.{Fb}
use Rattle.scan.specs.declared.Id.{Id}
use Rattle.scan.proofs.Ids.{ids}
use Rattle.scan.proofs.DataMarks.{data_marks}
use Rattle.common.specs.Bits.{bit_of}
use Rattle.command.specs.Sizes.{size_of, field_size}
use Rattle.command.specs.declared.Command.TheVariants.{ReadSector}
use Rattle.scan.specs.Rows.{length_within}
use Rattle.fields.specs.Rings.{cells_of}
use Rattle.wd.specs.Machines.{fresh_machine, power_on}
use Rattle.reachable.specs.ByteTimes.{turns_on}
use Rattle.reachable.proofs.Samples.{sample_length}
use Rattle.hosts.specs.Hosts.{EndsAt}
use Rattle.hosts.specs.Tracks.{passing}
use Rattle.hosts.specs.Scenes.{Scene, loaded, settling}
use Rattle.hosts.proofs.LowRows.{all_low, low_by}
use Rattle.hosts.proofs.Pulses.{pulse_time}
use Rattle.hosts.proofs.Searching.{reads_two, length_in, hit_at}
use Rattle.hosts.proofs.RingIds.{hit_id, id_hit, hit_ring}
use Rattle.hosts.proofs.Windows.{unmet_by, FirstMarkIn}
use Rattle.hosts.proofs.Working.{OverAt}
use Rattle.hosts.proofs.Found.{Found, fifth_of, found_size, hit as hit_there}
use Rattle.hosts.proofs.ReadEnds.{marked_over}
use Rattle.in_time.specs.Demand3.{InTimePremises, stream_of, OnRing}
use Rattle.in_time.proofs.Hits.{settled_in, after_id, id_ring}
use Rattle.in_time.proofs.Underway.{working, heads}
use Rattle.in_time.proofs.Scenes.{scene_of, scene_asked, fresh, fresh_accepts}
use Rattle.command.specs.Bits.{settles_first, is_multiple, verifies_track, side_of, side_asked, ibm_lengths, mark_written}
use Rattle.command.specs.declared.Chip.TheVariants.{Wd1793}

-- ---- the track

-- cells 0 to 51: an ID of track 0, side 0, sector 1 and 1,024 bytes but for its first cell; 39 cells; a data mark
abbrev front : List ℕ
front =
    (0x1A1 ∷ 0x1A1 ∷ 0xFE ∷ 0x00 ∷ 0x00 ∷ 0x01 ∷ 0x03 ∷ 0xDA ∷ 0x4E ∷ [])
    ++ replicate 39 0
    ++ (0x1A1 ∷ 0x1A1 ∷ 0x1A1 ∷ 0xFB ∷ [])

-- cells 52 to 2,047, the last of which is the ID's first
abbrev back : List ℕ
back = replicate 1995 0 ++ (0x1A1 ∷ [])

abbrev track : List ℕ
track = front ++ back

-- at power-on
abbrev scene : Scene
scene = scene_of (fresh true Wd1793) track

asked : InTimePremises scene
unfolding all_low power_on length_within fresh_machine
asked = scene_asked (fresh true Wd1793) track (fresh_accepts true Wd1793) refl (low_by track refl)

-- the stream is the track from cell 0 on
cell : (n : ℕ) → stream_of scene n ≡ get_or track (n % sample_length) 0
unfolding passing cells_of bit_of settles_first is_multiple verifies_track side_of side_asked mark_written turns_on power_on length_within fresh_machine
cell n = ap (λ (k : ℕ). get_or track (k % sample_length) 0) (zero-add n)

-- cells 52 to 2,046
middle : (n : ℕ) → 52 ≤ n → n < 2047 → get_or track n 0 ≡ 0
middle n above below =
    let e : 52 + (n - 52) ≡ n = omega arith in
    ap (λ (k : ℕ). get_or track k 0) (sym e)
    ∙ get_or-append-add front back (n - 52) 0
    ∙ get_or-append (replicate 1995 0) (0x1A1 ∷ []) 0 (n - 52)
    (rw (length-replicate {A = ℕ} 1995 0) (omega arith))
    ∙ get_or-replicate 1995 (n - 52) 0 0 (omega arith)

-- ---- the ID

-- an FE that is no flagged cell stands at cell 2 alone
no_fe : (n : ℕ) → 3 ≤ n → n < 2050 → stream_of scene n ≡ 0xFE → ⊥
no_fe n above below e = by (dec_lt n 52) (dec_lt n 2047)
  where
    test : ℕ → Bool
    test k = eqb (get_or track (k % sample_length) 0) 0xFE

    by : Dec (n < 52) → Dec (n < 2047) → ⊥
    by (yes h) other = eqb-false _ _ (sym (range test {x = n} 3 49 refl above (omega arith))) (sym (cell n) ∙ e)
    by (no h) (yes g) =
        let here : n % sample_length ≡ n = mod-eq_of_lt (omega arith) in
        let same = sym e ∙ cell n ∙ ap (λ (k : ℕ). get_or track k 0) here ∙ middle n (omega arith) g in
        omega arith
    by (no h) (no g) = eqb-false _ _ (sym (range test {x = n} 2047 3 refl (omega arith) (omega arith))) (sym (cell n) ∙ e)

-- so no ID ends before cell 2,056
unhit : (k : ℕ) → k < 2056 → hit_at (settled_in scene) k ≡ false
unfolding MarkAt lead_of power_on length_within fresh_machine
unhit k below = by (hit_at (settled_in scene) k) refl
  where
    by : (b : Bool) → hit_at (settled_in scene) k ≡ b → b ≡ false
    by true e =
        let (id, heard, (a, p, stands, says), suits) = hit_id scene ReadSector (settling scene) k e in
        absurd (no_fe (a + 3) (omega arith) (omega arith) stands.mark.4)
    by false e = refl

abbrev named : Id
named = record { track = 0; side = 0; sector = 1; length = 3; good = true }

-- and there one does
stands_there : IdEnds true (stream_of scene) 2056 named
unfolding MarkAt lead_of id_from crc_from crc_byte crc_bits crc_bit passing cells_of bit_of settles_first is_multiple verifies_track side_of side_asked mark_written turns_on power_on length_within fresh_machine
stands_there = (
  2047,
  refl,
  record { mark = (omega arith, refl, refl, refl, refl); plain = plain },
  refl,
)
  where
    plain : (i : ℕ) → i < 6 → stream_of scene (2051 + i) < 256
    plain i l = ltb-true _ _ (sym (range (λ (k : ℕ). ltb (stream_of scene (2051 + k)) 256) {x = i} 0 6 refl (omega arith) l))

hit : hit_at (settled_in scene) 2056 ≡ true
unfolding bit_of settles_first is_multiple verifies_track side_of side_asked mark_written power_on length_within fresh_machine
hit =
    id_hit scene ReadSector (settling scene) 2056 named stands_there
    (record { track = refl; sector = refl; side = λ asks. never (cc); good = refl })

found : Found (working scene asked) reads_two (heads scene asked)
unfolding pulse_time bit_of settles_first is_multiple verifies_track side_of side_asked mark_written power_on length_within fresh_machine turns_on
found =
    record {
      q = 2056;
      soon = leb-true 2057 (fifth_of (working scene asked) reads_two (heads scene asked)) refl;
      first = record { passes = hit; none = unhit };
    }

-- ---- the data mark

-- the stream after the ID
after : (i : ℕ) → after_id scene 2056 i ≡ get_or track ((2057 + i) % 2048) 0
after i = cell (2057 + i)

-- no flagged A1 is among the first 39 of its cells, so no mark ends with the first 42
no_sync : (u : ℕ) → u < 39 → after_id scene 2056 u ≡ sync → ⊥
no_sync u below e = eqb-false _ _ (sym (range is {x = u} 0 39 refl (omega arith) below)) (sym (after u) ∙ e)
  where
    is : ℕ → Bool
    is k = eqb (get_or track ((2057 + k) % sample_length) 0) sync

-- the 43rd is one
marks : FirstMarkIn true (after_id scene 2056) Fb 42
unfolding MarkAt lead_of mark_byte density_has window_of
marks =
    record {
      near = leb-true 43 43 refl;
      none = λ u below.
          unmet_by _
          (λ mark met.
          let (has, (a, p, stands)) = (data_marks true (after_id scene 2056) u mark).0 met in
          no_sync a (omega arith) stands.1);
      met = (data_marks true (after_id scene 2056) 42 Fb).1 (refl, (39, refl, (omega arith, after 39, after 40, after 41, after 42)));
    }

-- ---- the end

-- of 1,024 bytes
long : found_size found ≡ 1024
unfolding field_size size_of ibm_lengths length_in found power_on length_within fresh_machine
long =
    ap (field_size true)
    (sym (hit_there found).length_is
    ∙ ap length_in ((ids true (stream_of scene) 2056 named).1 stands_there))

sharp : OverAt scene 3126 false
unfolding found bit_of settles_first is_multiple verifies_track side_of side_asked mark_written
sharp =
    subst (λ (size : ℕ). OverAt scene (0 + (2057 + 43 + (size + 2))) false) long
    (marked_over found 42 Fb marks refl)

-- "within L + 1,078 byte times where such an ID exists": it takes all of them
pub takes_all :
    InTimePremises scene
    × OnRing scene
    × EndsAt scene.host (loaded scene) (settling scene + (length scene.row + 1078))
unfolding bit_of settles_first is_multiple verifies_track side_of side_asked mark_written power_on length_within fresh_machine
takes_all = (
  asked,
  id_ring (hit_ring scene ReadSector (settling scene) (omega arith) 2056 hit).on_ring,
  sharp.ends,
)

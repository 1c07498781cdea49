-- Machines grown by a few calls, each at a limit of refusal 2. Assumes nothing.
use mathlib.Core.Path.{◌≡◌, refl}
use mathlib.Core.Bool.{Bool, true, false}
use mathlib.Core.List.{List, [], ◌∷◌, ◌++◌}
use Prim.Native.Nat.{ℕ, zero, suc, ◌-◌}
use lib.Dec.{ltb}
use lib.ListN.{length, replicate}
use borrow.Author.Tests.{ltb-true}
use Rattle.crc.specs.Crc.{crc_bit, crc_bits, crc_byte, crc_over}
use Rattle.scan.specs.Marks.{lead_of, carries_mark, sync_run, mark_step, mark_bytes, mark_crc}
use Rattle.scan.specs.DataMarks.{window_of, mark_byte, is_deleted, density_has, data_mark_of, data_mark_in, data_mark_step}
use Rattle.scan.specs.Ids.{id_begun, pushed_of, whole_of, id_byte_step, run_in, id_cell_step, id_mark_step, id_step}
use Rattle.scan.specs.declared.Scan.TheVariants.{Gap}
use Rattle.command.specs.Bits.{updates_track, loads_head, verifies_track, is_multiple, settles_first, side_of, side_asked, ibm_lengths, mark_written}
use Rattle.command.specs.Commands.{class_of, decoded_by_both, decoded_of, is_restore, job_of}
use Rattle.command.specs.Orders.{inward_of, order_of}
use Rattle.common.specs.Bits.{bit_of}
use Rattle.command.specs.Sizes.{size_of, field_size}
use Rattle.command.specs.Times.{step_time_of, settle_time_of}
use Rattle.command.specs.declared.Chip.TheVariants.{Wd1793}
use Rattle.activity.specs.Acts.{taken_of}
use Rattle.activity.specs.Limits.{busy_in, scan_within, counts_within}
use Rattle.stepping.specs.Stepping.{stop_act, track_after, step_act, seek_decision, seek_turn, pulse_turn, stop_turn}
use Rattle.search.specs.Search.{pulses_seen, side_matches, sector_matches, matches_for, after_match, id_found, search_step, search_cell, after_record}
use Rattle.reading.specs.Reading.{window_missed, window_step, window_cell, data_cell, address_begun, hunt_step, hunt_cell, address_track, address_cell}
use Rattle.writing.specs.Writing.{last_kept, last_zero, mark_place, mark_cell, preamble_cell, preamble_next, preamble_deed, preamble_turn, put_cell}
use Rattle.act.specs.Turns.{job_begun, begun_activity, settle_turn, activity_act, act_of}
use Rattle.activity.specs.declared.Activity.TheVariants.{Search, Window, Hunt, Preamble}
use Rattle.wd.specs.declared.Machine.{Machine}
use Rattle.scan.specs.Rows.{length_within}
use Rattle.registers.specs.Rings.{ring_within, ring_next, seen_of, condition_met}
use Rattle.wd.specs.Machines.{valid_of, fresh_machine, power_on}
use Rattle.registers.specs.Registers.{guarded, load_refusal, load_regs, load_wires}
use Rattle.accepting.specs.Accepting.{writes, held_by, asks_first, begin_regs, begin_wires, forced_flags, begin_flags, begin_head, conditions_for, works_from, begin_activity}
use Rattle.wd.specs.Loads.{command_begun, command_answer, load_register}
use Rattle.effects.specs.Effects.{raised_sr, delivered, address_named, record_over, record_read, cell_taken, stepped, halted, effect_of}
use Rattle.wd.specs.Turns.{act_applied, cell_turn}
use Rattle.wd.specs.Rows.{row_refusal, refused_at, done_by, byte_time}
use Rattle.reachable.specs.Growth.{Grown, power_on_call, load, byte_time_call}
use Rattle.reachable.specs.Limits.{EachCount, Reached}
use Rattle.reachable.proofs.Samples.{sample_length, on}
use Rattle.reachable.proofs.EmptyTrack.{search_waits, hunt_waits, four_pulses}

-- ---- calls

abbrev Grows : Type 0
Grows = (m : Machine) × Grown m

abbrev loads : (number b : ℕ) → ltb b 256 ≡ true → Grows → Grows
loads number b h (m, g) = ((load_register m on number b).machine, load g on number b (ltb-true b 256 h))

-- power-on of a WD1793, and a command
abbrev commanded : Bool → (b : ℕ) → ltb b 256 ≡ true → Grows
commanded mfm b h = loads 0 b h ((power_on sample_length mfm Wd1793).machine, power_on_call sample_length mfm Wd1793)

-- so many byte times over a track that begins with these cells and has 00 after them
abbrev passes : ℕ → List ℕ → Grows → Grows
passes zero cells g = g
passes (suc n) cells (m, g) =
    let row = cells ++ replicate (sample_length - length cells) 0 in
    passes n cells ((byte_time m on row).machine, byte_time_call g on row)

-- ---- tracks

abbrev syncs : List ℕ
syncs = 0x1A1 ∷ 0x1A1 ∷ 0x1A1 ∷ []

-- an ID of track 0, side 0, sector 1 and 1,024 bytes
abbrev mfm_id : List ℕ
mfm_id = syncs ++ (0xFE ∷ 0x00 ∷ 0x00 ∷ 0x01 ∷ 0x03 ∷ 0xDA ∷ 0x4E ∷ [])

abbrev fm_id : List ℕ
fm_id = 0x1FE ∷ 0x00 ∷ 0x00 ∷ 0x01 ∷ 0x03 ∷ 0xE2 ∷ 0xA0 ∷ []

-- ---- machines

-- a Seek to the track that DR holds and a Step-in, after their first pulse, at the slowest rate
seeking : Grows
seeking = passes 1 [] (loads 3 5 refl (commanded true 0x13 refl))

stopping : Grows
stopping = passes 1 [] (commanded true 0x43 refl)

-- a Read Sector with E, accepted
settling : Grows
settling = commanded true 0x84 refl

-- one without E: its search after an index pulse; after three flagged A1; with one cell of an ID to come
searching : Grows
searching = passes 1 [] (commanded false 0x80 refl)

scanning : Grows
scanning = passes 3 syncs (commanded true 0x80 refl)

hearing : Grows
hearing = passes 6 fm_id (commanded false 0x80 refl)

-- after the ID: with one cell of the window to come, and three flagged A1 last; after a data mark
awaiting : Grows
awaiting = passes 52 (mfm_id ++ replicate 39 0x00 ++ syncs) (commanded true 0x80 refl)

reading : Grows
reading = passes 8 (fm_id ++ (0x1FB ∷ [])) (commanded false 0x80 refl)

-- a Read Address: after an index pulse; after three flagged A1; with one cell to come
hunting : Grows
hunting = passes 1 [] (commanded false 0xC0 refl)

marking : Grows
marking = passes 3 syncs (commanded true 0xC0 refl)

naming : Grows
naming = passes 6 fm_id (commanded false 0xC0 refl)

-- a Write Sector that is served when it asks, with its mark to come; and after the mark
preparing : Grows
preparing = passes 35 mfm_id (loads 3 0x00 refl (passes 12 mfm_id (commanded true 0xA0 refl)))

putting : Grows
putting = passes 1 mfm_id preparing

-- ---- limits

-- "the largest its activity holds in any machine grown from power-on": one reaches it
pub reached : EachCount Reached
unfolding crc_bit putting seeking stopping settling searching scanning hearing awaiting reading hunting marking naming
    preparing crc_bits crc_byte crc_over lead_of carries_mark sync_run mark_step mark_bytes mark_crc mark_byte is_deleted density_has data_mark_of
    data_mark_in data_mark_step id_begun pushed_of whole_of id_byte_step run_in id_cell_step id_mark_step id_step bit_of updates_track loads_head verifies_track is_multiple settles_first side_of side_asked ibm_lengths mark_written is_restore decoded_of decoded_by_both class_of job_of
    inward_of order_of size_of field_size step_time_of settle_time_of busy_in scan_within counts_within stop_act track_after step_act seek_decision seek_turn
    pulse_turn stop_turn pulses_seen side_matches sector_matches matches_for after_match id_found search_step search_cell window_of window_missed window_step
    window_cell after_record data_cell address_begun hunt_step hunt_cell address_track address_cell last_kept last_zero mark_place
    mark_cell preamble_cell preamble_next preamble_deed preamble_turn taken_of put_cell job_begun begun_activity
    settle_turn activity_act act_of length_within ring_within valid_of fresh_machine power_on guarded load_refusal load_regs load_wires
    writes held_by asks_first begin_regs begin_wires forced_flags begin_flags begin_head conditions_for works_from begin_activity
    command_begun command_answer load_register raised_sr delivered address_named record_over record_read cell_taken stepped halted effect_of ring_next seen_of condition_met
    act_applied cell_turn row_refusal refused_at done_by byte_time
reached =
    let searched = four_pulses on (λ seen. Search seen (Gap 0)) search_waits (searching.0, searching.1, refl, refl) in
    let hunted = four_pulses on (λ seen. Hunt seen 0) hunt_waits (hunting.0, hunting.1, refl, refl) in
    let window : awaiting.0.activity ≡ Window 1026 42 3 = refl in
    let preamble : preparing.0.activity ≡ Preamble 1027 37 = refl in
    record {
      seek_left = (seeking.0, seeking.1, refl);
      stop_left = (stopping.0, stopping.1, refl);
      settle_left = (settling.0, settling.1, refl);
      search_pulses = (searched.0, searched.1, (Gap 0, searched.3));
      search_run = (scanning.0, scanning.1, (1, refl));
      search_passed = (
        hearing.0,
        hearing.1,
        (1, record { passed = 5; crc = 0xA000; track = 0; side = 0; sector = 1; length = 3 }, refl, refl),
      );
      window_left = (awaiting.0, awaiting.1, (42, 3, window));
      window_passed = (awaiting.0, awaiting.1, (1026, 3, window));
      window_run = (awaiting.0, awaiting.1, (1026, 42, window));
      data_left = (reading.0, reading.1, (0xBF84, false, refl));
      hunt_pulses = (hunted.0, hunted.1, (0, hunted.3));
      hunt_run = (marking.0, marking.1, (1, refl));
      address_passed = (naming.0, naming.1, (0xA000, 0, refl));
      preamble_left = (preparing.0, preparing.1, (37, preamble));
      preamble_passed = (preparing.0, preparing.1, (1027, preamble));
      put_left = (putting.0, putting.1, (0xE295, refl));
    }

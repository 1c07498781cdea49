-- Commands at power-on on tracks of 2,048 cells, and what computes of them: the sessions of demand 2 as plans, a Read Sector of
-- demand 3, and a Write Sector that nobody serves. Assumes nothing.
use mathlib.Core.Path.{◌≡◌, refl}
use mathlib.Core.Bool.{true, false}
use mathlib.Core.List.{List, [], ◌∷◌, ◌++◌}
use Prim.Native.Nat.{ℕ, suc}
use native.Mathlib.Omega.{arith}
use lib.ListN.{replicate}
use Rattle.common.specs.Bits.{bit_of}
use Rattle.common.proofs.Arms.{count, Gives}
use Rattle.crc.specs.Crc.{crc_bit, crc_bits, crc_byte, crc_over}
use Rattle.scan.specs.Marks.{lead_of, carries_mark, sync_run, mark_step, mark_bytes, mark_crc}
use Rattle.scan.specs.Streams.{MarkAt, id_from}
use Rattle.scan.specs.DataMarks.{mark_byte, is_deleted, density_has, data_mark_of, data_mark_in, data_mark_step, window_of}
use Rattle.scan.specs.Ids.{id_begun, pushed_of, whole_of, id_byte_step, run_in, id_cell_step, id_mark_step, id_step}
use Rattle.scan.specs.Rows.{length_within}
use Rattle.command.specs.Commands.{class_of, decoded_by_both, decoded_of, job_of, is_restore}
use Rattle.command.specs.Orders.{inward_of, order_of}
use Rattle.command.specs.Sizes.{size_of, field_size}
use Rattle.command.specs.Times.{step_time_of, settle_time_of}
use Rattle.command.specs.Bits.{loads_head, settles_first, is_multiple, verifies_track, side_of, side_asked, ibm_lengths, mark_written}
use Rattle.command.specs.declared.Chip.TheVariants.{Wd1793, Wd1797}
use Rattle.command.specs.declared.Command.TheVariants.{WriteSector}
use Rattle.std.specs.Prelude.{Some}
use Rattle.activity.specs.Acts.{taken_of}
use Rattle.activity.specs.Limits.{busy_in, scan_within, counts_within}
use Rattle.activity.specs.declared.Deed.TheVariants.{Nothing, Matched, Ask}
use Rattle.search.specs.Search.{pulses_seen, side_matches, sector_matches, matches_for, after_match, id_found, search_step, search_cell, after_record}
use Rattle.reading.specs.Reading.{window_missed, window_step, window_cell}
use Rattle.writing.specs.Writing.{last_kept, last_zero, mark_place, mark_cell, preamble_cell, preamble_next, preamble_deed, preamble_turn, put_cell}
use Rattle.act.specs.Turns.{job_begun, begun_activity, settle_turn, activity_act, act_of}
use Rattle.registers.specs.Rings.{ring_within, ring_next, seen_of, condition_met}
use Rattle.registers.specs.Registers.{read_refusal, read_wires, guarded, load_refusal, load_regs, load_wires}
use Rattle.accepting.specs.Accepting.{writes, held_by, asks_first, begin_regs, begin_wires, begin_flags, begin_head, conditions_for, works_from, begin_activity}
use Rattle.effects.specs.Effects.{raised_sr, effect_of, delivered, address_named, record_over, record_read, cell_taken, stepped, halted}
use Rattle.fields.specs.Rings.{cells_of}
use Rattle.wd.specs.Machines.{valid_of, fresh_machine, power_on}
use Rattle.wd.specs.Reads.{read_register}
use Rattle.wd.specs.Loads.{command_begun, command_answer, load_register}
use Rattle.wd.specs.Turns.{act_applied, cell_turn}
use Rattle.wd.specs.Rows.{row_refusal, refused_at, done_by, byte_time, byte_time_row}
use Rattle.reachable.proofs.Samples.{on}
use Rattle.hosts.specs.Hosts.{called_of, called_all, Host, served_at, passes_under, at, BusyAt}
use Rattle.hosts.specs.Bytes.{deed_on, deed_at, takes}
use Rattle.hosts.specs.Scenes.{Scene, loaded}
use Rattle.hosts.proofs.LowRows.{all_low}
use Rattle.in_time.proofs.Scenes.{scene_of, fresh}
use Rattle.served.specs.Served.{loads_dr, reads_dr}
use Rattle.witnesses.proofs.Walks.{step_from, walked}
use Rattle.witnesses.proofs.ServesAll.{on_drq, serves_from}
use Rattle.witnesses.proofs.Plans.{Plan, summary, flagged_in, flags_of, Computed}
use Rattle.refusals.specs.Numbers.{done}

-- FM IDs of track 0, sector 1 and 128 bytes, of either side
abbrev pub id_side_0 : List ℕ
id_side_0 = 0x1FE ∷ 0x00 ∷ 0x00 ∷ 0x01 ∷ 0x00 ∷ 0xD2 ∷ 0xC3 ∷ []

abbrev pub id_side_1 : List ℕ
id_side_1 = 0x1FE ∷ 0x00 ∷ 0x01 ∷ 0x01 ∷ 0x00 ∷ 0xE5 ∷ 0xF3 ∷ []

-- ---- sessions

-- FM: a Write Sector without E, C and m, an ID from cell 0 on, and 00 after it
abbrev pub fm : Plan
fm =
    record {
      machine = fresh false Wd1793;
      byte = 0xA0;
      byte_then = 0x80;
      track = id_side_0 ++ replicate 2041 0x00;
      p = 0;
      first = 9;
      cell = 25;
      last = 155;
      bytes = count 25 128;
    }

-- MFM: the same ID, and a deleted mark
abbrev pub mfm_deleted : Plan
mfm_deleted =
    record {
      machine = fresh true Wd1793;
      byte = 0xA1;
      byte_then = 0x80;
      track =
          (0x1A1 ∷ 0x1A1 ∷ 0x1A1 ∷ 0xFE ∷ 0x00 ∷ 0x00 ∷ 0x01 ∷ 0x00 ∷ 0xEA ∷ 0x2D ∷ []) ++ replicate 2038 0x00;
      p = 0;
      first = 12;
      cell = 48;
      last = 178;
      bytes = count 48 128;
    }

-- FM with E and C: the head settles for 469 byte times, and the ID that stands there is of side 1, which is asked
abbrev pub fm_settled : Plan
fm_settled =
    record {
      machine = fresh false Wd1793;
      byte = 0xAE;
      byte_then = 0x8E;
      track = replicate 469 0x00 ++ id_side_1 ++ replicate 1572 0x00;
      p = 469;
      first = 478;
      cell = 494;
      last = 624;
      bytes = count 238 18 ++ count 0 110;
    }

-- FM on a WD1797 with U 1 and L 0: the ID is of side 1, and its length code, 3, means 128 bytes
abbrev pub two_sided : Plan
two_sided =
    record {
      machine = fresh false Wd1797;
      byte = 0xA2;
      byte_then = 0x82;
      track = (0x1FE ∷ 0x00 ∷ 0x01 ∷ 0x01 ∷ 0x03 ∷ 0xD5 ∷ 0x90 ∷ []) ++ replicate 2041 0x00;
      p = 0;
      first = 9;
      cell = 25;
      last = 155;
      bytes = count 25 128;
    }

-- ---- scenes

-- a Read Sector; FB is the 31st cell after the ID
abbrev pub outside : Scene
outside = scene_of (fresh false Wd1793) (id_side_0 ++ replicate 30 0x00 ++ (0x1FB ∷ []) ++ replicate 2010 0x00)

-- a host that makes no calls, and a Write Sector
abbrev pub nobody : Host
nobody = record { calls = λ n. []; lines = λ n. on }

abbrev pub unserved : Scene
unserved =
    record { machine = fresh false Wd1793; lines = on; byte = 0xA0; row = id_side_0 ++ replicate 2041 0x00; host = nobody }

-- ---- what computes

-- a command is Busy before byte time n, and not after it
pub record LastIn (s : Scene) (n : ℕ) : Type 0 where
  pub goes : BusyAt s.host (loaded s) n
  pub over : busy_in (at s.host (loaded s) (suc n)).machine.activity ≡ false

-- the ID ends with byte time 6; the second after it asks, the tenth finds DRQ on
pub record Unserved : Type 0 where
  pub writes : decoded_of unserved.machine.chip unserved.byte ≡ Some WriteSector
  pub accepted : (load_register unserved.machine on 0 unserved.byte).outcome ≡ done
  pub ends : LastIn unserved 16
  pub searches : Gives (deed_at nobody (loaded unserved)) Nothing (count 0 6)
  pub finds : deed_at nobody (loaded unserved) 6 ≡ Matched false
  pub passes : deed_at nobody (loaded unserved) 7 ≡ Nothing
  pub asks : deed_at nobody (loaded unserved) 8 ≡ Ask true
  pub still : (served_at nobody 16 (at nobody (loaded unserved) 16)).machine.wires.drq ≡ true

pub record Runs : Type 0 where
  pub of_fm : Computed fm
  pub of_mfm : Computed mfm_deleted
  pub of_settled : Computed fm_settled
  pub of_two_sided : Computed two_sided
  pub of_outside : LastIn outside 36
  pub of_unserved : Unserved

pub runs : Runs
unfolding all_low summary walked step_from deed_on takes loads_dr reads_dr on_drq serves_from flagged_in flags_of crc_bit crc_bits
    crc_byte crc_over lead_of carries_mark sync_run mark_step mark_bytes mark_crc mark_byte is_deleted density_has data_mark_of data_mark_in
    data_mark_step id_begun pushed_of whole_of id_byte_step run_in id_cell_step id_mark_step id_step bit_of settles_first is_multiple
    verifies_track side_of side_asked ibm_lengths mark_written is_restore loads_head decoded_of decoded_by_both class_of job_of inward_of order_of size_of field_size
    step_time_of settle_time_of busy_in scan_within counts_within pulses_seen side_matches sector_matches matches_for after_match
    id_found search_step search_cell after_record last_kept last_zero mark_place mark_cell preamble_cell preamble_next preamble_deed
    preamble_turn taken_of put_cell job_begun begun_activity settle_turn activity_act act_of length_within ring_within ring_next seen_of
    condition_met valid_of fresh_machine power_on guarded load_refusal load_regs load_wires writes held_by asks_first begin_regs
    begin_wires begin_flags begin_head conditions_for works_from begin_activity command_begun command_answer load_register raised_sr
    act_applied cell_turn row_refusal refused_at done_by byte_time byte_time_row called_of called_all served_at passes_under at MarkAt
    cells_of id_from effect_of delivered address_named record_over record_read cell_taken stepped halted window_of window_missed
    window_step window_cell read_refusal read_wires read_register deed_at
runs =
    record {
      of_fm = record {
        dr = refl;
        writes = refl;
        single = refl;
        accepted = refl;
        ended = refl;
        serves = refl;
        reads = refl;
        same_m = refl;
        same_e = refl;
        same_side = refl;
        same_lengths = refl;
        wide = refl;
        short = refl;
        flags = refl;
        mark = (omega arith, refl);
        of_track = refl;
        of_sector = refl;
      };
      of_mfm = record {
        dr = refl;
        writes = refl;
        single = refl;
        accepted = refl;
        ended = refl;
        serves = refl;
        reads = refl;
        same_m = refl;
        same_e = refl;
        same_side = refl;
        same_lengths = refl;
        wide = refl;
        short = refl;
        flags = refl;
        mark = (omega arith, refl, refl, refl, refl);
        of_track = refl;
        of_sector = refl;
      };
      of_settled = record {
        dr = refl;
        writes = refl;
        single = refl;
        accepted = refl;
        ended = refl;
        serves = refl;
        reads = refl;
        same_m = refl;
        same_e = refl;
        same_side = refl;
        same_lengths = refl;
        wide = refl;
        short = refl;
        flags = refl;
        mark = (omega arith, refl);
        of_track = refl;
        of_sector = refl;
      };
      of_two_sided = record {
        dr = refl;
        writes = refl;
        single = refl;
        accepted = refl;
        ended = refl;
        serves = refl;
        reads = refl;
        same_m = refl;
        same_e = refl;
        same_side = refl;
        same_lengths = refl;
        wide = refl;
        short = refl;
        flags = refl;
        mark = (omega arith, refl);
        of_track = refl;
        of_sector = refl;
      };
      of_outside = record { goes = refl; over = refl };
      of_unserved = record {
        writes = refl;
        accepted = refl;
        ends = record { goes = refl; over = refl };
        searches = refl;
        finds = refl;
        passes = refl;
        asks = refl;
        still = refl;
      };
    }

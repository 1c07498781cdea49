-- A multiple read that request b speaks of, and what it says of it: after a good record comes a bad one, and it ends there.
-- Assumes nothing.
use mathlib.Core.Path.{◌≡◌, refl, sym, ap, ◌∙◌, subst}
use mathlib.Core.Bool.{true, false}
use mathlib.Core.List.{List, [], ◌∷◌, ◌++◌}
use Prim.Native.Nat.{ℕ, ◌+◌}
use native.Mathlib.Omega.{arith}
use lib.ListN.{replicate}
use Rattle.common.specs.Bits.{bit_of}
use Rattle.common.proofs.Cases.{never}
use Rattle.crc.specs.Crc.{crc_bit, crc_bits, crc_byte}
use Rattle.scan.specs.Marks.{lead_of}
use Rattle.scan.specs.DataMarks.{mark_byte, window_of}
use Rattle.scan.specs.Rows.{length_within}
use Rattle.scan.specs.Streams.{MarkAt, crc_from, id_from}
use Rattle.scan.specs.declared.DataMark.{DataMark}
use Rattle.scan.specs.declared.DataMark.TheVariants.{Fb, F8}
use Rattle.scan.proofs.DataMarks.{fm_has}
use Rattle.command.specs.Bits.{settles_first, is_multiple}
use Rattle.command.specs.Commands.{decoded_by_both, decoded_of}
use Rattle.command.specs.declared.Chip.{Chip}
use Rattle.command.specs.declared.Chip.TheVariants.{Wd1793, Wd1797}
use Rattle.activity.specs.Limits.{busy_in, counts_within}
use Rattle.registers.specs.Registers.{guarded, load_refusal}
use Rattle.registers.specs.Rings.{ring_within}
use Rattle.registers.specs.declared.Lines.{Lines}
use Rattle.fields.specs.Rings.{cells_of}
use Rattle.fields.specs.Rounds.{FirstMark}
use Rattle.wd.specs.Machines.{valid_of, fresh_machine, power_on}
use Rattle.wd.specs.Loads.{command_answer, load_register}
use Rattle.reachable.proofs.Samples.{on}
use Rattle.hosts.specs.Hosts.{Host, EndsAt}
use Rattle.hosts.specs.Scenes.{Scene, loaded, SideSuits, by_code, field_bytes}
use Rattle.hosts.specs.Tracks.{passing}
use Rattle.hosts.proofs.LowRows.{all_low, low_by}
use Rattle.in_time.proofs.Scenes.{reader, reader_quiet, fresh}
use Rattle.multiple.specs.Multiple.{MultiplePremises, end_of, cells_by, RecordFrom, field_cells, GoodCrc, passed_by, GoodRecords, none, more, ShowsBroken, EndsWith}
use Rattle.multiple.proofs.Broken.{broken_ends}
use Rattle.witnesses.proofs.Scenes.{id_at}

-- in FM a mark just after an ID is the first in its window
pub mark_at_once :
    (cells : ℕ → ℕ) (place : ℕ) (mark : DataMark)
    → MarkAt false cells place (mark_byte mark)
    → FirstMark false cells place mark place 1
unfolding lead_of window_of
mark_at_once cells place mark stands =
    record {
      within = record { low = omega arith; byte = omega arith; high = omega arith; of_density = fm_has mark; stands = stands };
      first = λ other b cell l m. omega (arith, m.low, m.byte);
    }

-- cells 0 to 137: an ID of track 0, side 0, sector 1 and 128 bytes, its data mark and its field, the CRC good; cells 138 to 275:
-- sector 2 with a deleted mark, and 00 00 for its CRC
abbrev pub two_records : List ℕ
two_records =
    (0x1FE ∷ 0x00 ∷ 0x00 ∷ 0x01 ∷ 0x00 ∷ 0xD2 ∷ 0xC3 ∷ 0x1FB ∷ [])
    ++ replicate 128 0xE5
    ++ (0x5D ∷ 0x30 ∷ [])
    ++ (0x1FE ∷ 0x00 ∷ 0x00 ∷ 0x02 ∷ 0x00 ∷ 0x87 ∷ 0x90 ∷ 0x1F8 ∷ [])
    ++ replicate 128 0xE5
    ++ replicate 1774 0x00

-- 98 asks for any side or for side 0, and for the lengths of document 01, on both chips
suits_side_0 : (chip : Chip) → SideSuits chip 0x98 0
unfolding bit_of
suits_side_0 Wd1793 = λ asks. never (cc)
suits_side_0 Wd1797 = refl

bytes_98 : (chip : Chip) → field_bytes chip 0x98 0 ≡ 128
unfolding field_bytes by_code bit_of
bytes_98 Wd1793 = refl
bytes_98 Wd1797 = refl

-- a Read Sector with m at power-on, TR 0 and SR 1, whatever the lines and the host
module _ (chip : Chip) (l : Lines) (h : Host) where
  abbrev pub scene : Scene
  scene = record { machine = fresh false chip; lines = l; byte = 0x98; row = two_records; host = h }

  pub first : RecordFrom scene 1 0
  unfolding MarkAt lead_of mark_byte id_from crc_from crc_byte crc_bits crc_bit passing cells_of power_on length_within fresh_machine
  first =
      record {
        id = record {
          cell = 0;
          after = omega arith;
          stands = id_at (cells_by scene) 0 refl refl;
          suits = record { track = refl; sector = refl; side = suits_side_0 chip; good = refl };
          first = λ other l m stands suits. omega arith;
        };
        mark = Fb;
        mark_at = 7;
        place = 1;
        marked = mark_at_once (cells_by scene) 7 Fb (omega arith, refl);
      }

  pub second : RecordFrom scene 2 138
  unfolding MarkAt lead_of mark_byte id_from crc_from crc_byte crc_bits crc_bit passing cells_of power_on length_within fresh_machine
  second =
      record {
        id = record {
          cell = 138;
          after = omega arith;
          stands = id_at (cells_by scene) 138 refl refl;
          suits = record { track = refl; sector = refl; side = suits_side_0 chip; good = refl };
          first = λ other l m stands suits. omega arith;
        };
        mark = F8;
        mark_at = 145;
        place = 1;
        marked = mark_at_once (cells_by scene) 145 F8 (omega arith, refl);
      }

  pub mark_second : second.mark ≡ F8
  unfolding second
  mark_second = refl

  -- 131 cells from the mark on
  cells_first : field_cells first ≡ 131
  unfolding first lead_of id_from passing cells_of power_on length_within fresh_machine
  cells_first = ap (λ (n : ℕ). 0 + 1 + n + 2) (bytes_98 chip)

  cells_second : field_cells second ≡ 131
  unfolding second lead_of id_from passing cells_of power_on length_within fresh_machine
  cells_second = ap (λ (n : ℕ). 0 + 1 + n + 2) (bytes_98 chip)

  pub good_first : GoodCrc first
  unfolding first crc_from crc_byte crc_bits crc_bit passing cells_of power_on length_within fresh_machine
  good_first = ap (crc_from (cells_by scene) 7) cells_first ∙ refl

  pub bad_second : GoodCrc second → ⊥
  unfolding second crc_from crc_byte crc_bits crc_bit passing cells_of power_on length_within fresh_machine
  bad_second good =
      let left : crc_from (cells_by scene) 145 131 ≡ 19800 = refl in
      omega (arith, left, ap (crc_from (cells_by scene) 145) (sym cells_second) ∙ good)

  pub over_first : passed_by first ≡ 138
  unfolding first
  over_first = ap (λ (n : ℕ). 7 + n) cells_first

  pub one_good : GoodRecords scene 1 0 2 138
  one_good = more first good_first (subst (λ (t : ℕ). GoodRecords scene 2 t 2 138) (sym over_first) none)

  pub over_second : passed_by second ≡ 276
  unfolding second
  over_second = ap (λ (n : ℕ). 145 + n) cells_second

-- under a host that reads the status and DR before every byte time
module _ (chip : Chip) where
  abbrev read : Scene
  read = scene chip on reader

  asked : MultiplePremises read
  unfolding all_low decoded_of decoded_by_both bit_of is_multiple load_register load_refusal guarded valid_of ring_within length_within
      counts_within busy_in power_on fresh_machine command_answer
  asked =
      record {
        is = record { reads = refl; multiple = refl; accepted = refl };
        ready = refl;
        alone = λ n busy. reader_quiet n _;
        whole = refl;
        low = low_by two_records refl;
      }

  ends_with : EndsWith read (second chip on reader)
  unfolding bit_of settles_first power_on length_within fresh_machine
  ends_with =
      broken_ends read asked 0 2 138
      (record { settled = omega arith; hlt = refl; off = λ k l h. absurd (omega arith) })
      (one_good chip on reader) (second chip on reader) (bad_second chip on reader)

  -- it ends with the bad record's last cell, in byte time 276, with INTRQ, SR at its sector, bits 3 and 5 on and bit 4 off
  pub second_broken :
      MultiplePremises read
      × EndsAt reader (loaded read) 276
      × ((end_of read 276).wires.intrq ≡ true)
      × ((end_of read 276).regs.sr ≡ 2)
      × ShowsBroken read 276 F8
  unfolding second
  second_broken = (
    asked,
    rw (over_second chip on reader) at ends_with.ends,
    rw (over_second chip on reader) at ends_with.raised,
    rw (over_second chip on reader) at ends_with.sr,
    rw (over_second chip on reader) at ends_with.shows,
  )

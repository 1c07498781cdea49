-- Demand 2 for one sector of 128 bytes, from `demand_2` alone. Assumes nothing.
use mathlib.Core.Path.{◌≡◌, refl, sym, ap, ◌∙◌, subst}
use mathlib.Core.Bool.{false}
use mathlib.Core.List.{List}
use Prim.Native.Nat.{ℕ, ◌<◌, ◌≤◌}
use native.Mathlib.Omega.{arith}
use lib.ListN.{length}
use Rattle.common.proofs.Arms.{range}
use Rattle.common.specs.Bits.{bit_of}
use Rattle.scan.specs.Marks.{lead_of}
use Rattle.scan.specs.Streams.{id_from}
use Rattle.scan.specs.Rows.{length_within}
use Rattle.fields.specs.Rings.{cells_of}
use Rattle.wd.specs.declared.Machine.{Machine}
use Rattle.wd.specs.Machines.{fresh_machine, power_on}
use Rattle.exact.specs.Demand2.{JustOne, NoMark, after, clear_cells}
use Rattle.hosts.specs.Scenes.{by_code, field_bytes}
use Rattle.command.specs.declared.Chip.TheVariants.{Wd1793}
use Rattle.in_time.proofs.Scenes.{fresh}
use Rattle.witnesses.proofs.Planned.{just_one, no_mark}
use Rattle.witnesses.proofs.Runs.{fm, runs}
use Rattle.uses.specs.Courses.{deleted_bit, Shows, NoErrorBit, SingleRead, SingleWrite}
use Rattle.uses.specs.Sessions.{WriteThenRead, bytes_loaded, bytes_read, Serves}
use Rattle.demands.specs.Demands.{ReadBackAsked, ReadBack}
use Rattle.demands.proofs.Demand2.{demand_2}
use Rattle.applied.proofs.Commands.{write_a0, read_80}
use Rattle.applied.specs.Sector.{one_sector, FirstSector, Sector}

same_flags : (place : ℕ) → 1 ≤ place → place ≤ 4 → bit_of 0x80 place ≡ bit_of 0xA0 place
unfolding bit_of
same_flags place low high =
    sym (range (bit_of 0x80) {answer = false} 1 4 refl low (omega arith)) ∙ range (bit_of 0xA0) 1 4 refl low (omega arith)

module _ (t : WriteThenRead) (is : FirstSector t) where
  -- what holds of the machine at power-on and the track holds of this write's
  carried : (P : Machine → List ℕ → Type 0) → P (fresh false Wd1793) one_sector → P t.write.machine t.write.row
  carried P = subst (λ (q : Machine × List ℕ). P q.0 q.1) (λ i. (sym is.machine i, sym is.row i))

  pub sector_asked : ReadBackAsked t 0
  unfolding power_on length_within fresh_machine
  sector_asked =
      record {
        writes = subst SingleWrite (sym is.writes) write_a0;
        ready = is.ready;
        dr = carried (λ m row. m.regs.dr < 256) (omega arith);
        no_error = is.no_error;
        reads = subst SingleRead (sym is.reads) read_80;
        ready_then = is.ready_then;
        same_tr = is.tr ∙ carried (λ m row. 0 ≡ m.regs.tr) refl;
        same_sr = is.sr ∙ carried (λ m row. 1 ≡ m.regs.sr) refl;
        same_flags = λ place low high.
            ap (λ (b : ℕ). bit_of b place) is.reads
            ∙ same_flags place low high
            ∙ ap (λ (b : ℕ). bit_of b place) (sym is.writes);
        just_one = carried (λ m row. JustOne m.mfm row m.regs.tr m.regs.sr 0) (just_one fm runs.of_fm);
        no_mark = carried (λ m row. NoMark m.mfm (after m.mfm row 0) (clear_cells m.mfm)) (no_mark fm runs.of_fm);
      }

  -- "The two low bits of length give 128, ..": the ID's are 00
  size : field_bytes t.write.machine.chip t.write.byte (id_from t.write.machine.mfm (cells_of t.write.row) 0).length ≡ 128
  unfolding power_on length_within fresh_machine field_bytes by_code id_from lead_of cells_of
  size = carried (λ m row. field_bytes m.chip t.write.byte (id_from m.mfm (cells_of row) 0).length ≡ 128) refl

  module _ (served : Serves t) where
    back : ReadBack t 0
    back = demand_2.reads_back t 0 sector_asked

    fine_then : NoErrorBit Shows t.reading.after
    fine_then =
        record {
          unprotected = back.good.unprotected;
          found = back.good.found;
          crc = back.good.crc;
          not_late = back.none_lost served;
        }

    mark : Shows t.reading.after deleted_bit false
    unfolding bit_of
    mark l r call = back.good.mark l r call ∙ ap (λ (b : ℕ). bit_of b 0) is.writes

    returned :
        (length (bytes_read t.reading.calls) ≡ 128)
        × (bytes_read t.reading.calls ≡ bytes_loaded t.writing.calls)
        × NoErrorBit Shows t.reading.after
        × Shows t.reading.after deleted_bit false
    returned = (
      ap length (back.seen served ∙ back.all_seen served) ∙ back.many ∙ size,
      back.seen served,
      fine_then,
      mark,
    )

pub sector : Sector
sector = record { reads_back = returned }

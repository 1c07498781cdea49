-- Demand 2: what a Write Sector wrote reads back the same. Assumes nothing.
use mathlib.Core.Path.{◌≡◌, refl, sym, ap, ◌∙◌, subst}
use mathlib.Core.Bool.{Bool, true, false, cond}
use Prim.Native.Nat.{ℕ, ◌+◌, ◌<◌}
use native.Mathlib.Omega.{arith}
use lib.ListN.{length}
use Rattle.common.proofs.Cases.{never}
use Rattle.scan.specs.DataMarks.{mark_byte}
use Rattle.scan.specs.Streams.{MarkAt}
use Rattle.command.specs.Bits.{mark_written}
use Rattle.command.specs.Orders.{order_of}
use Rattle.command.specs.declared.Command.TheVariants.{ReadSector, WriteSector}
use Rattle.writing.specs.Writing.{last_kept, last_zero, mark_place}
use Rattle.hosts.specs.Hosts.{served_at, at}
use Rattle.hosts.specs.Bytes.{handed}
use Rattle.hosts.proofs.Intrq.{ends_told}
use Rattle.hosts.proofs.Collected.{listed, listed_same, listed_length}
use Rattle.hosts.proofs.ReadThrough as through
use Rattle.hosts.proofs.ReadStatus as status
use Rattle.hosts.proofs.ReadThrough.{Meets}
use Rattle.exact.specs.Demand2.{Session, asked, write_scene, read_scene, begun, resumed, Commands, ReadBackPremises, FewerPremises, after, InPlace, size_at, ReadsBack}
use Rattle.exact.proofs.WrittenMarks.{written_byte}
use Rattle.exact.proofs.SectorField.{Field}
use Rattle.exact.proofs.WriteSession as write
use Rattle.exact.proofs.ReadSession as read
use Rattle.exact.proofs.WrittenField.{data_byte}

-- the cells before the written mark
last_zero_lem : (mfm : Bool) → last_zero mfm ≡ cond mfm 34 17
unfolding last_zero last_kept
last_zero_lem true = refl
last_zero_lem false = refl

module _ (s : Session) (p : ℕ) (a : FewerPremises s p) where
  abbrev k : Commands s
  k = a.commands

  abbrev mfm : Bool
  mfm = s.machine.mfm

  abbrev mark : ℕ
  mark = mark_place s.machine.mfm

  abbrev size : ℕ
  size = write.size s k

  -- the byte times of the write up to its ID's last cell, and its field
  abbrev time : ℕ
  time = write.time s k

  abbrev written : Field
  written = write.written s k

  -- the Read Sector, and the field that it meets
  abbrev meets : Meets (read_scene s) s.read
  meets = read.meets s p a

  -- the byte time after the mark's byte
  abbrev from : ℕ
  from = through.from meets

  -- as long as the write's
  same_size : through.size meets ≡ size
  same_size = read.same_size s p a

  -- ---- the bytes that it hands over

  byte_is : (i : ℕ) → i < size → through.byte meets i ≡ written.bytes i
  byte_is i l = data_byte written (through.cells_on meets.reads meets.found) (read.passes s p a) i l

  handed_list : handed s.reader (resumed s) s.read ≡ listed written.bytes size
  handed_list =
      through.handed_list meets
      ∙ ap (listed (through.byte meets)) same_size
      ∙ listed_same (through.byte meets) written.bytes size byte_is

  -- over the cells that the write put them in
  handed_place :
      (i : ℕ)
      → i < size
      → (at s.reader (resumed s) (from + i)).machine.ring.position
      ≡ (at s.writer (begun s) (time + mark + i)).machine.ring.position
  handed_place i l =
      let d : write.cell_time s k i ≡ time + mark + i = omega arith in
      through.handed_place meets i (omega (arith, same_size))
      ∙ read.same_cell s p a (mark + i)
      ∙ sym (write.took_place s k i l)
      ∙ ap (λ (n : ℕ). (at s.writer (begun s) n).machine.ring.position) d

  in_place : InPlace s size (time + mark) from
  in_place =
      record {
        within_write = omega (arith, write.over s k);
        within_read = omega (arith, through.within meets, same_size);
        take = (write.stretch s k).during;
        hand = λ i l. (through.stretch meets).during i (omega (arith, same_size));
        byte =
            λ i l.
            through.handed_byte meets i (omega (arith, same_size))
            ∙ byte_is i l
            ∙ write.took_byte s k i l
            ∙ ap (λ (n : ℕ). (served_at s.writer n (at s.writer (begun s) n)).machine.regs.dr) (omega arith);
        cell = handed_place;
      }

  -- ---- all of it

  by_length : size ≡ size_at s p
  by_length = ap (size_at s) (read.here s p a)

  read_back : ReadsBack s p
  unfolding order_of
  read_back =
      record {
        same = handed_list ∙ sym (write.took_list s k);
        many =
            ap length (write.took_list s k)
            ∙ listed_length written.bytes size
            ∙ by_length;
        each = (
          time + mark,
          from,
          subst (λ (n : ℕ). InPlace s n (time + mark) from) by_length in_place,
        );
        raised =
            ends_told (write_scene s) WriteSector k.writes (λ e. never (cc)) k.accepted s.written
            (write.alone s k) k.ends;
        raised_then =
            ends_told (read_scene s) ReadSector k.reads (λ e. never (cc)) k.accepted_then s.read k.alone
            k.ends_then;
        type2 = status.type_two meets;
        protected = status.unprotected meets;
        missing = through.no_missing meets;
        crc = through.no_crc meets;
        lost = status.late_only meets;
        marked =
            subst (MarkAt mfm (after mfm (asked s).row p) (cond mfm 34 17)) (written_byte s.byte)
            (subst (λ (place : ℕ). MarkAt mfm (after mfm (asked s).row p) place (mark_byte (mark_written s.byte))) (last_zero_lem mfm)
            (read.mark_stands s p a));
        deleted = status.told_mark meets;
        status = λ l. status.told meets l;
      }

-- an ID that the command goes by is one of that track and sector
pub fewer : (s : Session) (p : ℕ) → ReadBackPremises s p → FewerPremises s p
fewer s p asked =
    record {
      commands = asked.commands;
      one_match = λ q inside stands suits. asked.just_one.only q inside stands suits.track suits.sector;
      no_mark = asked.no_mark;
    }

-- where just one ID is such that the command goes by it
pub reads_back : (s : Session) (p : ℕ) → FewerPremises s p → ReadsBack s p
reads_back = read_back

-- Demand 2: "A single Write Sector accepted with the drive ready that ends by itself with no error bit reads back the same by
-- a Read Sector on the same registers and flags (bit 0 aside, which is 0 there), the next command, accepted with the drive
-- ready and ending by itself, where one track is lent throughout, changed by nothing but these two commands, and holds just
-- one ID of that track and sector, with no mark in the 11 (FM) or 22 (MFM) cells after it."
pub demand_2 : (s : Session) (p : ℕ) → ReadBackPremises s p → ReadsBack s p
demand_2 s p asked = reads_back s p (fewer s p asked)

-- Demand 2, over the contracts of the calls. Assumes nothing.
use mathlib.Core.Path.{◌≡◌, refl, sym, ap, ◌∙◌, subst}
use mathlib.Core.Bool.{Bool, true, false, cond}
use Prim.Native.Nat.{ℕ, suc}
use native.Mathlib.Omega.{arith}
use Rattle.common.proofs.Cases.{by_cond, never}
use Rattle.common.specs.Bits.{bit_of}
use Rattle.scan.specs.Rows.{length_within}
use Rattle.scan.specs.DataMarks.{is_deleted}
use Rattle.scan.specs.declared.DataMark.TheVariants.{Fb, F8}
use Rattle.command.specs.declared.Chip.{Chip}
use Rattle.command.specs.declared.Chip.TheVariants.{Wd1793, Wd1797}
use Rattle.command.specs.Bits.{is_multiple, settles_first, side_of, side_asked, ibm_lengths, mark_written}
use Rattle.command.specs.Commands.{class_of, decoded_of}
use Rattle.command.specs.declared.Command.TheVariants.{ReadSector, WriteSector}
use Rattle.std.specs.Prelude.{Some, None}
use Rattle.registers.specs.declared.Flags.{Flags}
use Rattle.wd.specs.declared.Machine.{Machine}
use Rattle.wd.specs.declared.Called.{Called}
use Rattle.wd.specs.Machines.{fresh_machine, power_on}
use Rattle.wd.specs.Loads.{load_register}
use Rattle.reachable.proofs.Valid.{Valid}
use Rattle.reachable.proofs.StatusBits.{status_four, status_crc, status_protected, status_deleted, status_lost}
use Rattle.hosts.specs.Hosts.{Desk, EndsAt}
use Rattle.hosts.proofs.Accepted.{given_flags}
use Rattle.hosts.proofs.ByteTimes.{kind_later}
use Rattle.exact.specs.Demand2.{Session, write_scene, begun, wrote, asked, got, NoError, Commands, ReadBackPremises, ReadsBack}
use Rattle.reachable.proofs.Sides.{side_output}
use Rattle.exact.proofs.NextCommand.{asked_fixed}
use Rattle.exact.proofs.Demand2 as exact
use Rattle.served.specs.Served.{given_in, returned_in, loads_dr, reads_dr, ServesEach, WriterServes, BytesSeen}
use Rattle.served.proofs.WriterBytes.{given_taken}
use Rattle.hosts.proofs.Lengths.{length_bytes}
use Rattle.served.proofs.Served.{bytes_seen}
use Rattle.uses.specs.CallContracts.{PowerOnCall, PoweredOn}
use Rattle.uses.specs.Courses.{protected_bit, deleted_bit, not_found_bit, crc_error_bit, lost_data_bit, Shows, FoundGood, silent}
use Rattle.uses.specs.Sessions.{WriteThenRead, session_of, bytes_taken, bytes_loaded, bytes_read, Serves}
use Rattle.uses.proofs.Statuses.{made_valid, use_valid, since_valid, shows, showed}
use Rattle.uses.proofs.EveryUse.{every_use, use_defined, use_answered}
use Rattle.uses.proofs.Endings.{taken}
use Rattle.uses.proofs.Bytes.{course_loaded, course_read}
use Rattle.uses.proofs.Serves.{course_serves}
use Rattle.uses.proofs.Decoding.{decodes_read, decodes_write}
use Rattle.uses.proofs.Multiples.{multiple_read, over_at_broken}
use Rattle.uses.proofs.ShownMarks.{read_shows_mark}
use Rattle.uses.proofs.Sessions.{waits, begun_is, writer_alone, write_ends, wrote_is, asked_is, resumed_is, reader_alone, read_ends, got_is}
use Rattle.demands.specs.Demands.{ReadBackAsked, ReadBack, Demand2}
use Rattle.refusals.specs.Numbers.{done}
use Rattle.refusals.proofs.Outcomes.{refused-done}

-- bit 0 of the byte says which mark is written
mark_bit : (b : ℕ) → is_deleted (mark_written b) ≡ bit_of b 0
unfolding is_deleted mark_written
mark_bit b = by (bit_of b 0)
  where
    by : (deleted : Bool) → is_deleted (cond deleted F8 Fb) ≡ deleted
    by true = refl
    by false = refl

-- two bytes with the same flags ask a chip for the same side and the same length codes
same_sides : (chip : Chip) (b b' : ℕ) → bit_of b' 1 ≡ bit_of b 1 → bit_of b' 3 ≡ bit_of b 3 → side_asked chip b' ≡ side_asked chip b
unfolding side_asked side_of
same_sides Wd1793 b b' one three = λ i. cond (one i) (Some (cond (three i) 1 0)) None
same_sides Wd1797 b b' one three = λ i. Some (cond (one i) 1 0)

same_lengths : (chip : Chip) (b b' : ℕ) → bit_of b' 3 ≡ bit_of b 3 → ibm_lengths chip b' ≡ ibm_lengths chip b
unfolding ibm_lengths
same_lengths Wd1793 b b' three = refl
same_lengths Wd1797 b b' three = three

module _ (t : WriteThenRead) (p : ℕ) (a : ReadBackAsked t p) where
  abbrev s : Session
  s = session_of t

  is_write : decoded_of t.write.machine.chip t.write.byte ≡ Some WriteSector
  is_write = decodes_write t.write.machine.chip t.write.byte a.writes

  is_read : decoded_of t.read.machine.chip t.read.byte ≡ Some ReadSector
  is_read = decodes_read t.read.machine.chip t.read.byte a.reads

  ends : EndsAt s.writer (begun s) s.written
  ends = write_ends t WriteSector is_write (λ e. never (cc))

  -- ---- the write's status

  after_valid : Valid t.writing.after.machine
  after_valid = made_valid t.writing.last (use_valid t.writing.calls (since_valid t.write))

  after_type : t.writing.after.machine.flags.type1 ≡ false
  unfolding class_of
  after_type =
      ap (λ (d : Desk). d.machine.flags.type1) (sym (wrote_is t WriteSector is_write (λ e. never (cc))))
      ∙ (kind_later s.writer (begun s) s.written (writer_alone t s.written)).1
      ∙ ap (λ (f : Flags). f.type1) (given_flags (write_scene s) WriteSector is_write refl (taken t.write))

  no_error : NoError (wrote s).flags
  no_error =
      subst (λ (d : Desk). NoError d.machine.flags) (sym (wrote_is t WriteSector is_write (λ e. never (cc))))
      (record {
        protected =
            showed t.writing.after protected_bit _ false (λ l. status_protected _ l after_valid after_type) a.no_error.unprotected;
        missing = showed t.writing.after not_found_bit _ false (λ l. status_four _ l after_valid) a.no_error.found;
        crc = showed t.writing.after crc_error_bit _ false (λ l. status_crc _ l after_valid) a.no_error.crc;
        lost =
            showed t.writing.after lost_data_bit _ false (λ l. status_lost _ l after_valid after_type) a.no_error.not_late;
      })

  -- ---- the two commands

  -- the chip is the same
  same_chip : (asked s).machine.chip ≡ t.write.machine.chip
  same_chip = (asked_fixed s).chip

  commands : Commands s
  unfolding is_multiple settles_first
  commands =
      record {
        dr = a.dr;
        writes = is_write;
        single = a.writes.single;
        accepted = taken t.write;
        ready = a.ready;
        ends = ends;
        fine = no_error;
        next = writer_alone t (suc s.waited);
        reads = ap (λ (d : Desk). decoded_of d.machine.chip t.read.byte) (asked_is t) ∙ is_read;
        same_tr = ap (λ (d : Desk). d.machine.regs.tr) (asked_is t) ∙ a.same_tr;
        same_sr = ap (λ (d : Desk). d.machine.regs.sr) (asked_is t) ∙ a.same_sr;
        same_m = a.same_flags 4 (omega arith) (omega arith);
        same_e = a.same_flags 2 (omega arith) (omega arith);
        same_side =
            ap (λ (chip : Chip). side_asked chip t.read.byte) same_chip
            ∙ same_sides _ _ _ (a.same_flags 1 (omega arith) (omega arith)) (a.same_flags 3 (omega arith) (omega arith));
        same_lengths =
            ap (λ (chip : Chip). ibm_lengths chip t.read.byte) same_chip
            ∙ same_lengths _ _ _ (a.same_flags 3 (omega arith) (omega arith));
        accepted_then =
            ap (λ (d : Desk). (load_register d.machine t.read.lines 0 t.read.byte).outcome) (asked_is t) ∙ taken t.read;
        ready_then = a.ready_then;
        alone = reader_alone t s.read;
        ends_then = read_ends t ReadSector is_read (λ e. never (cc));
      }

  premises : ReadBackPremises s p
  premises = record { commands = commands; just_one = a.just_one; no_mark = a.no_mark }

  read_back : ReadsBack s p
  read_back = exact.demand_2 s p premises

  -- ---- the read's status

  read_valid : Valid t.reading.after.machine
  read_valid = made_valid t.reading.last (use_valid t.reading.calls (since_valid t.read))

  -- what holds of the machine that has read holds after the last call
  carried : (P : Machine → Type 0) → P (got s) → P t.reading.after.machine
  carried P = subst (λ (d : Desk). P d.machine) (got_is t ReadSector is_read (λ e. never (cc)))

  read_type : t.reading.after.machine.flags.type1 ≡ false
  read_type = carried (λ m. m.flags.type1 ≡ false) read_back.type2

  found_good : FoundGood t.reading.after (bit_of t.write.byte 0)
  found_good =
      record {
        unprotected =
            shows t.reading.after protected_bit false
            (λ l. status_protected _ l read_valid read_type ∙ carried (λ m. m.flags.protected ≡ false) read_back.protected);
        found =
            shows t.reading.after not_found_bit false
            (λ l. status_four _ l read_valid ∙ carried (λ m. m.flags.missing ≡ false) read_back.missing);
        crc =
            shows t.reading.after crc_error_bit false
            (λ l. status_crc _ l read_valid ∙ carried (λ m. m.flags.crc ≡ false) read_back.crc);
        mark =
            shows t.reading.after deleted_bit (bit_of t.write.byte 0)
            (λ l.
            status_deleted _ l read_valid read_type
            ∙ carried (λ m. m.flags.deleted ≡ bit_of t.write.byte 0) (read_back.deleted ∙ mark_bit t.write.byte));
      }

  -- ---- the bytes that the host sees

  module _ (served : Serves t) where
    writes_served : WriterServes s
    writes_served =
        subst (λ (d : Desk). ServesEach loads_dr reads_dr s.writer d s.written) (begun_is t)
        (course_serves true t.writing (waits t) served.write served.write_last)

    seen_bytes : BytesSeen s p
    seen_bytes =
        bytes_seen s p premises writes_served
        (subst (λ (d : Desk). ServesEach reads_dr loads_dr s.reader d s.read) (resumed_is t)
        (course_serves false t.reading silent served.read served.read_last))

    loaded_is : given_in s.writer s.written ≡ bytes_loaded t.writing.calls
    loaded_is = course_loaded t.writing (waits t)

    same_bytes : bytes_read t.reading.calls ≡ bytes_loaded t.writing.calls
    same_bytes =
        sym (course_read t.reading silent)
        ∙ ap (λ (d : Desk). returned_in s.reader d s.read) (resumed_is t)
        ∙ seen_bytes.same
        ∙ loaded_is

    all_bytes : bytes_loaded t.writing.calls ≡ bytes_taken t
    all_bytes = sym loaded_is ∙ given_taken s commands writes_served

    none_lost : Shows t.reading.after lost_data_bit false
    none_lost =
        shows t.reading.after lost_data_bit false
        (λ l. status_lost _ l read_valid read_type ∙ carried (λ m. m.flags.lost ≡ false) seen_bytes.no_lost)

  reads : ReadBack t p
  reads =
      record {
        same = read_back;
        many = read_back.many ∙ length_bytes _ _ _;
        good = found_good;
        seen = same_bytes;
        all_seen = all_bytes;
        none_lost = none_lost;
      }

-- what a power-on that is done gives
powered_on : (size : ℕ) (mfm : Bool) (chip : Chip) (r : Called)
    → PowerOnCall size mfm chip r → r.outcome ≡ done → PoweredOn size mfm chip r.machine
unfolding power_on fresh_machine
powered_on size mfm chip r call accepted =
    subst (λ (q : Called). q.outcome ≡ done → PoweredOn size mfm chip q.machine) (sym call.told)
    (by_cond (λ (q : Called). q.outcome ≡ done → PoweredOn size mfm chip q.machine) (length_within size)
    (λ fits e.
    record {
      ring = refl;
      density = refl;
      chip_named = refl;
      side_output = refl;
      regs = refl;
      head = refl;
      idle = refl;
      ready = refl;
      wires = refl;
      type1 = refl;
    })
    (λ out e. absurd (refused-done _ e)))
    accepted

-- "Exact"
pub demand_2 : Demand2
demand_2 =
    record {
      starts = powered_on;
      exactly = λ d e u. (use_defined u, use_answered u);
      every_use = λ d e u. every_use u;
      requests = record {
        side_output = side_output;
        multiple = multiple_read;
        broken_over = λ c e u asked. over_at_broken c u asked;
        shown_marks = λ c course multiple reads. read_shows_mark c course reads;
      };
      reads_back = reads;
    }

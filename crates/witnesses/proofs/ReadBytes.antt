-- What demand 2 says of a planned session: the bytes that the write took are read back, and these are the bytes that its host
-- loads and reads. Assumes nothing.
use mathlib.Core.Path.{◌≡◌, sym, ap, ◌∙◌, subst}
use mathlib.Core.Bool.{Bool, true, false, not}
use mathlib.Core.List.{List}
use Prim.Native.Nat.{ℕ, suc, ◌+◌}
use native.Mathlib.Omega.{arith}
use lib.ListN.{length}
use Rattle.scan.specs.DataMarks.{is_deleted}
use Rattle.command.specs.Bits.{mark_written}
use Rattle.registers.specs.declared.Lines.{Lines}
use Rattle.registers.specs.Status.{bit_for}
use Rattle.wd.specs.Reads.{status_of, read_register}
use Rattle.hosts.specs.Hosts.{at}
use Rattle.hosts.specs.Bytes.{deed_at, collected, taken, handed}
use Rattle.exact.specs.Demand2.{Session, wrote, resumed, got, InPlace, ReadsBack}
use Rattle.exact.proofs.Demand2.{demand_2}
use Rattle.served.specs.Served.{given_in, returned_in, BytesSeen}
use Rattle.served.proofs.WriterBytes.{given_taken}
use Rattle.served.proofs.Served.{bytes_seen}
use Rattle.witnesses.proofs.Walks.{step_from}
use Rattle.witnesses.proofs.Plans.{Plan, writer, begun_by, Summary, summary, Computed}
use Rattle.witnesses.proofs.Planned.{ended, session, asked, writer_serves, reader_serves}

-- The Read Sector hands over these bytes, each in its byte time and over its cell. It and the write end with INTRQ, and of the
-- flags bit 5 alone may be on, for the mark.
pub record HandsOver (s : Session) (bytes : List ℕ) (deleted : Bool) : Type 0 where
  pub bytes_are : handed s.reader (resumed s) s.read ≡ bytes
  pub each : (w : ℕ) × (r : ℕ) × InPlace s (length bytes) w r
  pub raised : (wrote s).wires.intrq ≡ true
  pub raised_then : (got s).wires.intrq ≡ true
  pub flags :
      (got s).flags
      ≡ record { type1 = false; protected = false; deleted = deleted; missing = false; crc = false; lost = false }
  pub status :
      (l : Lines)
      → (status_of (got s) l).byte ≡ bit_for (not l.ready) 0x80 + bit_for deleted 0x20 + bit_for (got s).wires.drq 0x02

-- As the host sees it: it loads these bytes into DR, its reads of DR return them, and the status byte that it reads then.
pub record HostSees (s : Session) (bytes : List ℕ) (deleted : Bool) : Type 0 where
  pub loaded_are : given_in s.writer s.written ≡ bytes
  pub read_are : returned_in s.reader (resumed s) s.read ≡ bytes
  pub status : (l : Lines) → (read_register (got s) l 0).byte ≡ bit_for (not l.ready) 0x80 + bit_for deleted 0x20

module _ (x : Plan) (c : Computed x) where
  abbrev s : Session
  s = session x c

  read_back : ReadsBack s x.p
  read_back = demand_2 s x.p (asked x c)

  seen : BytesSeen s x.p
  seen = bytes_seen s x.p (asked x c) (writer_serves x c) (reader_serves x c)

  took : taken (writer x) (begun_by x) (suc x.last) ≡ x.bytes
  unfolding summary step_from at collected deed_at
  took = ap (λ (e : Summary). e.took) (ended x c)

  pub reads_planned : HandsOver s x.bytes (is_deleted (mark_written x.byte))
  unfolding bit_for
  reads_planned =
      record {
        bytes_are = read_back.same ∙ took;
        each =
            let (w, r, place) = read_back.each in
            (w, r, subst (λ (size : ℕ). InPlace s size w r) (sym read_back.many ∙ ap length took) place);
        raised = read_back.raised;
        raised_then = read_back.raised_then;
        flags = λ i. record {
          type1 = read_back.type2 i;
          protected = read_back.protected i;
          deleted = read_back.deleted i;
          missing = read_back.missing i;
          crc = read_back.crc i;
          lost = seen.no_lost i;
        };
        status = λ l. read_back.status l ∙ rw seen.no_lost (omega arith);
      }

  loads_planned : given_in s.writer s.written ≡ x.bytes
  loads_planned = given_taken s (asked x c).commands (writer_serves x c) ∙ took

  pub sees_planned : HostSees s x.bytes (is_deleted (mark_written x.byte))
  sees_planned =
      record { loaded_are = loads_planned; read_are = seen.same ∙ loads_planned; status = seen.status }

-- Demand 2 as a host sees it: the bytes that it loads are the bytes that it reads. Assumes nothing.
use mathlib.Core.Path.{◌≡◌, sym, ap, ◌∙◌}
use mathlib.Core.Bool.{false, not}
use Prim.Native.Nat.{ℕ, ◌+◌}
use native.Mathlib.Omega.{arith}
use lib.ListN.{length}
use Rattle.scan.specs.DataMarks.{is_deleted}
use Rattle.command.specs.Bits.{mark_written}
use Rattle.registers.specs.declared.Lines.{Lines}
use Rattle.registers.specs.Registers.{read_refusal, read_byte}
use Rattle.registers.specs.Status.{bit_for}
use Rattle.wd.specs.declared.Machine.{Machine}
use Rattle.wd.specs.Reads.{status_of, read_register}
use Rattle.reachable.proofs.Valid.{Valid}
use Rattle.hosts.proofs.Lengths.{length_bytes}
use Rattle.hosts.proofs.Views.{stays_valid}
use Rattle.hosts.proofs.ReadThrough.{Meets}
use Rattle.exact.specs.Demand2.{Session, read_scene, resumed, got, ReadBackPremises, FewerPremises, ReadsBack}
use Rattle.exact.proofs.ReadSession as read
use Rattle.exact.proofs.Demand2.{fewer, reads_back}
use Rattle.served.specs.Served.{ReaderServes, WriterServes, BytesSeen}
use Rattle.served.proofs.WriterBytes.{given_taken}
use Rattle.served.proofs.ReaderBytes.{reader_valid, returned_handed, none_lost, none_left}

-- a read of the status
read_status : (m : Machine) (l : Lines) → Valid m → (read_register m l 0).byte ≡ (status_of m l).byte
unfolding read_register read_refusal read_byte
read_status m l v = simp v

module _ (s : Session) (p : ℕ) (a : FewerPremises s p) (writes : WriterServes s) (reads : ReaderServes s) where
  abbrev meets : Meets (read_scene s) s.read
  meets = read.meets s p a

  back : ReadsBack s p
  back = reads_back s p a

  lost : (got s).flags.lost ≡ false
  lost = none_lost meets reads

  drq : (got s).wires.drq ≡ false
  drq = none_left meets reads

  status :
      (l : Lines)
      → (read_register (got s) l 0).byte
      ≡ bit_for (not l.ready) 0x80 + bit_for (is_deleted (mark_written s.byte)) 0x20
  unfolding bit_for
  status l =
      read_status (got s) l (stays_valid s.reader (resumed s) (reader_valid meets) s.read)
      ∙ back.status l
      ∙ simp (lost, drq) (omega arith)

  -- where just one ID is such that the command goes by it
  pub sees_bytes : BytesSeen s p
  sees_bytes =
      record {
        same = returned_handed meets reads ∙ back.same ∙ sym (given_taken s a.commands writes);
        many = ap length (given_taken s a.commands writes) ∙ back.many ∙ length_bytes _ _ _;
        no_lost = lost;
        no_drq = drq;
        status = status;
      }

-- Of a Write Sector and a Read Sector as demand 2 has them, under a host that serves each DRQ before the next byte time: the
-- bytes that it loads into DR are those that its reads of DR return, in their order, and none is lost.
pub bytes_seen : (s : Session) (p : ℕ) → ReadBackPremises s p → WriterServes s → ReaderServes s → BytesSeen s p
bytes_seen s p asked = sees_bytes s p (fewer s p asked)

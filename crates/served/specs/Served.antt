-- Demand 2 as a host sees it: what it loads into DR for the Write Sector and what it reads from DR in the Read Sector, where it
-- serves each DRQ before the next byte time. Nothing here speaks of what a byte time does inside. Assumes nothing.
use Rattle.std.specs.Prelude.{◌≡◌, Bool, true, false, cond, not, List, [], ◌∷◌, ◌++◌, ℕ, zero, suc, ◌+◌, ◌<◌, eqb, length}
use Rattle.scan.specs.Streams.{id_from}
use Rattle.scan.specs.DataMarks.{is_deleted}
use Rattle.command.specs.Bits.{mark_written}
use Rattle.registers.specs.declared.Lines.{Lines}
use Rattle.registers.specs.Status.{bit_for}
use Rattle.fields.specs.Rings.{cells_of}
use Rattle.wd.specs.declared.Machine.{Machine}
use Rattle.wd.specs.Reads.{read_register}
use Rattle.hosts.specs.Scenes.{field_bytes}
use Rattle.hosts.specs.Hosts.{Call, loads, reads, called_of, Host, Desk, served_at, at}
use Rattle.exact.specs.Demand2.{Session, begun, resumed, got}

-- ---- the bytes

-- "Writes 0 to 3: command, TR, SR, DR.": the bytes that a list of calls loads into DR, in their order
unfoldable pub given : List Call → List ℕ
given [] = []
given (loads l number b byte ∷ cs) = cond (eqb number 3) (b ∷ given cs) (given cs)
given (reads l number ∷ cs) = given cs

-- before the first n byte times
unfoldable pub given_in : Host → ℕ → List ℕ
given_in h zero = []
given_in h (suc n) = given_in h n ++ given (h.calls n)

-- "Reads 0 to 3: status, TR, SR, DR.": the bytes that the reads of DR return, of calls made one after another from a machine
unfoldable pub returned : Machine → List Call → List ℕ
returned m [] = []
returned m (loads l number b byte ∷ cs) = returned (called_of m (loads l number b byte)) cs
returned m (reads l number ∷ cs) =
    let rest = returned (called_of m (reads l number)) cs in
    cond (eqb number 3) ((read_register m l number).byte ∷ rest) rest

-- before the first n byte times
unfoldable pub returned_in : Host → Desk → ℕ → List ℕ
returned_in h d zero = []
returned_in h d (suc n) = returned_in h d n ++ returned (at h d n).machine (h.calls n)

-- ---- the host

-- the calls on DR
unfoldable pub loads_dr : Call → Bool
loads_dr (loads l number b byte) = eqb number 3
loads_dr (reads l number) = false

unfoldable pub reads_dr : Call → Bool
reads_dr (loads l number b byte) = false
reads_dr (reads l number) = eqb number 3

-- Of calls made one after another from a machine, each on DR is of one kind, and made with DRQ on: then "the DR contains
-- assembled data in Read operations, or the DR is empty in Write operations".
pub data OnDrq (kind other : Call → Bool) : Machine → List Call → Type 0 where
  none : {m : Machine} → OnDrq kind other m []
  more : {m : Machine} {c : Call} {cs : List Call}
      → (kind c ≡ true → m.wires.drq ≡ true)
      → other c ≡ false
      → OnDrq kind other (called_of m c) cs
      → OnDrq kind other m (c ∷ cs)

-- A host that serves each DRQ before the next of the first n byte times, through such calls: Lost Data "indicates the computer
-- did not respond to DRQ in one byte time".
pub record ServesEach (kind other : Call → Bool) (h : Host) (d : Desk) (n : ℕ) : Type 0 where
  -- no byte time begins with DRQ on
  pub off : (k : ℕ) → k < n → (served_at h k (at h d k)).machine.wires.drq ≡ false
  pub on : (k : ℕ) → k < n → OnDrq kind other (at h d k).machine (h.calls k)

-- "serviced by the computer through reading or loading the DR in Read or Write operations, respectively"
abbrev pub ReaderServes : Session → Type 0
ReaderServes s = ServesEach reads_dr loads_dr s.reader (resumed s) s.read

abbrev pub WriterServes : Session → Type 0
WriterServes s = ServesEach loads_dr reads_dr s.writer (begun s) s.written

-- ---- conclusion

pub record BytesSeen (s : Session) (p : ℕ) : Type 0 where
  -- "reads back the same": the bytes that the reads of DR returned are those that were loaded into DR, in their order
  pub same : returned_in s.reader (resumed s) s.read ≡ given_in s.writer s.written
  -- as many as the ID's length says
  pub many :
      length (given_in s.writer s.written)
      ≡ field_bytes s.machine.chip s.byte (id_from s.machine.mfm (cells_of s.track) p).length
  -- no Lost Data, and no byte that waits to be read
  pub no_lost : (got s).flags.lost ≡ false
  pub no_drq : (got s).wires.drq ≡ false
  -- so the status byte, read under any lines, has no bits but Not Ready and the mark
  pub status :
      (l : Lines)
      → (read_register (got s) l 0).byte
      ≡ bit_for (not l.ready) 0x80
      + bit_for (is_deleted (mark_written s.byte)) 0x20

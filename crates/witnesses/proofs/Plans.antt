-- A session of demand 2 by its numbers, and what computes of it. Assumes nothing.
use mathlib.Core.Path.{◌≡◌}
use mathlib.Core.Bool.{Bool, true, false, cond, ◌&&◌, ◌||◌}
use mathlib.Core.List.{List, [], ◌∷◌}
use Prim.Native.Nat.{ℕ, suc, ◌+◌, ◌%◌, ◌<◌}
use native.Mathlib.Nat.{mod-lt}
use native.Mathlib.Omega.{arith}
use lib.Dec.{ltb, leb, eqb}
use lib.ListN.{length}
use Rattle.scan.specs.Streams.{MarkAt, id_from}
use Rattle.command.specs.Bits.{is_multiple, settles_first, side_asked, ibm_lengths}
use Rattle.command.specs.declared.Chip.{Chip}
use Rattle.command.specs.Commands.{decoded_of}
use Rattle.command.specs.declared.Command.TheVariants.{ReadSector, WriteSector}
use Rattle.std.specs.Prelude.{Some}
use Rattle.activity.specs.Limits.{busy_in}
use Rattle.fields.specs.Rings.{cells_of}
use Rattle.wd.specs.declared.Machine.{Machine}
use Rattle.wd.specs.Loads.{load_register}
use Rattle.reachable.proofs.Samples.{sample_length, on}
use Rattle.hosts.specs.Hosts.{loads, Host, Desk, served_at, at}
use Rattle.hosts.specs.Scenes.{Scene}
use Rattle.hosts.proofs.LowRows.{all_low}
use Rattle.in_time.proofs.Scenes.{scene_by}
use Rattle.served.specs.Served.{loads_dr, reads_dr}
use Rattle.witnesses.proofs.Walks.{Walk, step_from, walked}
use Rattle.witnesses.proofs.ServesAll.{serves_from}
use Rattle.refusals.specs.Numbers.{Outcome, done}

-- a machine, its Write Sector and its Read Sector, the track with its ID from cell p on, the byte time before which the first
-- of 128 bytes is loaded and that in which the first data cell passes, the last byte time in which the write is Busy, and the
-- bytes that it takes
pub record Plan : Type 0 where
  pub machine : Machine
  pub byte : ℕ
  pub byte_then : ℕ
  pub track : List ℕ
  pub p : ℕ
  pub first : ℕ
  pub cell : ℕ
  pub last : ℕ
  pub bytes : List ℕ

-- DRQ is on before byte time n: for the first byte, and after each data cell but the last
abbrev pub asks_at : Plan → ℕ → Bool
asks_at x n = eqb n x.first || (ltb x.cell n && ltb n (x.cell + 128))

-- the byte that is loaded then: the number of the byte time whose cell takes it, modulo 256
abbrev pub byte_at : Plan → ℕ → ℕ
byte_at x n = cond (ltb n x.cell) x.cell n % 256

pub byte_low : (x : Plan) (n : ℕ) → byte_at x n < 256
byte_low x n = mod-lt (cond (ltb n x.cell) x.cell n) (omega arith)

-- it loads DR where DRQ is on
abbrev pub writer : Plan → Host
writer x = record { calls = λ n. cond (asks_at x n) (loads on 3 (byte_at x n) (byte_low x n) ∷ []) []; lines = λ n. on }

-- after the acceptance of the Write Sector, and what the Read Sector finds
abbrev pub begun_by : Plan → Desk
begun_by x = record { machine = (load_register x.machine on 0 x.byte).machine; row = x.track }

abbrev pub left_by : Plan → Desk
left_by x = served_at (writer x) (suc x.last) (at (writer x) (begun_by x) (suc x.last))

-- the Read Sector as demand 3 speaks of it
abbrev pub again : Plan → Scene
again x = scene_by x.byte_then (left_by x).machine (left_by x).row

-- the flagged cells of a row that begins at place k stand from p on, at most so many
unfoldable pub flagged_in : (p many k : ℕ) → List ℕ → Bool
flagged_in p many k [] = true
flagged_in p many k (cell ∷ cells) = (ltb cell 256 || (leb p k && ltb k (p + many))) && flagged_in p many (suc k) cells

-- in FM the mark, in MFM its A1s
unfoldable pub flags_of : Bool → ℕ
flags_of mfm = cond mfm 3 1

-- what is asked of the machine and the row as the write ends: Busy before its last byte time and after it, the error bits, TR
-- and SR, how the Read Sector's load goes, a row of the ring's length with low cells, and the bytes taken
pub record Summary : Type 0 where
  pub goes : Bool
  pub busy : Bool
  pub protected : Bool
  pub missing : Bool
  pub crc : Bool
  pub lost : Bool
  pub chip : Chip
  pub tr : ℕ
  pub sr : ℕ
  pub outcome : Outcome
  pub whole : Bool
  pub cells : Bool
  pub took : List ℕ

unfoldable pub summary : Plan → Walk → Summary
summary x w =
    let over = step_from (writer x) x.last w in
    let found = served_at (writer x) (suc x.last) over.desk in
    record {
      goes = busy_in w.desk.machine.activity;
      busy = busy_in over.desk.machine.activity;
      protected = over.desk.machine.flags.protected;
      missing = over.desk.machine.flags.missing;
      crc = over.desk.machine.flags.crc;
      lost = over.desk.machine.flags.lost;
      chip = found.machine.chip;
      tr = found.machine.regs.tr;
      sr = found.machine.regs.sr;
      outcome = (load_register found.machine on 0 x.byte_then).outcome;
      whole = eqb (length found.row) found.machine.ring.length;
      cells = all_low found.row;
      took = over.took;
    }

-- what it is to be
abbrev pub planned : Plan → Summary
planned x =
    record {
      goes = true;
      busy = false;
      protected = false;
      missing = false;
      crc = false;
      lost = false;
      chip = x.machine.chip;
      tr = x.machine.regs.tr;
      sr = x.machine.regs.sr;
      outcome = done;
      whole = true;
      cells = true;
      took = x.bytes;
    }

-- what computes
pub record Computed (x : Plan) : Type 0 where
  pub dr : ltb x.machine.regs.dr 256 ≡ true
  pub writes : decoded_of x.machine.chip x.byte ≡ Some WriteSector
  pub single : is_multiple x.byte ≡ false
  pub accepted : (load_register x.machine on 0 x.byte).outcome ≡ done
  pub ended : summary x (walked (writer x) (begun_by x) x.last) ≡ planned x
  pub serves : serves_from loads_dr reads_dr (writer x) (suc x.last) 0 (begun_by x) ≡ true
  pub reads : decoded_of x.machine.chip x.byte_then ≡ Some ReadSector
  pub same_m : is_multiple x.byte_then ≡ is_multiple x.byte
  pub same_e : settles_first x.byte_then ≡ settles_first x.byte
  pub same_side : side_asked x.machine.chip x.byte_then ≡ side_asked x.machine.chip x.byte
  pub same_lengths : ibm_lengths x.machine.chip x.byte_then ≡ ibm_lengths x.machine.chip x.byte
  pub wide : length x.track ≡ sample_length
  pub short : leb x.p 2000 ≡ true
  pub flags : flagged_in x.p (flags_of x.machine.mfm) 0 x.track ≡ true
  pub mark : MarkAt x.machine.mfm (cells_of x.track) x.p 0xFE
  pub of_track : (id_from x.machine.mfm (cells_of x.track) x.p).track ≡ x.machine.regs.tr
  pub of_sector : (id_from x.machine.mfm (cells_of x.track) x.p).sector ≡ x.machine.regs.sr

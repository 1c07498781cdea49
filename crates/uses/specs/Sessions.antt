-- A Write Sector and the Read Sector after it, as the contracts of their calls tell. Assumes nothing.
use Rattle.std.specs.Prelude.{◌≡◌, Bool, true, false, not, cond, ◌&&◌, ◌||◌, List, [], ◌∷◌, ◌++◌, ℕ, ◌+◌, eqb}
use Rattle.scan.specs.Streams.{id_from}
use Rattle.fields.specs.Rings.{cells_of}
use Rattle.hosts.specs.Hosts.{Desk}
use Rattle.hosts.specs.Bytes.{taken}
use Rattle.exact.specs.Demand2.{Session, begun}
use Rattle.uses.specs.Uses.{Made, load, read, byte_time_call, run, Use, over, next, throughout, no_command, passed, host_of}
use Rattle.uses.specs.Courses.{Accepted, Course, took, silent, course_then}

-- "the next command": after the write has ended, any calls but accepted commands, and then the read, over the same row
pub record WriteThenRead : Type 0 where
  pub write : Accepted
  pub writing : Course write
  pub found : Desk
  pub between : Use writing.after found
  pub alone : throughout no_command between ≡ true
  pub read : Accepted
  pub same_machine : read.machine ≡ found.machine
  pub same_row : read.row ≡ found.row
  pub reading : Course read

-- the same as a session of `exact`, whose hosts make these calls
abbrev pub session_of : WriteThenRead → Session
session_of t =
    record {
      machine = t.write.machine;
      lines = t.write.lines;
      byte = t.write.byte;
      track = t.write.row;
      writer = course_then t.writing (host_of t.between silent);
      written = took t.writing;
      waited = took t.writing + passed t.between;
      lines_then = t.read.lines;
      byte_then = t.read.byte;
      reader = course_then t.reading silent;
      read = took t.reading;
    }

-- the bytes that the write took, one for each data cell
abbrev pub bytes_taken : WriteThenRead → List ℕ
bytes_taken t = taken (session_of t).writer (begun (session_of t)) (session_of t).written

-- the length code of the ID that stands from cell p on
abbrev pub length_code : WriteThenRead → ℕ → ℕ
length_code t p = (id_from t.write.machine.mfm (cells_of t.write.row) p).length

-- ---- the bytes that a host sees

-- the bytes given to `load_register(3)`, in their order
unfoldable pub loaded_by : {d e : Desk} → Made d e → List ℕ
loaded_by (load l number b byte r told) = cond (eqb number 3) (b ∷ []) []
loaded_by (read l number r told) = []
loaded_by (byte_time_call l r row told) = []
loaded_by (run l limit r row told) = []

unfoldable pub bytes_loaded : {d e : Desk} → Use d e → List ℕ
bytes_loaded over = []
bytes_loaded (next made rest) = loaded_by made ++ bytes_loaded rest

-- the bytes returned by `read_register(3)`, in their order
unfoldable pub read_by : {d e : Desk} → Made d e → List ℕ
read_by (load l number b byte r told) = []
read_by (read l number r told) = cond (eqb number 3) (r.byte ∷ []) []
read_by (byte_time_call l r row told) = []
read_by (run l limit r row told) = []

unfoldable pub bytes_read : {d e : Desk} → Use d e → List ℕ
bytes_read over = []
bytes_read (next made rest) = read_by made ++ bytes_read rest

-- "serves each DRQ before the next byte time": no byte time begins with DRQ on; a host that writes loads DR only with DRQ on and
-- does not read it, and a host that reads, reads DR only with DRQ on and does not load it. A call on DR without DRQ serves none.
unfoldable pub serves : Bool → (d e : Desk) → Made d e → Bool
serves writing d e (load l number b byte r told) = not (eqb number 3) || (writing && d.machine.wires.drq)
serves writing d e (read l number r told) = not (eqb number 3) || (not writing && d.machine.wires.drq)
serves writing d e (byte_time_call l r row told) = not d.machine.wires.drq
serves writing d e (run l limit r row told) = not d.machine.wires.drq

-- both commands' calls do
pub record Serves (t : WriteThenRead) : Type 0 where
  pub write : throughout (serves true) t.writing.calls ≡ true
  pub write_last : serves true t.writing.before t.writing.after t.writing.last ≡ true
  pub read : throughout (serves false) t.reading.calls ≡ true
  pub read_last : serves false t.reading.before t.reading.after t.reading.last ≡ true

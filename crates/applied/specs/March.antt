-- The accident of March again, with hosts that take no byte and hosts that take each. Assumes nothing.
use Rattle.std.specs.Prelude.{◌≡◌, Bool, true, false, not, ◌⊎◌, ℕ, suc, ◌<◌, eqb}
use Rattle.hosts.specs.Hosts.{Desk, at}
use Rattle.lost_data.specs.LostData.{ZeroWritten, Terminated, PutOver}
use Rattle.uses.specs.Uses.{Made, load, read, byte_time_call, run, Use, throughout, no_command, passed}
use Rattle.uses.specs.Courses.{lost_data_bit, Shows, Accepted, since, Course, took, silent, course_then, ReadByte, WriteByte}
use Rattle.uses.specs.Sessions.{WriteThenRead, Serves}
use Rattle.demands.specs.Demands.{ReadBackAsked}

-- a call that neither reads nor loads DR
unfoldable pub leaves_dr : (d e : Desk) → Made d e → Bool
leaves_dr d e (load l number b byte r told) = not (eqb number 3)
leaves_dr d e (read l number r told) = not (eqb number 3)
leaves_dr d e (byte_time_call l r row told) = true
leaves_dr d e (run l limit r row told) = true

-- a host that takes no byte of the sector that it reads
pub record Unread (t : WriteThenRead) : Type 0 where
  pub calls : throughout leaves_dr t.reading.calls ≡ true
  pub last : leaves_dr t.reading.before t.reading.after t.reading.last ≡ true

pub record MarchAgain : Type 0 where
  -- "never raised Lost Data": here it is on
  pub unread : (t : WriteThenRead) (p : ℕ) → ReadBackAsked t p → Unread t → Shows t.reading.after lost_data_bit true
  -- "wrote the next over it": not where the host takes each
  pub served : (t : WriteThenRead) (p : ℕ)
      → ReadBackAsked t p
      → Serves t
      → (k : ℕ)
      → k < took t.reading
      → PutOver (course_then t.reading silent) (since t.read) k
      → ⊥
  -- in every machine, with a host that makes no calls: a byte put over another raises it
  pub idle_host : (d : Desk) (k : ℕ) → PutOver silent d k → (at silent d (suc k)).machine.flags.lost ≡ true
  -- a write that ends without Lost Data lacked no byte
  pub written : (c : Accepted) (course : Course c)
      → WriteByte c.machine.chip c.byte
      → Shows course.after lost_data_bit false
      → (k : ℕ)
      → k < took course
      → ZeroWritten (course_then course silent) (since c) k ⊎ Terminated (course_then course silent) (since c) k
      → ⊥
  -- and "an accepted command .. clears .. Lost Data": it is off up to the first byte time
  pub cleared : (c : Accepted) (e : Desk) (u : Use (since c) e)
      → ReadByte c.machine.chip c.byte ⊎ WriteByte c.machine.chip c.byte
      → throughout no_command u ≡ true
      → passed u ≡ 0
      → Shows e lost_data_bit false

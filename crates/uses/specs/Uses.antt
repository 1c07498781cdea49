-- A use: calls of any kind, one after another, over one row; and the host that it is. Assumes nothing.
use Rattle.std.specs.Prelude.{◌≡◌, Bool, true, cond, not, ◌&&◌, List, [], ◌∷◌, ℕ, zero, suc, ◌+◌, ◌<◌, eqb, is_ok}
use Rattle.registers.specs.declared.Lines.{Lines}
use Rattle.wd.specs.declared.Called.{Called}
use Rattle.wd.specs.declared.Read.{Read}
use Rattle.wd.specs.declared.Passed.{Passed}
use Rattle.wd.specs.declared.Ran.{Ran}
use Rattle.wd.specs.Reads.{read_register}
use Rattle.wd.specs.Loads.{load_register}
use Rattle.wd.specs.Rows.{byte_time, byte_time_row, run_of, run_row}
use Rattle.hosts.specs.Hosts.{Call, loads, reads, Host, Desk, served_at, at}
use Rattle.uses.specs.CallContracts.{LoadCall, ReadCall, ByteTimeCall, RunCall}

-- ---- the calls

-- one call that has been made, with any arguments, as its contract tells: refused or not, it leads from one desk to another
pub data Made (d : Desk) : Desk → Type 0 where
  load : (l : Lines) (number b : ℕ) → b < 256 → (r : Called)
      → LoadCall d.machine l number b r
      → Made d (record { machine = r.machine; row = d.row })
  read : (l : Lines) (number : ℕ) (r : Read)
      → ReadCall d.machine l number r
      → Made d (record { machine = r.machine; row = d.row })
  byte_time_call : (l : Lines) (r : Passed) (row : List ℕ)
      → ByteTimeCall d.machine l d.row r row
      → Made d (record { machine = r.machine; row = row })
  run : (l : Lines) (limit : ℕ) (r : Ran) (row : List ℕ)
      → RunCall d.machine l limit d.row r row
      → Made d (record { machine = r.machine; row = row })

-- any number of them, each with the machine and the row that the one before it left
pub data Use : Desk → Desk → Type 0 where
  over : {d : Desk} → Use d d
  next : {d e f : Desk} → Made d e → Use e f → Use d f

-- each of them is such a call
unfoldable pub throughout : ((d e : Desk) → Made d e → Bool) → {d e : Desk} → Use d e → Bool
throughout such over = true
throughout such (next {d} {e} made rest) = such d e made && throughout such rest

-- "no other command accepted": it is none, or is refused
unfoldable pub no_command : (d e : Desk) → Made d e → Bool
no_command d e (load l number b byte r told) = not (eqb number 0 && is_ok r.outcome)
no_command d e (read l number r told) = true
no_command d e (byte_time_call l r row told) = true
no_command d e (run l limit r row told) = true

-- "the head-load line on": HLT, in a call that makes byte times
unfoldable pub head_loaded : (d e : Desk) → Made d e → Bool
head_loaded d e (load l number b byte r told) = true
head_loaded d e (read l number r told) = true
head_loaded d e (byte_time_call l r row told) = l.hlt
head_loaded d e (run l limit r row told) = l.hlt

-- the byte times that passed: a refused one has not, and a run reports how many have
unfoldable pub passed_in : {d e : Desk} → Made d e → ℕ
passed_in (load l number b byte r told) = 0
passed_in (read l number r told) = 0
passed_in (byte_time_call l r row told) = cond (is_ok r.outcome) 1 0
passed_in (run l limit r row told) = r.tally.passed

unfoldable pub passed : {d e : Desk} → Use d e → ℕ
passed over = 0
passed (next made rest) = passed_in made + passed rest

-- ---- what they come to

-- what the definitions under document 01's sentences give for this call, made from some desk on, and for all of them
unfoldable pub defined_by : {d e : Desk} → Desk → Made d e → Desk
defined_by f (load l number b byte r told) = record { machine = (load_register f.machine l number b).machine; row = f.row }
defined_by f (read l number r told) = record { machine = (read_register f.machine l number).machine; row = f.row }
defined_by f (byte_time_call l r row told) =
    record { machine = (byte_time f.machine l f.row).machine; row = byte_time_row f.machine l f.row }
defined_by f (run l limit r row told) =
    record { machine = (run_of f.machine l limit f.row).machine; row = run_row f.machine l limit f.row }

unfoldable pub documented : {d e : Desk} → Desk → Use d e → Desk
documented f over = f
documented f (next made rest) = documented (defined_by f made) rest

-- and the answer that they give to it: number, byte, pulse, counts
unfoldable pub answered_by : {d e : Desk} → Desk → Made d e → Type 0
answered_by f (load l number b byte r told) = r ≡ load_register f.machine l number b
answered_by f (read l number r told) = r ≡ read_register f.machine l number
answered_by f (byte_time_call l r row told) = r ≡ byte_time f.machine l f.row
answered_by f (run l limit r row told) = r ≡ run_of f.machine l limit f.row

unfoldable pub Answered : {d e : Desk} → Desk → Use d e → Type 0
Answered f over = Unit {0}
Answered f (next made rest) = answered_by f made × Answered (defined_by f made) rest

-- ---- the host that a use is

-- it makes this call, and then does what another does
unfoldable pub calls_first : Call → (ℕ → List Call) → ℕ → List Call
calls_first c calls zero = c ∷ calls zero
calls_first c calls (suc n) = calls (suc n)

unfoldable pub calls_then : Call → Host → Host
calls_then c h = record { calls = calls_first c h.calls; lines = h.lines }

-- it makes a byte time under these lines, or n of them, and then does what another does
unfoldable pub starts_with : {A : Type 0} → A → (ℕ → A) → ℕ → A
starts_with first rest zero = first
starts_with first rest (suc n) = rest n

unfoldable pub passes_then : ℕ → Lines → Host → Host
passes_then zero l h = h
passes_then (suc n) l h =
    record { calls = starts_with [] (passes_then n l h).calls; lines = starts_with l (passes_then n l h).lines }

unfoldable pub made_then : {d e : Desk} → Made d e → Host → Host
made_then (load l number b byte r told) h = calls_then (loads l number b byte) h
made_then (read l number r told) h = calls_then (reads l number) h
made_then (byte_time_call l r row told) h = passes_then (cond (is_ok r.outcome) 1 0) l h
made_then (run l limit r row told) h = passes_then r.tally.passed l h

-- a use, and then what another host does
unfoldable pub host_of : {d e : Desk} → Use d e → Host → Host
host_of over h = h
host_of (next made rest) h = made_then made (host_of rest h)

-- as its byte time k is due, the calls before it made
abbrev pub due_at : Host → Desk → ℕ → Desk
due_at h d k = served_at h k (at h d k)

-- Every use is a host: after as many byte times as passed in the use, that host is where the use has led to, with the same
-- machine and row, and goes on from there.
abbrev pub IsHost : {d e : Desk} → Use d e → Type 0
IsHost {d} {e} u = (h : Host) (k : ℕ) → due_at (host_of u h) d (passed u + k) ≡ due_at h e k

-- Every host: register calls between byte times, any lines at each of them, and byte times over one row. Assumes nothing.
use Rattle.std.specs.Prelude.{◌≡◌, Bool, true, false, ◌&&◌, List, [], ◌∷◌, ℕ, zero, suc, ◌<◌, eqb}
use Rattle.activity.specs.Limits.{busy_in}
use Rattle.registers.specs.declared.Lines.{Lines}
use Rattle.wd.specs.declared.Machine.{Machine}
use Rattle.wd.specs.Reads.{read_register}
use Rattle.wd.specs.Loads.{load_register}
use Rattle.wd.specs.Rows.{byte_time, byte_time_row}
use Rattle.std.specs.Result.{is_ok}

-- a register call, with its drive lines; a byte is below 256
pub data Call : Type 0 where
  loads : Lines → (number b : ℕ) → b < 256 → Call
  reads : Lines → (number : ℕ) → Call

-- the machine that it hands back, refused or not
unfoldable pub called_of : Machine → Call → Machine
called_of m (loads l number b byte) = (load_register m l number b).machine
called_of m (reads l number) = (read_register m l number).machine

-- it is a command, and accepted
unfoldable pub commands : Machine → Call → Bool
commands m (loads l number b byte) = eqb number 0 && is_ok (load_register m l number b).outcome
commands m (reads l number) = false

-- calls one after another
unfoldable pub called_all : Machine → List Call → Machine
called_all m [] = m
called_all m (c ∷ cs) = called_all (called_of m c) cs

-- "no other command accepted": not one of them
pub data NoneAccepted : Machine → List Call → Type 0 where
  none : {m : Machine} → NoneAccepted m []
  more : {m : Machine} {c : Call} {cs : List Call}
      → commands m c ≡ false
      → NoneAccepted (called_of m c) cs
      → NoneAccepted m (c ∷ cs)

-- What a host does from some moment on: its register calls before each byte time, the byte times numbered from 0, and the
-- lines of each byte time. One that does something for a while only is one that goes on with no calls.
pub record Host : Type 0 where
  pub calls : ℕ → List Call
  pub lines : ℕ → Lines

-- a machine and the row that is lent to its byte times
pub record Desk : Type 0 where
  pub machine : Machine
  pub row : List ℕ

-- after the calls before byte time n, and after that byte time
unfoldable pub served_at : Host → ℕ → Desk → Desk
served_at h n d = record { machine = called_all d.machine (h.calls n); row = d.row }

unfoldable pub passes_under : Lines → Desk → Desk
passes_under l d = record { machine = (byte_time d.machine l d.row).machine; row = byte_time_row d.machine l d.row }

-- as n byte times have passed, each lent the row as the one before it left it
unfoldable pub at : Host → Desk → ℕ → Desk
at h d zero = d
at h d (suc n) = passes_under (h.lines n) (served_at h n (at h d n))

-- none of its calls before the first n byte times is an accepted command: demand 2
abbrev pub AloneUntil : Host → Desk → ℕ → Type 0
AloneUntil h d n = (k : ℕ) → k < n → NoneAccepted (at h d k).machine (h.calls k)

-- Busy before byte time n, numbered from 0: what demand 3 and `Ends` ask of a host they ask while the command is under way;
-- when it is over the host does as it likes
abbrev pub BusyAt : Host → Desk → ℕ → Type 0
BusyAt h d n = busy_in (at h d n).machine.activity ≡ true

-- no command is accepted while Busy: demand 3 and `Ends`
abbrev pub Undisturbed : Host → Desk → Type 0
Undisturbed h d = (n : ℕ) → BusyAt h d n → NoneAccepted (at h d n).machine (h.calls n)

-- It ends in byte time n, counted from 1 after the acceptance: Busy up to there, and no longer. Nothing but the end of the
-- command and an accepted Force Interrupt turns Busy off, so it "ends by itself" where no other command is accepted on the
-- way; that is said beside it wherever it is asked or promised.
pub record EndsAt (h : Host) (d : Desk) (n : ℕ) : Type 0 where
  pub busy : (k : ℕ) → k < n → busy_in (at h d k).machine.activity ≡ true
  pub over : busy_in (at h d n).machine.activity ≡ false

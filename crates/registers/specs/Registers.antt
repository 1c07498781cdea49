-- Reading and loading registers, and the refusals of both; what a command does stands in `Accepting`. Assumes nothing.
use Rattle.std.specs.Prelude.{Bool, cond, not, ◌&&◌, ◌||◌, ℕ, leb, eqb}
use Rattle.registers.specs.declared.Regs.{Regs}
use Rattle.registers.specs.declared.Wires.{Wires}
use Rattle.registers.specs.declared.Status.{Status}
use Rattle.command.specs.Commands.{within}
use Rattle.refusals.specs.declared.Refusal.TheVariants.{Machine, Register, Busy}
use Rattle.refusals.specs.Numbers.{Outcome, done, refused}

-- 2, and 5: "register number above 3"
unfoldable pub read_refusal : Bool → ℕ → Outcome
read_refusal valid number = cond valid (cond (leb number 3) done (refused Register)) (refused Machine)

-- "Reads 0 to 3: status, TR, SR, DR."
unfoldable pub read_byte : Regs → Status → ℕ → ℕ
read_byte r status number =
    cond (eqb number 0) status.byte (cond (eqb number 1) r.tr (cond (eqb number 2) r.sr r.dr))

-- "Reading or loading DR turns DRQ off. Reading status .. turns INTRQ off."
unfoldable pub read_wires : Wires → ℕ → Wires
read_wires w number = record { drq = w.drq && not (eqb number 3); intrq = w.intrq && not (eqb number 0) }

-- 6: "TR, SR or any command byte outside D0-DF"
unfoldable pub guarded : ℕ → ℕ → Bool
guarded number b = eqb number 1 || eqb number 2 || (eqb number 0 && not (within 0xD0 0xDF b))

-- 2; 5: "register number above 3"; 6: ".. loaded while Busy"
unfoldable pub load_refusal : Bool → Bool → ℕ → ℕ → Outcome
load_refusal valid busy number b =
    cond valid (cond (leb number 3) (cond (busy && guarded number b) (refused Busy) done) (refused Register))
    (refused Machine)

-- "Writes 0 to 3: command, TR, SR, DR."
unfoldable pub load_regs : Regs → ℕ → ℕ → Regs
load_regs r number b =
    cond (eqb number 1) (record { tr = b; sr = r.sr; dr = r.dr })
    (cond (eqb number 2) (record { tr = r.tr; sr = b; dr = r.dr }) (record { tr = r.tr; sr = r.sr; dr = b }))

-- "Reading or loading DR turns DRQ off."
unfoldable pub load_wires : Wires → ℕ → Wires
load_wires w number = record { drq = w.drq && not (eqb number 3); intrq = w.intrq }

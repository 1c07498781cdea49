-- The bytes that go by between host and track, each in its byte time. Assumes nothing.
use Rattle.std.specs.Prelude.{◌≡◌, Bool, true, false, cond, List, [], ◌∷◌, ◌++◌, ℕ, zero, suc}
use Rattle.activity.specs.declared.Deed.{Deed}
use Rattle.activity.specs.declared.Deed.TheVariants.{Nothing, Deliver, Named, Matched, NotFound, Record, Written, Ask, Late, Take, Step, Halt}
use Rattle.registers.specs.declared.Lines.{Lines}
use Rattle.wd.specs.Turns.{does_of}
use Rattle.wd.specs.Rows.{under, byte_time}
use Rattle.hosts.specs.Hosts.{Host, Desk, served_at, at}
use Rattle.std.specs.Result.{is_ok}

-- what a byte time does that finds this desk: nothing where it is refused
unfoldable pub deed_on : Lines → Desk → Deed
deed_on l found =
    cond (is_ok (byte_time found.machine l found.row).outcome)
    (does_of found.machine l (under found.machine found.row)).deed
    Nothing

-- what byte time n does
unfoldable pub deed_at : Host → Desk → ℕ → Deed
deed_at h d n = deed_on (h.lines n) (served_at h n (at h d n))

-- "Each data cell takes DR"
unfoldable pub takes : Deed → Bool
takes Nothing = false
takes (Deliver b) = false
takes (Named b track bad) = false
takes (Matched bad) = false
takes NotFound = false
takes (Record deleted bad follows) = false
takes (Written follows) = false
takes (Ask on) = false
takes Late = false
takes (Take on) = true
takes (Step inward track) = false
takes (Halt rule load) = false

-- "Each data byte .. goes to DR"
unfoldable pub hands : Deed → Bool
hands Nothing = false
hands (Deliver b) = true
hands (Named b track bad) = true
hands (Matched bad) = false
hands NotFound = false
hands (Record deleted bad follows) = false
hands (Written follows) = false
hands (Ask on) = false
hands Late = false
hands (Take on) = false
hands (Step inward track) = false
hands (Halt rule load) = false

-- of the first n byte times, those that count, in their order
unfoldable pub collected : (ℕ → Bool) → (ℕ → ℕ) → ℕ → List ℕ
collected counts byte zero = []
collected counts byte (suc n) = collected counts byte n ++ cond (counts n) (byte n ∷ []) []

-- the bytes that a command took in n byte times: DR as the host left it before each data cell's
abbrev pub taken : Host → Desk → ℕ → List ℕ
taken h d = collected (λ k. takes (deed_at h d k)) (λ k. (served_at h k (at h d k)).machine.regs.dr)

-- the bytes that it handed over in n byte times: DR after each that hands one over
abbrev pub handed : Host → Desk → ℕ → List ℕ
handed h d = collected (λ k. hands (deed_at h d k)) (λ k. (at h d (suc k)).machine.regs.dr)

-- "if DRQ was still on": the host has neither read nor loaded DR since the byte before
pub record LateAt (h : Host) (d : Desk) (k : ℕ) : Type 0 where
  pub hand : hands (deed_at h d k) ≡ true
  pub still : (served_at h k (at h d k)).machine.wires.drq ≡ true

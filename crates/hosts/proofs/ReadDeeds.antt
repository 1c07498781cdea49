-- The deeds of a single Read Sector, and what they leave in its status bits. Assumes nothing.
use mathlib.Core.Path.{◌≡◌, refl}
use mathlib.Core.Bool.{Bool, true, false, not, ◌||◌}
use mathlib.Core.Logic.{◌⊎◌, inl, inr}
use Prim.Native.Nat.{ℕ, ◌+◌}
use native.Mathlib.Omega.{arith}
use Rattle.activity.specs.Limits.{busy_in}
use Rattle.activity.specs.declared.Deed.{Deed}
use Rattle.activity.specs.declared.Deed.TheVariants.{Nothing, Deliver, Record}
use Rattle.registers.specs.declared.Flags.{Flags}
use Rattle.registers.specs.declared.Lines.{Lines}
use Rattle.registers.specs.Status.{bit_for, type_bits, status_from}
use Rattle.effects.proofs.Apart.{flags_after}
use Rattle.wd.specs.declared.Machine.{Machine}
use Rattle.wd.specs.Reads.{status_of}
use Rattle.hosts.specs.Bytes.{hands}
use Rattle.hosts.proofs.Silent.{Silent, nothing, matched, lost}
use Rattle.effects.specs.Effects.{effect_of, delivered, address_named, record_over, record_read, cell_taken, stepped, halted}

-- after its ID
pub data Moves : Deed → Type 0 where
  waits : Moves Nothing
  delivers : {b : ℕ} → Moves (Deliver b)
  records : {deleted : Bool} → Moves (Record deleted false false)

pub silent_hands : (deed : Deed) → Silent deed → hands deed ≡ false
unfolding hands
silent_hands deed nothing = refl
silent_hands deed (matched bad) = refl
silent_hands deed lost = refl

-- Lost Data comes with a byte that finds DRQ on
pub or_true_of : (a b : Bool) → (a || b) ≡ true → (a ≡ true) ⊎ (b ≡ true)
or_true_of true b e = inl refl
or_true_of false b e = inr e

pub lost_by :
    (f : Flags) (drq : Bool) (deed : Deed)
    → Silent deed ⊎ Moves deed
    → (flags_after f drq deed).lost ≡ true
    → (f.lost ≡ true) ⊎ ((hands deed ≡ true) × (drq ≡ true))
unfolding flags_after hands effect_of delivered address_named record_over record_read cell_taken stepped halted
lost_by f drq deed (inl nothing) e = inl e
lost_by f drq deed (inl (matched bad)) e = inl e
lost_by f drq deed (inl lost) e = inl e
lost_by f drq deed (inr waits) e = inl e
lost_by f drq deed (inr delivers) e = by (or_true_of f.lost drq e)
  where
    by : (f.lost ≡ true) ⊎ (drq ≡ true) → (f.lost ≡ true) ⊎ ((true ≡ true) × (drq ≡ true))
    by (inl a) = inl a
    by (inr b) = inr (refl, b)
lost_by f drq deed (inr records) e = inl e

-- the status byte of a command of Types II and III that has ended, with no error bit but Lost Data
pub status_is :
    (m : Machine) (l : Lines) (deleted : Bool)
    → busy_in m.activity ≡ false
    → m.flags.type1 ≡ false
    → m.flags.protected ≡ false
    → m.flags.missing ≡ false
    → m.flags.crc ≡ false
    → m.flags.deleted ≡ deleted
    → (status_of m l).byte
    ≡ bit_for (not l.ready) 0x80 + bit_for deleted 0x20 + bit_for m.flags.lost 0x04 + bit_for m.wires.drq 0x02
unfolding status_of status_from type_bits bit_for
status_is m l deleted busy type protected missing crc mark =
    simp (type, busy, protected, missing, crc, mark) (omega arith)

-- What a caller knows of a call that it has made: the call's contract, as the prover hands it on (its `Reads.Learnt`), for the
-- arguments, the answer and, where a row is lent, the row before and after. Assumes nothing.
use Rattle.std.specs.Prelude.{◌≡◌, Bool, true, false, List, ℕ}
use contract.Lifetimes.{Lfts}
use denote.Ref.{Bor, MutBor}
use Rattle.command.specs.declared.Chip.{Chip}
use Rattle.activity.specs.declared.Activity.TheVariants.{Idle}
use Rattle.registers.specs.declared.Lines.{Lines}
use Rattle.wd.specs.declared.Machine.{Machine}
use Rattle.wd.specs.declared.Called.{Called}
use Rattle.wd.specs.declared.Read.{Read}
use Rattle.wd.specs.declared.Passed.{Passed}
use Rattle.wd.specs.declared.Ran.{Ran}
use Rattle.picture.specs.declared.Answer.{Answer}
use Rattle.wd.proofs as wd
use Rattle.picture.proofs as picture
use Rattle.viewer.proofs as viewer

pub record PowerOnCall (length : ℕ) (mfm : Bool) (chip : Chip) (r : Called) : Type 0 where
  pub lifetimes : Lfts 0
  pub exit : _
  pub told : wd.Machine.power_on.Reads.Learnt lifetimes (length, (mfm, (chip, tt))) r exit

-- "It gives: position 0, track register (TR) 0, sector register (SR) 1, data register (DR) 0, direction out, head unloaded, idle,
-- Ready last seen off, DRQ and INTRQ off, Type I status." "Power-on names the chip." The side output is 0.
pub record PoweredOn (size : ℕ) (mfm : Bool) (chip : Chip) (m : Machine) : Type 0 where
  pub ring : m.ring ≡ record { length = size; position = 0 }
  pub density : m.mfm ≡ mfm
  pub chip_named : m.chip ≡ chip
  pub side_output : m.sso ≡ false
  pub regs : m.regs ≡ record { tr = 0; sr = 1; dr = 0 }
  pub head : m.head ≡ record { loaded = false; inward = false }
  pub idle : m.activity ≡ Idle
  pub ready : m.past.ready ≡ false
  pub wires : m.wires ≡ record { drq = false; intrq = false }
  pub type1 : m.flags.type1 ≡ true

pub record LoadCall (m : Machine) (l : Lines) (number b : ℕ) (r : Called) : Type 0 where
  pub lifetimes : Lfts 0
  pub exit : _
  pub told : wd.Machine.load_register.Reads.Learnt lifetimes (m, (l, (number, (b, tt)))) r exit

pub record ReadCall (m : Machine) (l : Lines) (number : ℕ) (r : Read) : Type 0 where
  pub lifetimes : Lfts 0
  pub exit : _
  pub told : wd.Machine.read_register.Reads.Learnt lifetimes (m, (l, (number, tt))) r exit

pub record ByteTimeCall (m : Machine) (l : Lines) (row : List ℕ) (r : Passed) (row' : List ℕ) : Type 0 where
  pub lifetimes : Lfts 1
  pub lent : MutBor (List ℕ)
  pub exit : Machine × (Lines × (MutBor (List ℕ) × Unit {0}))
  pub before : lent.now ≡ row
  pub told : wd.Machine.byte_time.Reads.Learnt lifetimes (m, (l, (lent, tt))) r exit
  pub after : exit.1.1.0.now ≡ row'

pub record RunCall (m : Machine) (l : Lines) (limit : ℕ) (row : List ℕ) (r : Ran) (row' : List ℕ) : Type 0 where
  pub lifetimes : Lfts 1
  pub lent : MutBor (List ℕ)
  pub exit : Machine × (Lines × (ℕ × (MutBor (List ℕ) × Unit {0})))
  pub before : lent.now ≡ row
  pub told : wd.Machine.run.Reads.Learnt lifetimes (m, (l, (limit, (lent, tt)))) r exit
  pub after : exit.1.1.1.0.now ≡ row'

-- the picture reader, lent the picture's bytes and room for its cells
pub record PictureCall (bytes room : List ℕ) (r : Answer) (room' : List ℕ) : Type 0 where
  pub lifetimes : Lfts 2
  pub lent : Bor (List ℕ)
  pub space : MutBor (List ℕ)
  pub exit : Bor (List ℕ) × (MutBor (List ℕ) × Unit {0})
  pub bytes_before : lent.now ≡ bytes
  pub room_before : space.now ≡ room
  pub told : picture.read.Reads.Learnt lifetimes (lent, (space, tt)) r exit
  pub room_after : exit.1.0.now ≡ room'

-- the viewer, lent two sides, of which side 0 starts at p0 in memory: the part that it hands back, and where that starts
pub record ViewCall (s0 s1 : List ℕ) (p0 : ℕ × ℕ) (mfm : Bool) (track sector : ℕ) (part : List ℕ) (start : ℕ × ℕ) : Type 0 where
  pub lifetimes : Lfts 1
  pub side0 : Bor (List ℕ)
  pub side1 : Bor (List ℕ)
  pub answer : Bor (List ℕ)
  pub exit : _
  pub cells0 : side0.now ≡ s0
  pub cells1 : side1.now ≡ s1
  pub start0 : side0.ref_ptr ≡ p0
  pub told : viewer.view.Reads.Learnt lifetimes (side0, (side1, (mfm, (track, (sector, tt))))) answer exit
  pub cells : answer.now ≡ part
  pub begins : answer.ref_ptr ≡ start

-- and its number
pub record NumberCall (s0 s1 : List ℕ) (mfm : Bool) (track sector number : ℕ) : Type 0 where
  pub lifetimes : Lfts 2
  pub side0 : Bor (List ℕ)
  pub side1 : Bor (List ℕ)
  pub exit : _
  pub cells0 : side0.now ≡ s0
  pub cells1 : side1.now ≡ s1
  pub told : viewer.number.Reads.Learnt lifetimes (side0, (side1, (mfm, (track, (sector, tt))))) number exit

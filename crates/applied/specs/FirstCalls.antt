-- Demand 2's first sentence for the first calls after power-on. Assumes nothing.
use Rattle.std.specs.Prelude.{◌≡◌, Bool, true, false, List, ℕ, ◌≤◌}
use Rattle.registers.specs.declared.Lines.{Lines}
use Rattle.wd.specs.declared.Called.{Called}
use Rattle.wd.specs.declared.Read.{Read}
use Rattle.wd.specs.declared.Passed.{Passed}
use Rattle.wd.specs.declared.Ran.{Ran}
use Rattle.reachable.proofs.Samples.{empty}
use Rattle.command.specs.declared.Chip.{Chip}
use Rattle.command.specs.declared.Chip.TheVariants.{Wd1797}
use Rattle.in_time.proofs.Scenes.{fresh}
use Rattle.uses.specs.CallContracts.{PowerOnCall, LoadCall, ReadCall, ByteTimeCall, RunCall}
use Rattle.refusals.specs.Numbers.{done}

pub record FirstCalls : Type 0 where
  -- "2,048, .. taken", "10,416 taken", and each length between; "position 0, track register (TR) 0, sector register (SR) 1, data
  -- register (DR) 0"; "Power-on names the chip."
  pub starts : (size : ℕ) (mfm : Bool) (chip : Chip) (r : Called)
      → 2048 ≤ size
      → size ≤ 10416
      → PowerOnCall size mfm chip r
      → (r.outcome ≡ done)
      × (r.machine.ring ≡ record { length = size; position = 0 })
      × (r.machine.regs ≡ record { tr = 0; sr = 1; dr = 0 })
      × (r.machine.chip ≡ chip)
      × (r.machine.sso ≡ false)
  -- a machine of each of these lengths accepts a Read Sector, so the premises of demand 3 can be met at each length
  pub accepts : (size : ℕ) (mfm : Bool) (chip : Chip) (l : Lines) (r : Called) (s : Called)
      → 2048 ≤ size
      → size ≤ 10416
      → PowerOnCall size mfm chip r
      → LoadCall r.machine l 0 0x80 s
      → s.outcome ≡ done
  -- "U goes to the side output at acceptance": a Read Address with U turns it on, whatever the lines, and a Force Interrupt leaves it
  pub side_output : (mfm : Bool) (l l' : Lines) (r s : Called)
      → LoadCall (fresh mfm Wd1797) l 0 0xC2 r
      → LoadCall r.machine l' 0 0xD0 s
      → (r.machine.sso ≡ true) × (s.machine.sso ≡ true)
  -- "registers, .. and every track cell": TR is loaded with 5, a byte time passes over the empty track, and TR is read
  pub exactly : (mfm : Bool) (chip : Chip) (l l' l'' : Lines) (r : Called) (p : Passed) (row : List ℕ) (q : Read)
      → LoadCall (fresh mfm chip) l 1 5 r
      → ByteTimeCall r.machine l' empty p row
      → ReadCall p.machine l'' 1 q
      → (q.byte ≡ 5) × (q.machine.regs.tr ≡ 5) × (q.machine.ring.position ≡ 1) × (row ≡ empty)
  -- "A run call makes byte times": one of limit 1 leaves what a byte time leaves
  pub one_by_one : (mfm : Bool) (chip : Chip) (l : Lines) (p : Passed) (r : Ran) (row row' : List ℕ)
      → ByteTimeCall (fresh mfm chip) l empty p row
      → RunCall (fresh mfm chip) l 1 empty r row'
      → (r.machine ≡ p.machine) × (row' ≡ row)

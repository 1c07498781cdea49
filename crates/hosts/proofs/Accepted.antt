-- A command of Types II and III that is accepted and does not end at once: how it begins. Assumes nothing.
use mathlib.Core.Path.{◌≡◌, refl, ap, ◌∙◌}
use mathlib.Core.Bool.{Bool, true, false, cond}
use Prim.Native.Nat.{ℕ, ◌<◌}
use Rattle.common.proofs.Cases.{never}
use Rattle.common.specs.Bits.{bit_of}
use Rattle.command.specs.Bits.{settles_first}
use Rattle.command.specs.Commands.{class_of, decoded_of, is_restore}
use Rattle.command.specs.Orders.{order_of}
use Rattle.command.specs.Times.{settle_time_of}
use Rattle.command.specs.declared.Command.{Command}
use Rattle.command.specs.declared.Command.TheVariants.{Restore, Seek, Step, StepIn, StepOut, ReadSector, WriteSector, ReadAddress, WriteTrack, ForceInterrupt}
use Rattle.std.specs.Prelude.{Some}
use Rattle.command.specs.declared.Class.{Class}
use Rattle.command.specs.declared.Class.TheVariants.{Works}
use Rattle.activity.specs.Limits.{busy_in}
use Rattle.activity.specs.declared.Activity.TheVariants.{Settle}
use Rattle.registers.specs.declared.Lines.{Lines}
use Rattle.registers.specs.declared.Flags.{Flags}
use Rattle.registers.specs.Registers.{load_refusal}
use Rattle.accepting.specs.Accepting.{held_by, ends_at_once, asks_first, begin_regs, begin_wires, begin_flags, works_from, begin_activity}
use Rattle.wd.specs.declared.Machine.{Machine}
use Rattle.wd.specs.Machines.{valid_of}
use Rattle.wd.specs.Loads.{command_begun, command_answer, load_register}
use Rattle.hosts.specs.Scenes.{Scene, loaded, settling}
use Rattle.hosts.proofs.DrByte.{begun_byte}
use Rattle.hosts.proofs.Views.{View, view_of}
use Rattle.refusals.specs.Numbers.{done}
use Rattle.refusals.proofs.Outcomes.{not_ok-done}
use Rattle.std.specs.Result.{is_ok}

-- ---- a load of the command register that is done

module _ (m : Machine) (l : Lines) (b : ℕ) (accepted : (load_register m l 0 b).outcome ≡ done) where
  -- it is not refused by 2, 5 or 6
  unrefused : is_ok (load_refusal (valid_of m) (busy_in m.activity) 0 b) ≡ true
  unfolding load_register
  unrefused = by (is_ok (load_refusal (valid_of m) (busy_in m.activity) 0 b)) refl accepted
    where
      by :
          (free : Bool)
          → is_ok (load_refusal (valid_of m) (busy_in m.activity) 0 b) ≡ free
          → (cond free (command_answer m l b (decoded_of m.chip b))
          (record { outcome = load_refusal (valid_of m) (busy_in m.activity) 0 b; machine = m })
          ).outcome ≡ done
          → free ≡ true
      by true e h = refl
      by false e h = absurd (not_ok-done _ e h)

  pub accepted_valid : valid_of m ≡ true
  unfolding load_refusal
  accepted_valid = by (valid_of m) unrefused
    where
      by : (valid : Bool) → is_ok (load_refusal valid (busy_in m.activity) 0 b) ≡ true → valid ≡ true
      by true e = refl
      by false e = never (cc)

  pub accepted_machine : (command : Command) → decoded_of m.chip b ≡ Some command → (load_register m l 0 b).machine ≡ command_begun m l b command
  unfolding load_register command_answer
  accepted_machine command e = simp (unrefused, e)

-- ---- how it begins

pub no_other_restores : (command : Command) → (command ≡ Restore → ⊥) → is_restore command ≡ false
unfolding is_restore
no_other_restores Restore other = absurd (other refl)
no_other_restores Seek other = refl
no_other_restores Step other = refl
no_other_restores StepIn other = refl
no_other_restores StepOut other = refl
no_other_restores ReadSector other = refl
no_other_restores WriteSector other = refl
no_other_restores ReadAddress other = refl
no_other_restores WriteTrack other = refl
no_other_restores ForceInterrupt other = refl

no_restore : (command : Command) → class_of command ≡ Works → command ≡ Restore → ⊥
unfolding class_of
no_restore command works e = let z : class_of Restore ≡ Works = rw e at works in never (cc)

begun_settles : (class : Class) (ends mfm : Bool) (b : ℕ)
    → class ≡ Works
    → ends ≡ false
    → begin_activity ends mfm b class ≡ Settle (cond (bit_of b 2) (cond mfm 938 469) 0)
unfolding begin_activity works_from settles_first settle_time_of
begun_settles class ends mfm b works goes = rw (works, goes) (by (bit_of b 2))
  where
    by : (settles : Bool) → cond settles (Settle (cond mfm 938 469)) (Settle 0) ≡ Settle (cond settles (cond mfm 938 469) 0)
    by true = refl
    by false = refl

-- the registers and the ring as they were, bit 4 off, and the settling ahead
abbrev pub ground_of : Scene → Command → View
ground_of s command =
    record {
      row = s.row;
      ring = s.machine.ring;
      mfm = s.machine.mfm;
      tr = s.machine.regs.tr;
      sr = s.machine.regs.sr;
      missing = false;
      order = order_of s.machine.chip command s.byte s.machine.head.inward;
      activity = Settle (settling s);
    }

pub begun_view :
    (s : Scene) (command : Command)
    → (load_register s.machine s.lines 0 s.byte).outcome ≡ done
    → decoded_of s.machine.chip s.byte ≡ Some command
    → class_of command ≡ Works
    → ends_at_once command s.lines ≡ false
    → view_of (loaded s) ≡ ground_of s command
unfolding command_begun begin_regs begin_flags
begun_view s command accepted e works goes =
    ap (λ (n : Machine). view_of (record { machine = n; row = s.row })) (accepted_machine m l b accepted command e)
    ∙ (λ i. record {
      row = s.row;
      ring = m.ring;
      mfm = m.mfm;
      tr = (regs i).tr;
      sr = (regs i).sr;
      missing = (begin_flags m.flags (held_by command l) (busy_in m.activity) (works i)).missing;
      order = order_of m.chip command b m.head.inward;
      activity = begun_settles (class_of command) (ends_at_once command l) m.mfm b works goes i;
    })
  where
    m : Machine
    m = s.machine

    l : Lines
    l = s.lines

    b : ℕ
    b = s.byte

    regs : begin_regs m.regs command ≡ m.regs
    regs = rw (no_other_restores command (no_restore command works))

-- ---- what it leaves in the status bits, in DR and of DRQ

abbrev pub flags_given : Bool → Flags
flags_given held =
    record { type1 = false; protected = held; deleted = false; missing = false; crc = false; lost = false }

-- "An accepted command .. clears bits 3, 4, Lost Data, type bits and DRQ", "a write under protection sets bit 6"
module _ (s : Scene) (command : Command) (is : decoded_of s.machine.chip s.byte ≡ Some command) (works : class_of command ≡ Works)
    (accepted : (load_register s.machine s.lines 0 s.byte).outcome ≡ done) where
  taken_up : (loaded s).machine ≡ command_begun s.machine s.lines s.byte command
  taken_up = accepted_machine s.machine s.lines s.byte accepted command is

  pub given_flags : (loaded s).machine.flags ≡ flags_given (held_by command s.lines)
  unfolding command_begun begin_flags
  given_flags =
      ap (λ (m : Machine). m.flags) taken_up
      ∙ ap (begin_flags s.machine.flags (held_by command s.lines) (busy_in s.machine.activity)) works

  -- DR holds a byte after it
  pub given_dr : s.machine.regs.dr < 256 → (loaded s).machine.regs.dr < 256
  given_dr low = rw taken_up (begun_byte s.machine s.lines s.byte command low)

  -- DRQ is off after it
  pub given_drq : asks_first command ≡ false → (loaded s).machine.wires.drq ≡ false
  unfolding command_begun begin_wires
  given_drq waits = ap (λ (m : Machine). m.wires.drq) taken_up ∙ simp (works, waits)

-- What an accepted command does at once, by its class: document 01, "Registers and commands", and document 02, i. Assumes nothing.
use Rattle.std.specs.Prelude.{Bool, true, false, cond, not, ◌&&◌, ◌||◌, ℕ}
use Rattle.command.specs.Bits.{loads_head, settles_first, selects_side, forces_at_once, forces_at_index, forces_at_not_ready, forces_at_ready}
use Rattle.command.specs.Commands.{is_restore, class_of}
use Rattle.command.specs.Times.{settle_time_of}
use Rattle.command.specs.declared.Command.{Command}
use Rattle.command.specs.declared.Command.TheVariants.{Restore, Seek, Step, StepIn, StepOut, ReadSector, WriteSector, ReadAddress, WriteTrack, ForceInterrupt}
use Rattle.command.specs.declared.Chip.{Chip}
use Rattle.command.specs.declared.Class.{Class}
use Rattle.command.specs.declared.Class.TheVariants.{Seeks, Steps, Works, Forces}
use Rattle.activity.specs.declared.Activity.{Activity}
use Rattle.activity.specs.declared.Activity.TheVariants as activity
use Rattle.registers.specs.declared.Regs.{Regs}
use Rattle.registers.specs.declared.Wires.{Wires}
use Rattle.registers.specs.declared.Flags.{Flags}
use Rattle.registers.specs.declared.Head.{Head}
use Rattle.registers.specs.declared.Conditions.{Conditions}
use Rattle.registers.specs.declared.Lines.{Lines}
use Rattle.accepting.specs.declared.Acceptance.{Acceptance}

unfoldable pub writes : Command → Bool
writes Restore = false
writes Seek = false
writes Step = false
writes StepIn = false
writes StepOut = false
writes ReadSector = false
writes WriteSector = true
writes ReadAddress = false
writes WriteTrack = true
writes ForceInterrupt = false

-- "not ready ends it at once ..; next, a write under protection sets bit 6 and ends it"
unfoldable pub held_by : Command → Lines → Bool
held_by command l = writes command && l.protect && l.ready

-- where a command of Types II and III ends in the load itself; other commands do not ask
abbrev pub ends_at_once : Command → Lines → Bool
ends_at_once command l = held_by command l || not l.ready

-- "Write Track. DRQ at acceptance"
unfoldable pub asks_first : Command → Bool
asks_first Restore = false
asks_first Seek = false
asks_first Step = false
asks_first StepIn = false
asks_first StepOut = false
asks_first ReadSector = false
asks_first WriteSector = false
asks_first ReadAddress = false
asks_first WriteTrack = true
asks_first ForceInterrupt = false

-- what the acceptance of a command knows of it
abbrev pub accepted_by : Command → ℕ → Lines → Acceptance
accepted_by command b l =
    record {
      command = command;
      byte = b;
      class = class_of command;
      held = held_by command l;
      ends = ends_at_once command l;
      asks = asks_first command && not (ends_at_once command l);
    }

-- "Restore sets TR 255, DR 0 at acceptance"
unfoldable pub begin_regs : Regs → Command → Regs
begin_regs r command = cond (is_restore command) (record { tr = 255; sr = r.sr; dr = 0 }) r

-- "loading an accepted command turns INTRQ off", "clears .. DRQ", "ends it at once with INTRQ"; Force Interrupt: "Bit 3
-- raises INTRQ at once"
unfoldable pub begin_wires : Wires → Bool → Bool → ℕ → Class → Wires
begin_wires w asks ends b Seeks = record { drq = false; intrq = false }
begin_wires w asks ends b Steps = record { drq = false; intrq = false }
begin_wires w asks ends b Works = record { drq = asks; intrq = ends }
begin_wires w asks ends b Forces = record { drq = w.drq; intrq = forces_at_once b }

-- "other bits .. stay; when idle, status becomes Type I with bits 3 and 4 off"
unfoldable pub forced_flags : Flags → Bool → Flags
forced_flags f busy =
    cond busy f
    (record {
      type1 = true;
      protected = f.protected;
      deleted = f.deleted;
      missing = false;
      crc = false;
      lost = f.lost;
    })

-- "An accepted command other than Force Interrupt .. clears bits 3, 4, Lost Data, type bits", "sets bit 6"
unfoldable pub begin_flags : Flags → Bool → Bool → Class → Flags
begin_flags f held busy Seeks =
    record { type1 = true; protected = false; deleted = false; missing = false; crc = false; lost = false }
begin_flags f held busy Steps =
    record { type1 = true; protected = false; deleted = false; missing = false; crc = false; lost = false }
begin_flags f held busy Works =
    record { type1 = false; protected = held; deleted = false; missing = false; crc = false; lost = false }
begin_flags f held busy Forces = forced_flags f busy

-- "Type I (bit 3 loads or unloads the head)", "Types II and III load the head": one that ends at once loads none (decision 7)
unfoldable pub begin_head : Head → Bool → ℕ → Class → Head
begin_head h ends b Seeks = record { loaded = loads_head b; inward = h.inward }
begin_head h ends b Steps = record { loaded = loads_head b; inward = h.inward }
begin_head h ends b Works = record { loaded = h.loaded || not ends; inward = h.inward }
begin_head h ends b Forces = h

-- "bit 2 at each index pulse, bits 0 and 1 when Ready comes on or goes off between byte times. Any later command drops
-- these.": what a command asks for, as long as it is the last one
unfoldable pub conditions_for : ℕ → Class → Conditions
conditions_for b Seeks = record { on = false; off = false; index = false }
conditions_for b Steps = record { on = false; off = false; index = false }
conditions_for b Works = record { on = false; off = false; index = false }
conditions_for b Forces = record { on = forces_at_ready b; off = forces_at_not_ready b; index = forces_at_index b }

-- "settle for 469 (FM) or 938 (MFM) byte times if E is 1, then begin with the first byte time that has HLT on"
unfoldable pub works_from : Bool → Bool → Bool → Activity
works_from ends settles mfm = cond ends activity.Idle (cond settles (activity.Settle (settle_time_of mfm)) (activity.Settle 0))

-- "in its first byte time .. the machine decides"; "Force Interrupt ends a command: Busy off"
unfoldable pub begin_activity : Bool → Bool → ℕ → Class → Activity
begin_activity ends mfm b Seeks = activity.Seek 1
begin_activity ends mfm b Steps = activity.Pulse
begin_activity ends mfm b Works = works_from ends (settles_first b) mfm
begin_activity ends mfm b Forces = activity.Idle

-- "U goes to the side output at acceptance": of Types II and III, also of one that ends at once; the other commands leave it
unfoldable pub begin_side : Bool → Chip → ℕ → Class → Bool
begin_side sso chip b Seeks = sso
begin_side sso chip b Steps = sso
begin_side sso chip b Works = selects_side chip b
begin_side sso chip b Forces = sso

-- Every command ends: with HLT on each accepted command without m ends by itself, and in time. Assumes nothing.
use mathlib.Core.Path.{refl, ap}
use mathlib.Core.Logic.{inl, inr}
use Prim.Native.Nat.{◌-◌, ◌*◌}
use native.Mathlib.Omega.{arith}
use lib.ListN.{length}
use Rattle.command.specs.Commands.{class_of, job_of}
use Rattle.command.specs.declared.Command.{Command}
use Rattle.command.specs.declared.Command.TheVariants.{Restore, Seek, Step, StepIn, StepOut, ReadSector, WriteSector, ReadAddress, WriteTrack, ForceInterrupt}
use Rattle.activity.specs.Limits.{busy_in}
use Rattle.accepting.specs.Accepting.{begin_activity}
use Rattle.wd.specs.declared.Machine.{Machine}
use Rattle.wd.specs.Loads.{command_begun}
use Rattle.hosts.specs.Hosts.{at}
use Rattle.hosts.specs.Scenes.{Scene, loaded}
use Rattle.hosts.proofs.Searching.{reads, writes as writes_sector}
use Rattle.hosts.proofs.Intrq.{ends_told}
use Rattle.ends.specs.Ends.{EndPremises, KeepsTarget, five_rounds, bound_of, Ends}
use Rattle.ends.proofs.Left.{begun_left, writes_track}
use Rattle.ends.proofs.Drains.{Over, over_now, later, over_ends}
use Rattle.ends.proofs.Begun.{started}
use Rattle.ends.proofs.TypeOne.{seeks_over, steps_over, steady_by, restore_most, seek_most}
use Rattle.ends.proofs.Settled.{track_over, worked_over}
use Rattle.ends.proofs.Sectors.{sector_over, address_over}

forced_over : (s : Scene) (asked : EndPremises s ForceInterrupt) → Over s.host (loaded s) 0 0
unfolding at command_begun class_of begin_activity busy_in
forced_over s asked =
    over_now s.host (loaded s) 0 (omega arith)
    (ap (λ (m : Machine). busy_in m.activity) (started asked))

over_by :
    (s : Scene) (command : Command)
    → EndPremises s command
    → KeepsTarget s command
    → Over s.host (loaded s) 0 (bound_of s command)
unfolding bound_of class_of job_of begun_left
over_by s Restore asked keeps =
    later s.host (loaded s)
    (omega (arith, restore_most s asked))
    (seeks_over asked refl refl (steady_by s asked.alone (keeps (inl refl))))
over_by s Seek asked keeps =
    later s.host (loaded s)
    (omega (arith, seek_most s asked))
    (seeks_over asked refl refl (steady_by s asked.alone (keeps (inr refl))))
over_by s Step asked keeps = later s.host (loaded s) (omega arith) (steps_over asked refl refl)
over_by s StepIn asked keeps = later s.host (loaded s) (omega arith) (steps_over asked refl refl)
over_by s StepOut asked keeps = later s.host (loaded s) (omega arith) (steps_over asked refl refl)
over_by s ReadSector asked keeps =
    later s.host (loaded s) (omega arith)
    (worked_over asked refl (five_rounds s)
    (λ w. sector_over w reads (asked.single (inl refl))))
over_by s WriteSector asked keeps =
    later s.host (loaded s) (omega arith)
    (worked_over asked refl (five_rounds s)
    (λ w. sector_over w writes_sector (asked.single (inr refl))))
over_by s ReadAddress asked keeps =
    later s.host (loaded s) (omega arith)
    (worked_over asked refl (five_rounds s) (λ w. address_over w refl))
over_by s WriteTrack asked keeps =
    later s.host (loaded s) (omega arith)
    (worked_over asked refl (2 * length s.row - 1)
    (λ w. track_over w writes_track))
over_by s ForceInterrupt asked keeps = later s.host (loaded s) (omega arith) (forced_over s asked)

-- "With HLT on, every accepted command without m ends by itself within a stated number of byte times": whatever Ready,
-- protect and track 0 are on the way, and whatever else the host calls.
pub ends : (s : Scene) (command : Command) → EndPremises s command → KeepsTarget s command → Ends s command
ends s command asked keeps =
    let (n, ending, soon) = over_ends s.host (loaded s) (over_by s command asked keeps) in (
      n,
      ending,
      soon,
      λ other. ends_told s command asked.decodes other asked.accepted n (λ k l. asked.alone k (ending.busy k l)) ending,
    )

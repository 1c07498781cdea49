-- A command of demand 3 as the theory of whole commands has it: under way, with HLT on as soon as it has settled. Assumes
-- nothing.
use mathlib.Core.Path.{◌≡◌, refl, ap}
use mathlib.Core.Bool.{true, not}
use native.Mathlib.Omega.{arith}
use Rattle.command.specs.Commands.{class_of}
use Rattle.command.specs.declared.Command.TheVariants.{ReadSector}
use Rattle.accepting.specs.Accepting.{writes, held_by}
use Rattle.hosts.specs.Scenes.{Scene, settling}
use Rattle.hosts.proofs.LowRows.{LowRow}
use Rattle.hosts.proofs.Working.{TakenUp, Working, low_working_lem, Heads, heads_on, settling_lasts}
use Rattle.in_time.specs.Demand3.{InTimePremises}

module _ (s : Scene) (asked : InTimePremises s) where
  pub given : TakenUp s ReadSector
  unfolding class_of held_by writes
  given =
      record {
        decodes = asked.reads;
        works = refl;
        accepted = asked.accepted;
        stays = ap not asked.ready;
      }

  abbrev pub working : Working LowRow s ReadSector
  working = low_working_lem given asked.alone asked.whole asked.low

  pub settled_hlt : (s.host.lines (settling s)).hlt ≡ true
  settled_hlt = asked.hlt (settling s) (settling_lasts working (settling s) (omega arith)).busy

  abbrev pub heads : Heads working
  heads = heads_on working settled_hlt

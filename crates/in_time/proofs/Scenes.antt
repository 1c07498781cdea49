-- Scenes that demand 3 speaks of, so that it speaks of something: a Read Sector without m, and a host that reads the status and
-- DR before every byte time. Assumes nothing.
use mathlib.Core.Path.{◌≡◌, refl}
use mathlib.Core.Bool.{Bool, false}
use mathlib.Core.List.{List, [], ◌∷◌}
use Prim.Native.Nat.{ℕ, ◌≤◌, ◌<◌}
use lib.ListN.{length, get_or}
use Rattle.command.specs.Commands.{decoded_by_both, decoded_of}
use Rattle.command.specs.declared.Chip.{Chip}
use Rattle.command.specs.declared.Command.TheVariants.{ReadSector}
use Rattle.std.specs.Prelude.{Some}
use Rattle.common.specs.Bits.{bit_of}
use Rattle.activity.specs.Limits.{busy_in, counts_within}
use Rattle.scan.specs.Rows.{length_within}
use Rattle.registers.specs.Rings.{ring_within}
use Rattle.registers.specs.Registers.{guarded, load_refusal}
use Rattle.wd.specs.declared.Machine.{Machine}
use Rattle.wd.specs.Machines.{valid_of, fresh_machine, power_on}
use Rattle.wd.specs.Loads.{command_answer, load_register}
use Rattle.reachable.proofs.Samples.{sample_length, on}
use Rattle.hosts.specs.Hosts.{reads, commands, NoneAccepted, none, more, Host}
use Rattle.hosts.specs.Scenes.{Scene}
use Rattle.in_time.specs.Demand3.{InTimePremises}
use Rattle.command.specs.Bits.{is_multiple}
use Rattle.refusals.specs.Numbers.{done}

abbrev pub reader : Host
reader = record { calls = λ n. reads on 0 ∷ reads on 3 ∷ []; lines = λ n. on }

-- none of its calls is a command
pub reader_quiet : (n : ℕ) (m : Machine) → NoneAccepted m (reader.calls n)
unfolding commands
reader_quiet n m = more refl (more refl none)

abbrev pub scene_by : ℕ → Machine → List ℕ → Scene
scene_by byte m row = record { machine = m; lines = on; byte = byte; row = row; host = reader }

pub asked_by :
    (byte : ℕ) (m : Machine) (row : List ℕ)
    → decoded_of m.chip byte ≡ Some ReadSector
    → is_multiple byte ≡ false
    → (load_register m on 0 byte).outcome ≡ done
    → length row ≡ m.ring.length
    → ((i : ℕ) → i < length row → get_or row i 0 ≤ 511)
    → InTimePremises (scene_by byte m row)
asked_by byte m row decodes single accepted whole low =
    record {
      reads = decodes;
      single = single;
      accepted = accepted;
      ready = refl;
      hlt = λ n busy. refl;
      alone = λ n busy. reader_quiet n _;
      whole = whole;
      low = low;
    }

-- without E and C
abbrev pub scene_of : Machine → List ℕ → Scene
scene_of = scene_by 0x80

pub scene_asked :
    (m : Machine) (row : List ℕ)
    → (load_register m on 0 0x80).outcome ≡ done
    → length row ≡ m.ring.length
    → ((i : ℕ) → i < length row → get_or row i 0 ≤ 511)
    → InTimePremises (scene_of m row)
unfolding decoded_of decoded_by_both bit_of is_multiple
scene_asked m row = asked_by 0x80 m row refl refl

-- power-on, either density, either chip
abbrev pub fresh : Bool → Chip → Machine
fresh mfm chip = (power_on sample_length mfm chip).machine

pub fresh_accepts : (mfm : Bool) (chip : Chip) → (load_register (fresh mfm chip) on 0 0x80).outcome ≡ done
unfolding load_register load_refusal guarded valid_of ring_within length_within counts_within busy_in power_on fresh_machine
    command_answer decoded_of decoded_by_both
fresh_accepts mfm chip = refl

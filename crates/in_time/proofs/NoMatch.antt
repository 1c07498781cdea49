-- Document 01, "Cases": "No match, L 2,048: search from cell 0 ends at byte time 8,193, from cell 1 at 10,240." So 5L, here
-- 10,240, cannot be less. Assumes nothing.
use mathlib.Core.Path.{◌≡◌, refl, sym, ◌∙◌}
use mathlib.Core.Bool.{Bool, true, false}
use Prim.Native.Nat.{ℕ, suc, ◌+◌, ◌%◌, ◌<◌}
use native.Mathlib.Nat.{mod-lt}
use native.Mathlib.Omega.{arith}
use lib.ListN.{length}
use Rattle.scan.specs.Streams.{MarkAt}
use Rattle.command.specs.declared.Chip.{Chip}
use Rattle.command.specs.Commands.{decoded_by_both, decoded_of}
use Rattle.common.specs.Bits.{bit_of}
use Rattle.act.specs.Turns.{begun_activity, activity_act, act_of}
use Rattle.activity.specs.Limits.{busy_in, counts_within}
use Rattle.scan.specs.Rows.{length_within}
use Rattle.registers.specs.Rings.{ring_within, ring_next, seen_of}
use Rattle.registers.specs.Registers.{guarded, load_refusal}
use Rattle.fields.specs.Rings.{cells_of}
use Rattle.wd.specs.declared.Machine.{Machine}
use Rattle.wd.specs.Machines.{valid_of, fresh_machine, power_on}
use Rattle.wd.specs.Loads.{command_answer, load_register}
use Rattle.wd.specs.Turns.{act_applied, cell_turn}
use Rattle.wd.specs.Rows.{row_refusal, done_by, byte_time}
use Rattle.reachable.specs.ByteTimes.{turns_on}
use Rattle.reachable.proofs.Samples.{sample_length, on, empty_track, empty, empty_length, empty_cell, low_empty}
use Rattle.hosts.specs.Hosts.{EndsAt}
use Rattle.hosts.specs.Scenes.{Scene, loaded, settling}
use Rattle.hosts.proofs.Pulses.{pulse_time, pulse_once}
use Rattle.in_time.specs.Demand3.{InTimePremises, start_of, OnRing, FifthPulse}
use Rattle.in_time.proofs.Demand3.{in_time}
use Rattle.in_time.proofs.Scenes.{reader, scene_of, scene_asked, fresh, fresh_accepts}
use Rattle.command.specs.Bits.{settles_first}
use Rattle.refusals.specs.Numbers.{done}

-- the fifth pulse on a ring of L cells
pub fifth_is : (s : Scene) (L from before : ℕ)
    → length s.row ≡ L
    → start_of s ≡ from
    → from < L
    → pulse_time 4 L from ≡ before
    → (k : ℕ)
    → FifthPulse s k
    → k ≡ before
fifth_is s L from before size e inside which k fifth =
    pulse_once 4 L from inside k (rw (size, e) at fifth.four) (rw (size, e) at fifth.pulse) ∙ which

-- any command of demand 3 that meets no ID on 2,048 cells
module _ (s : Scene) (asked : InTimePremises s) (size : length s.row ≡ sample_length) (nowhere : OnRing s → ⊥) where
  ends_fifth :
      (from before : ℕ)
      → start_of s ≡ from
      → from < sample_length
      → pulse_time 4 sample_length from ≡ before
      → EndsAt s.host (loaded s) (settling s + suc before)
  ends_fifth from before e inside which =
      let (n, ends, promised) = in_time s asked in
      let (k, fifth, same, most) = promised.lost nowhere in
      rw (same, fifth_is s sample_length from before size e inside which k fifth) at ends

  pub from_cell_0 : start_of s ≡ 0 → EndsAt s.host (loaded s) (settling s + 8193)
  unfolding pulse_time
  from_cell_0 e = ends_fifth 0 8192 e (omega arith) refl

  pub from_cell_1 : start_of s ≡ 1 → EndsAt s.host (loaded s) (settling s + 10240)
  unfolding pulse_time
  from_cell_1 e = ends_fifth 1 10239 e (omega arith) refl

-- ---- over an empty track

module _ (L : ℕ) (some : 0 < L) where
  -- 00 is in no mark
  plain : (n : ℕ) → cells_of (empty_track L) n ≡ 0
  unfolding cells_of
  plain n = rw (empty_length L) (empty_cell L (n % L) (mod-lt n {m = L} some))

  no_mark : (mfm : Bool) (a : ℕ) → MarkAt mfm (cells_of (empty_track L)) a 0xFE → ⊥
  unfolding MarkAt
  no_mark false a (low, e) = omega (arith, plain a)
  no_mark true a (low, x, y, z, e) = omega (arith, plain a)

  pub empty_nowhere : (s : Scene) → s.row ≡ empty_track L → OnRing s → ⊥
  empty_nowhere s e ring = no_mark s.machine.mfm ring.cell (rw e at ring.stands.mark)

module _ (m : Machine) (size : m.ring.length ≡ sample_length) (accepted : (load_register m on 0 0x80).outcome ≡ done) where
  empty_asked : InTimePremises (scene_of m empty)
  empty_asked = scene_asked m empty accepted (empty_length sample_length ∙ sym size) (low_empty sample_length)

  nowhere : OnRing (scene_of m empty) → ⊥
  nowhere = empty_nowhere sample_length (omega arith) (scene_of m empty) refl

  empty_from_0 : m.ring.position ≡ 0 → EndsAt reader (loaded (scene_of m empty)) 8193
  unfolding bit_of settles_first turns_on
  empty_from_0 = from_cell_0 (scene_of m empty) empty_asked (empty_length sample_length) nowhere

  empty_from_1 : m.ring.position ≡ 1 → EndsAt reader (loaded (scene_of m empty)) 10240
  unfolding bit_of settles_first turns_on
  empty_from_1 = from_cell_1 (scene_of m empty) empty_asked (empty_length sample_length) nowhere

-- at power-on the head is on cell 0
pub ends_at_8193 : (mfm : Bool) (chip : Chip) → EndsAt reader (loaded (scene_of (fresh mfm chip) empty)) 8193
unfolding power_on length_within fresh_machine
ends_at_8193 mfm chip = empty_from_0 (fresh mfm chip) refl (fresh_accepts mfm chip) refl

-- one byte time later it is on cell 1
abbrev later : Bool → Chip → Machine
later mfm chip = (byte_time (fresh mfm chip) on empty).machine

pub ends_at_10240 : (mfm : Bool) (chip : Chip) → EndsAt reader (loaded (scene_of (later mfm chip) empty)) 10240
unfolding power_on length_within fresh_machine load_register load_refusal guarded valid_of ring_within counts_within busy_in command_answer
    decoded_of decoded_by_both byte_time row_refusal done_by cell_turn act_applied ring_next seen_of act_of begun_activity activity_act
ends_at_10240 mfm chip = empty_from_1 (later mfm chip) refl refl refl

-- "When it ends by itself, Busy goes off and INTRQ on in that byte time." Assumes nothing.
use mathlib.Core.Path.{◌≡◌, refl, sym, ap, ◌∙◌}
use mathlib.Core.Bool.{Bool, true, false, or-true}
use mathlib.Core.List.{List}
use Prim.Native.Nat.{ℕ, zero, suc}
use native.Mathlib.Omega.{arith}
use lib.Dec.{ltb}
use lib.ListN.{length}
use Rattle.common.proofs.Cases.{by_cond, never}
use Rattle.command.specs.Bits.{settles_first}
use Rattle.command.specs.Commands.{class_of, decoded_of}
use Rattle.command.specs.declared.Command.{Command}
use Rattle.command.specs.declared.Command.TheVariants.{Restore, Seek, Step, StepIn, StepOut, ReadSector, WriteSector, ReadAddress, WriteTrack, ForceInterrupt}
use Rattle.std.specs.Prelude.{Some}
use Rattle.command.specs.declared.Class.{Class}
use Rattle.command.specs.declared.Class.TheVariants.{Seeks, Steps, Works, Forces}
use Rattle.activity.specs.Limits.{busy_in}
use Rattle.activity.specs.declared.Activity.{Activity}
use Rattle.registers.specs.declared.Lines.{Lines}
use Rattle.registers.specs.declared.Wires.{Wires}
use Rattle.accepting.specs.Accepting.{begin_wires, works_from, begin_activity}
use Rattle.wd.specs.declared.Machine.{Machine}
use Rattle.wd.specs.declared.Passed.{Passed}
use Rattle.wd.specs.Loads.{command_begun, load_register}
use Rattle.wd.specs.Turns.{act_applied, cell_turn}
use Rattle.wd.specs.Rows.{row_refusal, under, refused_at, done_by, byte_time}
use Rattle.hosts.specs.Hosts.{NoneAccepted, Host, Desk, served_at, passes_under, at, EndsAt, AloneUntil}
use Rattle.hosts.specs.Scenes.{Scene, loaded}
use Rattle.hosts.proofs.QuietCalls.{calls_activity}
use Rattle.hosts.proofs.Accepted.{accepted_machine}
use Rattle.refusals.specs.Numbers.{done}
use Rattle.std.specs.Result.{is_ok}

-- ---- in a byte time

-- one that finds a machine Busy and leaves it not Busy leaves INTRQ on
pub byte_time_ends :
    (m : Machine) (l : Lines) (row : List ℕ)
    → busy_in m.activity ≡ true
    → busy_in (byte_time m l row).machine.activity ≡ false
    → (byte_time m l row).machine.wires.intrq ≡ true
unfolding byte_time refused_at done_by cell_turn act_applied
byte_time_ends m l row busy =
    by_cond Told (is_ok (row_refusal m (length row)))
    (λ e. by_cond Told (ltb 511 (under m row)) (λ f. still) (λ f off. simp (busy, off, or-true)))
    (λ e. still)
  where
    Told : Passed → Type 0
    Told p = busy_in p.machine.activity ≡ false → p.machine.wires.intrq ≡ true

    still : busy_in m.activity ≡ false → m.wires.intrq ≡ true
    still off = let z : true ≡ false = sym busy ∙ off in never (cc)

-- so does a byte time of any host that gives no command before it
pub host_ends :
    (h : Host) (d : Desk) (n : ℕ)
    → NoneAccepted (at h d n).machine (h.calls n)
    → busy_in (at h d n).machine.activity ≡ true
    → busy_in (at h d (suc n)).machine.activity ≡ false
    → (at h d (suc n)).machine.wires.intrq ≡ true
unfolding at passes_under served_at
host_ends h d n quiet busy =
    byte_time_ends _ (h.lines n) (at h d n).row (ap busy_in (calls_activity (at h d n).machine (h.calls n) quiet) ∙ busy)

-- ---- in the load itself

-- "not ready ends it at once with INTRQ; next, a write under protection sets bit 6 and ends it"
begins_over :
    (w : Wires) (asks ends mfm : Bool) (b : ℕ) (class : Class)
    → (class ≡ Forces → ⊥)
    → busy_in (begin_activity ends mfm b class) ≡ false
    → (begin_wires w asks ends b class).intrq ≡ true
unfolding begin_activity begin_wires works_from busy_in
begins_over w asks ends mfm b Seeks other off = never (cc)
begins_over w asks ends mfm b Steps other off = never (cc)
begins_over w asks true mfm b Works other off = refl
begins_over w asks false mfm b Works other off =
    by_cond (λ (a : Activity). busy_in a ≡ false → false ≡ true) (settles_first b) (λ e x. never (cc)) (λ e x. never (cc)) off
begins_over w asks ends mfm b Forces other off = absurd (other refl)

forces : (command : Command) → class_of command ≡ Forces → command ≡ ForceInterrupt
unfolding class_of
forces Restore e = never (cc)
forces Seek e = never (cc)
forces Step e = never (cc)
forces StepIn e = never (cc)
forces StepOut e = never (cc)
forces ReadSector e = never (cc)
forces WriteSector e = never (cc)
forces ReadAddress e = never (cc)
forces WriteTrack e = never (cc)
forces ForceInterrupt e = refl

-- ---- a command

-- Of every command but Force Interrupt, in whatever byte time it ends by itself: no other is accepted before that.
pub ends_told :
    (s : Scene) (command : Command)
    → decoded_of s.machine.chip s.byte ≡ Some command
    → (command ≡ ForceInterrupt → ⊥)
    → (load_register s.machine s.lines 0 s.byte).outcome ≡ done
    → (n : ℕ)
    → AloneUntil s.host (loaded s) n
    → EndsAt s.host (loaded s) n
    → (at s.host (loaded s) n).machine.wires.intrq ≡ true
unfolding at command_begun
ends_told s command is other accepted zero alone ends =
    let begun = accepted_machine s.machine s.lines s.byte accepted command is in
    ap (λ (m : Machine). m.wires.intrq) begun
    ∙ begins_over _ _ _ _ _ (class_of command) (λ e. other (forces command e))
    (ap (λ (m : Machine). busy_in m.activity) (sym begun) ∙ ends.over)
ends_told s command is other accepted (suc n) alone ends =
    host_ends s.host (loaded s) n (alone n (omega arith)) (ends.busy n (omega arith)) ends.over

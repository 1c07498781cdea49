-- A Read Sector that is accepted after a Write Sector comes when that has ended: 6 refuses it while Busy. Assumes nothing.
use mathlib.Core.Path.{◌≡◌, refl, sym, ap, ◌∙◌}
use mathlib.Core.Bool.{Bool, true, false, cond}
use Prim.Native.Nat.{ℕ, ◌≤◌, ◌<◌}
use native.Mathlib.Decide.{dec_lt}
use native.Mathlib.Omega.{arith}
use lib.Dec.{leb}
use borrow.Author.Tests.{leb-true}
use Rattle.common.proofs.Arms.{range}
use Rattle.common.proofs.Cases.{never, both}
use Rattle.command.specs.Commands.{decoded_by_both, decoded_of, within}
use Rattle.command.specs.declared.Chip.{Chip}
use Rattle.command.specs.declared.Command.TheVariants.{ReadSector, ForceInterrupt}
use Rattle.std.specs.Prelude.{Some}
use Rattle.activity.specs.Limits.{busy_in}
use Rattle.registers.specs.declared.Lines.{Lines}
use Rattle.registers.specs.Registers.{guarded, load_refusal}
use Rattle.wd.specs.declared.Machine.{Machine}
use Rattle.wd.specs.Machines.{valid_of}
use Rattle.wd.specs.Loads.{command_answer, load_register}
use Rattle.hosts.specs.Hosts.{served_at, at}
use Rattle.reachable.specs.Growth.{Fixed}
use Rattle.reachable.proofs.Fixed.{further, load_fixed}
use Rattle.hosts.proofs.Idling.{calls_fixed, host_fixed}
use Rattle.hosts.proofs.QuietCalls.{calls_activity}
use Rattle.exact.specs.Demand2.{Session, begun, asked, Commands}
use Rattle.refusals.specs.Numbers.{done, refused}
use Rattle.std.specs.Result.{is_ok}
use Rattle.refusals.specs.declared.Refusal.TheVariants as refusal
use Rattle.refusals.proofs.Outcomes.{refused-done}

-- it is no Force Interrupt
no_force : (chip : Chip) (b : ℕ) → decoded_of chip b ≡ Some ReadSector → within 0xD0 0xDF b ≡ false
unfolding decoded_of decoded_by_both
no_force chip b e = by (within 0xD0 0xDF b) refl
  where
    by : (force : Bool) → within 0xD0 0xDF b ≡ force → within 0xD0 0xDF b ≡ false
    by false f = f
    by true f =
        let h = both (leb 0xD0 b) (leb b 0xDF) f in
        let low : 0xD0 ≤ b = leb-true 0xD0 b h.0 in
        let high : b ≤ 0xDF = leb-true b 0xDF h.1 in
        let z : Some ForceInterrupt ≡ Some ReadSector = range (decoded_of chip) 0xD0 16 refl low (omega arith) ∙ e in
        never (cc)

-- "any command byte outside D0-DF loaded while Busy"
idle_then : (m : Machine) (l : Lines) (b : ℕ)
    → (load_register m l 0 b).outcome ≡ done
    → within 0xD0 0xDF b ≡ false
    → busy_in m.activity ≡ false
unfolding load_register load_refusal guarded
idle_then m l b accepted other = by (busy_in m.activity) (valid_of m) refl accepted
  where
    by : (busy valid : Bool)
        → busy_in m.activity ≡ busy
        → (cond (is_ok (load_refusal valid busy 0 b)) (command_answer m l b (decoded_of m.chip b))
        (record { outcome = load_refusal valid busy 0 b; machine = m })
        ).outcome ≡ done
        → busy_in m.activity ≡ false
    by false valid e h = e
    by true true e h = let z : refused refusal.Busy ≡ done = simp other at h in absurd (refused-done _ z)
    by true false e h = absurd (refused-done _ h)

-- so the read comes after the write
pub later : (s : Session) → Commands s → s.written ≤ s.waited
unfolding served_at
later s k = by (dec_lt s.waited s.written)
  where
    by : Dec (s.waited < s.written) → s.written ≤ s.waited
    by (yes l) =
        let z : true ≡ false =
        sym (k.ends.busy s.waited l)
        ∙ ap busy_in (sym (calls_activity _ (s.writer.calls s.waited) (k.next s.waited (omega arith))))
        ∙ idle_then (asked s).machine s.lines_then s.byte_then k.accepted_then
        (no_force (asked s).machine.chip s.byte_then k.reads) in
        never (cc)
    by (no l) = omega arith

-- the read finds the chip, the density and the length that the write found
pub asked_fixed : (s : Session) → Fixed s.machine (asked s).machine
unfolding served_at
asked_fixed s =
    further (load_fixed s.machine s.lines 0 s.byte)
    (further (host_fixed s.writer (begun s) s.waited)
    (calls_fixed (at s.writer (begun s) s.waited).machine (s.writer.calls s.waited)))

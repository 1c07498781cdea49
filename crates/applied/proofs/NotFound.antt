-- Demand 3 over empty tracks, from `demand_1` and `demand_3` alone. Assumes nothing.
use mathlib.Core.Path.{◌≡◌, refl, sym, ap, ◌∙◌, subst}
use mathlib.Core.Bool.{Bool, true, false, cond}
use mathlib.Core.List.{List}
use mathlib.Core.Logic.{inl}
use Prim.Native.Nat.{ℕ, zero, suc, ◌+◌, ◌*◌, ◌≤◌, ◌<◌}
use native.Mathlib.Omega.{arith}
use lib.ListN.{length, get_or}
use Rattle.common.specs.Bits.{bit_of}
use Rattle.registers.specs.declared.Ring.{Ring}
use Rattle.registers.specs.Rings.{ring_next}
use Rattle.reachable.specs.ByteTimes.{turns_on}
use Rattle.reachable.proofs.Samples.{empty_length, low_empty}
use Rattle.safe.specs.Demand1.{range, load_2}
use Rattle.hosts.specs.Hosts.{Desk}
use Rattle.hosts.specs.Scenes.{settling}
use Rattle.hosts.proofs.Pulses.{pulse_time}
use Rattle.in_time.specs.Demand3.{OnRing, start_of}
use Rattle.in_time.proofs.NoMatch.{fifth_is, empty_nowhere}
use Rattle.uses.specs.Uses.{Use, throughout, no_command, head_loaded, passed}
use Rattle.uses.specs.Courses.{busy_bit, Shows, Accepted, since, track_of, SingleRead}
use Rattle.demands.specs.Demands.{ReadAsked}
use Rattle.demands.proofs.Demand1.{demand_1}
use Rattle.demands.proofs.Demand3.{demand_3}
use Rattle.applied.proofs.Commands.{read_80, read_84}
use Rattle.applied.specs.NotFound.{OverEmpty, TakesThere, NotFound}
use Rattle.refusals.proofs.Outcomes.{done_number}

module _ (L : ℕ) (mfm : Bool) (byte cell : ℕ) (single : SingleRead byte) where
  abbrev settles : ℕ
  settles = cond (bit_of byte 2) (cond mfm 938 469) 0

  module _ (c : Accepted) (is : OverEmpty L mfm byte cell c) where
    -- a machine that accepts a command has a ring of some cells
    some : 0 < L
    some = by L (ap (λ (r : Ring). r.length) is.ring)
      where
        by : (n : ℕ) → c.machine.ring.length ≡ n → 0 < n
        by (suc n) e = omega arith
        by zero e =
            let safe = demand_1.load c.machine c.lines 0 c.byte c.answer c.call in
            absurd (safe.given.done.0 (done_number _ c.outcome) 2 (load_2 (range (λ (least, most). omega (arith, least, e)))))

    nowhere : OnRing (track_of c) → ⊥
    nowhere = empty_nowhere L some (track_of c) is.row

    whole : length c.row ≡ L
    whole = ap length is.row ∙ empty_length L

    asked : ReadAsked c
    asked =
        record {
          single = subst SingleRead (sym is.command) single;
          ready = is.ready;
          whole = whole ∙ ap (λ (r : Ring). r.length) (sym is.ring);
          low = subst (λ (row : List ℕ). (i : ℕ) → i < length row → get_or row i 0 ≤ 511) (sym is.row) (low_empty L);
        }

    settles_so : settling (track_of c) ≡ settles
    settles_so i = cond (bit_of (is.command i) 2) (cond (is.density i) 938 469) 0

    late_over : (e : Desk) (u : Use (since c) e)
        → throughout head_loaded u ≡ true
        → throughout no_command u ≡ true
        → settles + 5 * L ≤ passed u
        → Shows e busy_bit false
    late_over e u head alone late =
        (demand_3.ends c e u asked head alone).where_none nowhere (omega (arith, late, settles_so, whole))

  -- the search begins where settling leaves the head
  takes : (from before : ℕ)
      → (turns_on settles (record { length = L; position = cell })).position ≡ from
      → from < L
      → pulse_time 4 L from ≡ before
      → TakesThere L mfm byte cell (settles + suc before)
  takes from before starts inside which c course is head head_last =
      let ends = demand_3.ends_so c course (asked c is) head head_last in
      let (k, fifth, same, most) = ends.where_none (nowhere c is) in
      let start : start_of (track_of c) ≡ from = (λ i. (turns_on (settles_so c is i) (is.ring i)).position) ∙ starts in
      let once = fifth_is (track_of c) L from before (whole c is) start inside which k fifth in
      (same ∙ (λ i. settles_so c is i + suc (once i)), λ l r call. (ends.not_found l r call).1 (inl (nowhere c is)))

from_power_on : (mfm : Bool) → TakesThere 2048 mfm 0x84 0 10241
unfolding bit_of turns_on ring_next pulse_time
from_power_on false = takes 2048 false 0x84 0 read_84 469 9771 refl (omega arith) refl
from_power_on true = takes 2048 true 0x84 0 read_84 938 9302 refl (omega arith) refl

pub not_found : NotFound
unfolding bit_of turns_on ring_next pulse_time
not_found =
    record {
      goes_on = λ L mfm cell c e u is head alone.
          (demand_3.ends c e u (asked L mfm 0x80 cell read_80 c is) head alone).goes_on;
      over = λ L mfm cell c e u is head alone late.
          late_over L mfm 0x80 cell read_80 c is e u head alone (omega (arith, late));
      from_0 = λ mfm. takes 2048 mfm 0x80 0 read_80 0 8192 refl (omega arith) refl;
      from_1 = λ mfm. takes 2048 mfm 0x80 1 read_80 1 10239 refl (omega arith) refl;
      longest_from_0 = λ mfm. takes 10416 mfm 0x80 0 read_80 0 41664 refl (omega arith) refl;
      longest_from_1 = λ mfm. takes 10416 mfm 0x80 1 read_80 1 52079 refl (omega arith) refl;
      fm_from_0 = takes 2048 false 0x84 1579 read_84 0 8192 refl (omega arith) refl;
      fm_from_1 = takes 2048 false 0x84 1580 read_84 1 10239 refl (omega arith) refl;
      mfm_from_0 = takes 2048 true 0x84 1110 read_84 0 8192 refl (omega arith) refl;
      mfm_from_1 = takes 2048 true 0x84 1111 read_84 1 10239 refl (omega arith) refl;
      settled = from_power_on;
    }

-- Settling, and the first byte time that has HLT on. Assumes nothing.
use mathlib.Core.Path.{◌≡◌, refl, sym, ap, ◌∙◌, subst}
use mathlib.Core.Bool.{Bool, true, false, cond, ◌&&◌}
use mathlib.Core.List.{List}
use Prim.Native.Nat.{ℕ, suc, ◌+◌, ◌-◌, ◌≤◌, ◌<◌}
use native.Mathlib.Omega.{arith}
use lib.Dec.{eqb}
use borrow.Author.Tests.{ne_eqb}
use Rattle.activity.specs.Acts.{pass}
use Rattle.activity.specs.Limits.{busy_in}
use Rattle.activity.specs.declared.Seen.{Seen}
use Rattle.activity.specs.declared.Activity.{Activity}
use Rattle.activity.specs.declared.Activity.TheVariants.{Settle}
use Rattle.activity.specs.declared.Deed.TheVariants.{Nothing}
use Rattle.act.specs.Turns.{job_begun, begun_activity, settle_turn, activity_act, act_of}
use Rattle.hosts.proofs.Views.{View, Outside, seen_in, act_in}
use Rattle.hosts.proofs.Courses.{Course}
use Rattle.hosts.proofs.Phases.{stands, PassesTo, rests, Stands, lasts, lasts_from}
use Rattle.command.specs.Commands.{job_of}

-- ---- what a byte time does

-- "settle for .. byte times", one of them
settle_one :
    (v : View) (o : Outside) (left next : ℕ) → v.activity ≡ Settle left → left ≡ suc next → PassesTo v o (Settle next)
unfolding act_of begun_activity activity_act settle_turn
settle_one v o left next e some =
    rests (seen_in v o) (act_in v o) (Settle next)
    (simp (e, ne_eqb left 0 (omega arith))
    (ap (λ (x : ℕ). pass (seen_in v o) (Settle x) Nothing) (omega arith)))

-- "then begin with the first byte time that has HLT on": not this one
settle_wait : (v : View) (o : Outside) → v.activity ≡ Settle 0 → o.hlt ≡ false → PassesTo v o (Settle 0)
unfolding act_of begun_activity activity_act settle_turn
settle_wait v o e off = rests (seen_in v o) (act_in v o) (Settle 0) (simp (e, off))

-- or this one: what begins has begun before the cell is looked at
pub settle_begins :
    (v : View) (o : Outside) (n : ℕ) (missing : Bool) (begins : Activity)
    → o.hlt ≡ true
    → ((s : Seen) → job_begun s (job_of v.order.command) ≡ begins)
    → ((s : Seen) → begun_activity v.order s begins ≡ begins)
    → act_in (stands v n missing (Settle 0)) o ≡ act_in (stands v n missing begins) o
unfolding act_of begun_activity
settle_begins v o n missing begins on begun enters =
    let s : Seen = seen_in (stands v n missing (Settle 0)) o in
    ap (activity_act v.order s)
    (ap (λ (hlt : Bool). cond (eqb 0 0 && hlt) (job_begun s (job_of v.order.command)) (Settle 0)) on
    ∙ begun s
    ∙ sym (enters s))

-- ---- how it goes on

module _ {Rows : List ℕ → Type 0} (c : Course Rows) (t : ℕ) (v : View) (rows : Rows v.row) where
  -- "settle for 469 (FM) or 938 (MFM) byte times": HLT is not looked at
  pub settles :
      {missing : Bool} (left n : ℕ) → n ≤ left → Stands c t v 0 missing (Settle left) → Stands c t v n missing (Settle (left - n))
  unfolding busy_in
  settles {missing} left n within begins =
      let none : left ≡ left - 0 = omega arith in
      lasts c t v rows (λ k. Settle (left - k)) n (λ k l. refl)
      (λ k l o hlt. settle_one (stands v k missing (Settle (left - k))) o (left - k) (left - suc k) refl (omega arith))
      (subst (λ (x : ℕ). Stands c t v 0 missing (Settle x)) none begins)

  -- ".. then begin with the first byte time that has HLT on": until then nothing happens
  pub waits :
      {missing : Bool} (j n : ℕ)
      → ((k : ℕ) → k < n → (c.host.lines (t + (j + k))).hlt ≡ false)
      → Stands c t v j missing (Settle 0)
      → Stands c t v (j + n) missing (Settle 0)
  unfolding busy_in
  waits {missing} j n off =
      lasts_from c t v rows j (λ k. Settle 0) n (λ k l. refl)
      (λ k l o hlt. settle_wait (stands v (j + k) missing (Settle 0)) o refl (hlt ∙ off k l))

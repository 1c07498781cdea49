-- A byte time of a command that ends by itself: what it does, and what it leaves. Assumes nothing.
use mathlib.Core.Path.{◌≡◌, refl, ap, ◌∙◌}
use mathlib.Core.Bool.{false, cond}
use mathlib.Core.List.{[], ◌∷◌, ◌++◌}
use Prim.Native.Nat.{ℕ, suc, ◌<◌}
use lib.ListN.{set}
use lib.Seq.{set-get_or}
use Rattle.activity.specs.Acts.{pass}
use Rattle.activity.specs.declared.Seen.{Seen}
use Rattle.activity.specs.declared.Act.{Act}
use Rattle.activity.specs.declared.Activity.{Activity}
use Rattle.activity.specs.declared.Deed.{Deed}
use Rattle.act.specs.Turns.{act_of}
use Rattle.registers.specs.declared.Flags.{Flags}
use Rattle.effects.proofs.Apart.{flags_after}
use Rattle.hosts.specs.Hosts.{Host, Desk, served_at, at, AloneUntil, EndsAt}
use Rattle.hosts.specs.Bytes.{deed_at, takes, collected, taken}
use Rattle.hosts.proofs.Views.{View, view_of, outside_at, seen_in, act_in, step_of, Calm, calm_view}
use Rattle.hosts.proofs.ByteTimes.{deed_view, next_flags}
use Rattle.hosts.proofs.Courses.{ended_calm}

pub record ByItself (h : Host) (d : Desk) (n : ℕ) : Type 0 where
  pub alone : AloneUntil h d n
  pub ends : EndsAt h d n

-- the view as j byte times have passed, what the next one sees, and what it does
abbrev pub view_at : Host → Desk → ℕ → View
view_at h d j = view_of (at h d j)

abbrev pub seen_at : Host → Desk → ℕ → Seen
seen_at h d j = seen_in (view_at h d j) (outside_at h d j)

abbrev pub act_at : Host → Desk → ℕ → Act
act_at h d j = act_in (view_at h d j) (outside_at h d j)

module _ {h : Host} {d : Desk} {n : ℕ} (x : ByItself h d n) (j : ℕ) (l : j < n) where
  calm : Calm h d j
  calm = ended_calm h d n x.alone x.ends j l

  pub next_is : view_at h d (suc j) ≡ step_of (view_at h d j) (outside_at h d j)
  next_is = calm_view h d calm (x.ends.busy j l)

  pub deed_is : deed_at h d j ≡ (act_at h d j).deed
  deed_is = deed_view h d j calm (x.ends.busy j l)

  -- it goes by the activity
  pub acts_as : {a : Activity} → (view_at h d j).activity ≡ a → act_at h d j ≡ act_of (view_at h d j).order (seen_at h d j) a
  acts_as e = ap (act_of (view_at h d j).order (seen_at h d j)) e

  pub next_activity : (view_at h d (suc j)).activity ≡ (act_at h d j).next
  unfolding step_of
  next_activity = ap (λ (v : View). v.activity) next_is

  pub next_lost :
      (at h d (suc j)).machine.flags.lost
      ≡ (flags_after (at h d j).machine.flags (outside_at h d j).drq (act_at h d j).deed).lost
  next_lost =
      ap (λ (f : Flags). f.lost) (next_flags h d j calm.quiet)
      ∙ ap (λ (deed : Deed). (flags_after (at h d j).machine.flags (outside_at h d j).drq deed).lost) deed_is

  pub next_taken :
      taken h d (suc j)
      ≡ taken h d j ++ cond (takes (act_at h d j).deed) ((served_at h j (at h d j)).machine.regs.dr ∷ []) []
  unfolding collected
  next_taken =
      ap (λ (deed : Deed). taken h d j ++ cond (takes deed) ((served_at h j (at h d j)).machine.regs.dr ∷ []) []) deed_is

  -- where the cell only passes the row stays, and a deed that takes nothing leaves what is taken
  module _ {next : Activity} {deed : Deed} (passes : act_at h d j ≡ pass (seen_at h d j) next deed) where
    pub row_kept : (at h d (suc j)).row ≡ (at h d j).row
    unfolding step_of
    row_kept =
        ap (λ (v : View). v.row) next_is
        ∙ ap (λ (a : Act). set (at h d j).row (view_at h d j).ring.position a.cell) passes
        ∙ set-get_or (at h d j).row (view_at h d j).ring.position 0

    pub none_kept : takes deed ≡ false → taken h d j ≡ [] → taken h d (suc j) ≡ []
    none_kept still none = next_taken ∙ rw (passes, still, none) refl

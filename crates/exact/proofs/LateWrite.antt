-- A Write Sector that nobody serves ends with Lost Data, and one that takes no byte leaves the row as it was lent. Assumes
-- nothing.
use mathlib.Core.Path.{◌≡◌, refl, sym, ap, ◌∙◌}
use mathlib.Core.Bool.{true, false, ◌&&◌}
use mathlib.Core.List.{[]}
use Prim.Native.Nat.{ℕ, zero, suc, ◌+◌, ◌≤◌, ◌<◌}
use native.Mathlib.Nat.{add-zero, add-suc}
use native.Mathlib.Omega.{arith}
use lib.Dec.{eqb}
use borrow.Author.Tests.{ne_eqb}
use Rattle.activity.specs.Acts.{pass}
use Rattle.activity.specs.Limits.{busy_in}
use Rattle.activity.specs.declared.Act.{Act}
use Rattle.activity.specs.declared.Activity.TheVariants.{Idle, Preamble}
use Rattle.activity.specs.declared.Deed.TheVariants.{Late}
use Rattle.effects.specs.Effects.{effect_of}
use Rattle.effects.proofs.Apart.{flags_after}
use Rattle.hosts.specs.Hosts.{Host, Desk, at}
use Rattle.hosts.specs.Scenes.{Scene, loaded}
use Rattle.hosts.specs.Bytes.{takes, taken}
use Rattle.hosts.proofs.Views.{outside_at}
use Rattle.hosts.proofs.Courses.{busy_inside, ends_there}
use Rattle.exact.specs.LateWrite.{WritePremises, StillOn, LateWrite}
use Rattle.exact.proofs.ByItself.{ByItself, view_at, seen_at, act_at, acts_as, next_activity, next_lost, none_kept}
use Rattle.exact.proofs.WriteActs.{asks_still, late_act, waits_act}
use Rattle.exact.proofs.WriteCourse.{Second, at_end, asks_second}

module _ (s : Scene) (n : ℕ) (asked : WritePremises s n) (k : ℕ) (still : StillOn s n k) where
  abbrev h : Host
  h = s.host

  abbrev d : Desk
  d = loaded s

  abbrev itself : ByItself h d n
  itself = record { alone = asked.alone; ends = asked.ends }

  -- byte time k asks
  abbrev second : Second s k
  second = asks_second s n asked k still.inside still.asks still.first

  -- as t byte times have passed, so many of them after the ID's last cell, nothing has been taken
  record Pending (t passed : ℕ) : Type 0 where
    before : t < n
    is : (view_at h d t).activity ≡ Preamble second.left passed
    none : taken h d t ≡ []

  pending : (i : ℕ) → i ≤ 8 → Pending (k + i) (i + 1)
  unfolding busy_in
  pending zero l = rw (add-zero k) (record { before = still.inside; is = second.is; none = second.none })
  pending (suc i) l =
      let x = pending i (omega arith) in
      let early : (eqb (i + 1 + 1) 10 && (outside_at h d (k + i)).drq) ≡ false = simp (ne_eqb (i + 1 + 1) 10 (omega arith)) in
      let does = acts_as itself (k + i) x.before x.is
      ∙ waits_act (view_at h d (k + i)).order (seen_at h d (k + i)) second.left (i + 1) (omega arith) early in
      let one : i + 1 + 1 ≡ suc i + 1 = omega arith in
      let next = next_activity itself (k + i) x.before ∙ ap (λ (a : Act). a.next) does ∙ ap (Preamble second.left) one in
      rw (add-suc k i)
      (record {
        before = busy_inside h d n asked.ends (suc (k + i)) x.before (ap busy_in next);
        is = next;
        none = none_kept itself (k + i) x.before does (asks_still (i + 1 + 1)).takes_none x.none;
      })

  -- up to the tenth
  ninth : Pending (k + 8) 9
  ninth = pending 8 (omega arith)

  -- "Still on at 10: Lost Data, end"
  late : act_at h d (k + 8) ≡ pass (seen_at h d (k + 8)) Idle Late
  late =
      acts_as itself (k + 8) ninth.before ninth.is
      ∙ late_act (view_at h d (k + 8)).order (seen_at h d (k + 8)) second.left 9 still.still

  late_end : suc (k + 8) ≡ n
  unfolding busy_in
  late_end =
      ends_there h d n asked.ends (k + 8) (omega (arith, ninth.before)) (asked.ends.busy (k + 8) ninth.before)
      (ap busy_in (next_activity itself (k + 8) ninth.before ∙ ap (λ (a : Act). a.next) late))

  late_lost : (at h d n).machine.flags.lost ≡ true
  unfolding flags_after effect_of
  late_lost =
      rw (sym late_end)
      (next_lost itself (k + 8) ninth.before
      ∙ ap (λ (a : Act). (flags_after (at h d (k + 8)).machine.flags (outside_at h d (k + 8)).drq a.deed).lost) late)

  late_none : taken h d n ≡ []
  unfolding takes
  late_none = rw (sym late_end) (none_kept itself (k + 8) ninth.before late refl ninth.none)

-- "Write Sector. .. DRQ at 2. Still on at 10: Lost Data, end, nothing written.": under every host, over every track
pub late_write : (s : Scene) (n : ℕ) → WritePremises s n → LateWrite s n
late_write s n asked =
    record {
      late = λ k still.
          let none = late_none s n asked k still in
          record {
            tenth = omega (arith, late_end s n asked k still);
            lost = late_lost s n asked k still;
            none = none;
            row = (at_end s n asked none).0;
          };
      only = λ none. (at_end s n asked none).1;
      untouched = λ none. (at_end s n asked none).0;
    }

-- A command under a host that gives no other: its byte times while it is Busy, and its end. Assumes nothing.
use mathlib.Core.Path.{◌≡◌, sym, ◌∙◌}
use mathlib.Core.Bool.{Bool, true, false, true≢false}
use mathlib.Core.List.{List}
use Prim.Native.Nat.{ℕ, suc, ◌≤◌, ◌<◌}
use native.Mathlib.Decide.{dec_lt}
use native.Mathlib.Omega.{arith}
use lib.Dec.{leb}
use borrow.Author.Tests.{leb-true, le-leb}
use Rattle.activity.specs.Limits.{busy_in}
use Rattle.hosts.specs.Hosts.{Host, Desk, at, BusyAt, AloneUntil, EndsAt}
use Rattle.hosts.proofs.Views.{Outside, outside_at, Calm}
use Rattle.hosts.proofs.Refused.{ends_done}

-- Its byte times while it is Busy are done over such rows as they may be lent: those with no cell above 511, or, of a command
-- that ends by itself, all that it meets. That it has not ended goes on from one byte time to the next.
pub record Going (Rows : List ℕ → Type 0) (h : Host) (d : Desk) : Type 0 where
  pub within : ℕ → Bool
  pub next : (k : ℕ) → within k ≡ true → BusyAt h d k → within (suc k) ≡ true
  pub calm : (k : ℕ) → within k ≡ true → BusyAt h d k → Rows (at h d k).row → Calm h d k

pub record Course (Rows : List ℕ → Type 0) : Type 0 where
  pub host : Host
  pub desk : Desk
  pub going : Going Rows host desk

-- the desk as k byte times have passed, and what byte time k sees beside the view
abbrev pub desk_at : {Rows : List ℕ → Type 0} → Course Rows → ℕ → Desk
desk_at c k = at c.host c.desk k

abbrev pub beside_at : {Rows : List ℕ → Type 0} → Course Rows → ℕ → Outside
beside_at c k = outside_at c.host c.desk k

-- Busy as k byte times have passed, over this row
pub record Lasts {Rows : List ℕ → Type 0} (c : Course Rows) (row : List ℕ) (k : ℕ) : Type 0 where
  pub busy : BusyAt c.host c.desk k
  pub same : (at c.host c.desk k).row ≡ row

-- ---- the end

-- it ends once
pub ends_once : (h : Host) (d : Desk) (n k : ℕ) → EndsAt h d n → EndsAt h d k → n ≡ k
ends_once h d n k x y = by (dec_lt n k) (dec_lt k n)
  where
    by : Dec (n < k) → Dec (k < n) → n ≡ k
    by (yes l) other = absurd (true≢false (sym (y.busy n l) ∙ x.over))
    by (no l) (yes m) = absurd (true≢false (sym (x.busy k m) ∙ y.over))
    by (no l) (no m) = omega arith

module _ (h : Host) (d : Desk) (n : ℕ) (ends : EndsAt h d n) where
  -- while it is Busy it has not ended
  pub busy_inside : (k : ℕ) → k ≤ n → BusyAt h d k → k < n
  busy_inside k l busy = by (dec_lt k n)
    where
      by : Dec (k < n) → k < n
      by (yes m) = m
      by (no m) =
          let e : n ≡ k = omega arith in
          absurd (true≢false (sym busy ∙ (rw e at ends.over)))

  -- and where Busy goes off it has
  pub ends_there : (k : ℕ) → k ≤ n → BusyAt h d k → busy_in (at h d (suc k)).machine.activity ≡ false → suc k ≡ n
  ends_there k l busy off = by (dec_lt (suc k) n)
    where
      by : Dec (suc k < n) → suc k ≡ n
      by (yes m) = absurd (true≢false (sym (ends.busy (suc k) m) ∙ off))
      by (no m) = omega (arith, busy_inside k l busy)

-- none of its byte times is refused, whatever it is lent
abbrev pub AnyRow : List ℕ → Type 0
AnyRow row = Unit {0}

module _ (h : Host) (d : Desk) (n : ℕ) (alone : AloneUntil h d n) (ends : EndsAt h d n) where
  pub ended_calm : (k : ℕ) → k < n → Calm h d k
  ended_calm k l = record { quiet = alone k l; done = ends_done h d n alone ends k l }

  inside : (k : ℕ) → leb k n ≡ true → BusyAt h d k → k < n
  inside k l = busy_inside h d n ends k (leb-true k n l)

  pub ended_going : Going AnyRow h d
  ended_going =
      record {
        within = λ k. leb k n;
        next = λ k l busy. le-leb (suc k) n (inside k l busy);
        calm = λ k l busy any. ended_calm k (inside k l busy);
      }

  pub ended_within : (k : ℕ) → k ≤ n → ended_going.within k ≡ true
  unfolding ended_going
  ended_within k = le-leb k n

  pub within_ended : (k : ℕ) → ended_going.within k ≡ true → k ≤ n
  unfolding ended_going
  within_ended k = leb-true k n

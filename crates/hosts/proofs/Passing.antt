-- What passes from a view on: the cells, and the index pulses among them. Assumes nothing.
use mathlib.Core.Path.{◌≡◌, refl, sym, ap, ◌∙◌}
use mathlib.Core.Bool.{Bool, true, false, cond}
use Prim.Native.Nat.{ℕ, suc, ◌+◌, ◌<◌}
use native.Mathlib.Nat.{mod-lt}
use native.Mathlib.Omega.{arith}
use lib.Dec.{ltb, eqb}
use lib.ListN.{length, get_or}
use borrow.Author.Tests.{lt-ltb}
use Rattle.activity.specs.declared.Activity.{Activity}
use Rattle.search.specs.Search.{pulses_seen}
use Rattle.fields.specs.Rings.{cells_of}
use Rattle.reachable.specs.ByteTimes.{turns_on}
use Rattle.reachable.proofs.Counts.{turns_position}
use Rattle.hosts.specs.Tracks.{position_at, passing, pulses_in}
use Rattle.hosts.proofs.RingLaws.{turns_length}
use Rattle.hosts.proofs.Views.{View}
use Rattle.hosts.proofs.Phases.{stands}

-- the stream of cells, and the pulses among the first n
abbrev pub stream_from : View → ℕ → ℕ
stream_from v = passing v.row v.ring.position

abbrev pub pulses_from : View → ℕ → ℕ
pulses_from v = pulses_in (length v.row) v.ring.position

-- the row is as long as the ring, and the head is on it
pub record OnTrack (v : View) : Type 0 where
  pub whole : length v.row ≡ v.ring.length
  pub inside : v.ring.position < v.ring.length

module _ (v : View) (on : OnTrack v) where
  pub head_inside : v.ring.position < length v.row
  head_inside = omega (arith, on.whole, on.inside)

  -- the head is where the stream says
  pub place : (n : ℕ) → (turns_on n v.ring).position ≡ position_at (length v.row) v.ring.position n
  place n =
      turns_position n v.ring on.inside
      ∙ ap (λ (size : ℕ). position_at size v.ring.position n) (sym on.whole)

  pub cell_at : (n : ℕ) → get_or v.row (turns_on n v.ring).position 0 ≡ stream_from v n
  unfolding passing cells_of
  cell_at n = ap (λ (p : ℕ). get_or v.row p 0) (place n)

  -- so it is n byte times on
  pub on_track : (n : ℕ) (missing : Bool) (a : Activity) → OnTrack (stands v n missing a)
  on_track n missing a =
      record {
        whole = on.whole ∙ sym (turns_length n v.ring);
        inside =
            rw (turns_position n v.ring on.inside, turns_length n v.ring)
            (mod-lt (v.ring.position + n) (omega (arith, on.inside)));
      }

  -- a pulse more, with so many counted before
  pub pulses_on :
      (counted n : ℕ)
      → counted + pulses_from v n < 5
      → pulses_seen (counted + pulses_from v n) (eqb (turns_on n v.ring).position 0) ≡ counted + pulses_from v (suc n)
  unfolding pulses_seen pulses_in
  pulses_on counted n few = rw (place n) (by (eqb (position_at (length v.row) v.ring.position n) 0))
    where
      by :
          (pulse : Bool)
          → cond pulse (cond (ltb (counted + pulses_from v n) 5) (counted + pulses_from v n + 1) 5) (counted + pulses_from v n)
          ≡ counted + cond pulse (suc (pulses_from v n)) (pulses_from v n)
      by true = rw (lt-ltb (counted + pulses_from v n) 5 few) (omega arith)
      by false = refl

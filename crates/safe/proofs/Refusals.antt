-- The conditions of document 01's table "Numbers handed back" against the tests that the definitions of the calls make.
-- Assumes nothing.
use mathlib.Core.Path.{◌≡◌, refl, ap, subst, ◌∙◌}
use mathlib.Core.Bool.{Bool, true, false, cond, ◌&&◌, ◌||◌}
use mathlib.Core.Logic.{◌⊎◌, inl, inr, ⊎_elim}
use Prim.Native.Nat.{ℕ, ◌%◌, ◌≤◌, ◌<◌}
use native.Mathlib.Omega.{arith}
use lib.Dec.{leb, ltb, eqb}
use borrow.Author.Tests.{leb-true, ltb-true, ltb-false, eqb-true, eqb-false, le-leb, eq-eqb}
use Rattle.common.proofs.Cases.{never, both, neither, all}
use Rattle.scan.specs.Rows.{length_within}
use Rattle.scan.proofs.Rows.{within_least, within_most, row_without}
use Rattle.command.specs.Commands.{decoded_by_both, decoded_with_u, taken_or, decoded_of, within}
use Rattle.command.specs.declared.Chip.{Chip}
use Rattle.command.specs.declared.Chip.TheVariants.{Wd1793, Wd1797}
use Rattle.command.specs.declared.Command.{Command}
use Rattle.command.specs.declared.Command.TheVariants.{Restore, Seek, Step, StepIn, StepOut, ReadSector, WriteSector, ReadAddress, WriteTrack, ForceInterrupt}
use Rattle.std.specs.Prelude.{Option, Some, None}
use Rattle.registers.specs.Registers.{guarded}
use Rattle.wd.specs.declared.Machine.{Machine}
use Rattle.wd.specs.Machines.{valid_of}
use Rattle.wd.proofs.Valid.{Held}
use Rattle.reachable.specs.Limits.{EachCount, Within}
use Rattle.reachable.proofs.Valid.{Valid}
use Rattle.reachable.proofs.Within.{valid_exactly}
use Rattle.safe.specs.Demand1.{Between, OutOfRange, Invalid, position, range, count, Guarded, tr, sr, command, TakenByBoth, TakenWithU, IsCommand, InTurn, Given}

-- ---- in turn

-- a turn that has its condition, and no earlier one has
pub first_turn : (number_at : ℕ → ℕ) (Turn : ℕ → Type 0) (t : ℕ)
    → 0 < number_at t
    → Turn t
    → ((s : ℕ) → Turn s → t ≤ s)
    → InTurn number_at Turn (number_at t)
first_turn number_at Turn t some here least =
    record {
      exactly = λ k above. (
        λ e. (t, e, here, λ s low turn. let h = least s turn in omega arith),
        λ (s, tells, there, earlier). ap number_at (by s (least s there) earlier (ltb t s) refl) ∙ tells,
      );
      done = (λ e. absurd (omega arith), λ none. absurd (none t here));
    }
  where
    by : (s : ℕ) → t ≤ s → ((r : ℕ) → r < s → Turn r → ⊥) → (b : Bool) → ltb t s ≡ b → t ≡ s
    by s h earlier true e = absurd (earlier t (ltb-true t s e) here)
    by s h earlier false e = let g = ltb-false t s e in omega arith

pub nothing : {number_at : ℕ → ℕ} (Turn : ℕ → Type 0) → ((s : ℕ) → Turn s → ⊥) → InTurn number_at Turn 0
nothing Turn none =
    record {
      exactly = λ k above. (λ e. absurd (omega arith), λ (s, tells, there, earlier). absurd (none s there));
      done = (λ e. none, λ h. refl);
    }

pub lowest : (Row : ℕ → Type 0) (n : ℕ) → 0 < n → Row n → ((j : ℕ) → Row j → n ≤ j) → Given Row n
lowest = first_turn (λ t. t)

-- the condition of the number that is given
pub given_row : {Row : ℕ → Type 0} {number : ℕ} → Given Row number → (k : ℕ) → 0 < k → number ≡ k → Row k
given_row {Row} given k some e = let (t, told, here, earlier) = (given.exactly k some).0 e in subst Row told here

-- ---- the conditions

pub between : {first last n : ℕ} → within first last n ≡ true → Between first last n
between {first} {last} {n} e = let h = both (leb first n) (leb n last) e in (leb-true first n h.0, leb-true n last h.1)

inside : {first last n : ℕ} → Between first last n → within first last n ≡ true
inside (low, high) = all (le-leb _ _ low) (le-leb _ _ high)

pub outside : {first last n : ℕ} → within first last n ≡ false → Between first last n → ⊥
outside e b = let h = inside b in never (cc)

-- 1: the range that the statements say is the one that the calls ask
pub in_range : (size : ℕ) → length_within size ≡ true → OutOfRange size → ⊥
in_range size e out = out (within_least size e, within_most size e)

pub out_of_range : (size : ℕ) → length_within size ≡ false → OutOfRange size
out_of_range size e (least, most) = row_without size e least most

-- 2
pub invalid : (m : Machine) → valid_of m ≡ false → Invalid m
invalid m e = by (ltb m.ring.position m.ring.length) refl (length_within m.ring.length) refl
  where
    by : (b : Bool) → ltb m.ring.position m.ring.length ≡ b → (c : Bool) → length_within m.ring.length ≡ c
        → Invalid m
    by false p c r = position (ltb-false _ _ p)
    by true p false r = range (out_of_range _ r)
    by true p true r =
        count (λ each.
        let held : Held m.ring = record { least = within_least _ r; most = within_most _ r; inside = ltb-true _ _ p } in
        let v = (valid_exactly m).1 (held, each) in
        never (cc))

pub valid : (m : Machine) → Valid m → Invalid m → ⊥
valid m v = by ((valid_exactly m).0 v)
  where
    by : Held m.ring × EachCount (Within m.activity) → Invalid m → ⊥
    by (held, each) (position high) = let h = held.inside in omega arith
    by (held, each) (range out) = out (held.least, held.most)
    by (held, each) (count above) = above each

-- 6, but for Busy
pub is_guarded : (number b : ℕ) → Guarded number b → guarded number b ≡ true
unfolding guarded
is_guarded number b (tr e) = simp (eq-eqb _ _ e)
is_guarded number b (sr e) = simp (e)
is_guarded number b (command e out) = by (within 0xD0 0xDF b) refl
  where
    by : (c : Bool) → within 0xD0 0xDF b ≡ c → guarded number b ≡ true
    by true h = absurd (out (between h))
    by false h = simp (e, h)

pub guards : (number b : ℕ) → guarded number b ≡ true → Guarded number b
unfolding guarded
guards number b g = by (eqb number 1) refl (eqb number 2) refl (eqb number 0) refl
  where
    by : (one : Bool) → eqb number 1 ≡ one → (two : Bool) → eqb number 2 ≡ two → (none : Bool) → eqb number 0 ≡ none
        → Guarded number b
    by true e two f none h = tr (eqb-true _ _ e)
    by false e true f none h = sr (eqb-true _ _ f)
    by false e false f true h = command (eqb-true _ _ h) (λ forced. let i = inside forced in never (cc))
    by false e false f false h = never (cc)

-- 7: the decoding takes a byte exactly when it is an X
pub data Takes (X : Type 0) : Option Command → Type 0 where
  takes : (c : Command) → X → Takes X (Some c)
  refuses : (X → ⊥) → Takes X None

-- one test more in front
or_else : {A B : Type 0} {d : Option Command} (c : Command) (t : Bool)
    → (t ≡ true → A)
    → (t ≡ false → A → ⊥)
    → Takes B d
    → Takes (A ⊎ B) (cond t (Some c) d)
or_else c true held out rest = takes c (inl (held refl))
or_else c false held out (takes c' x) = takes c' (inr x)
or_else c false held out (refuses none) = refuses (⊎_elim (out refl) none)

at_last : {A : Type 0} (c : Command) (t : Bool)
    → (t ≡ true → A)
    → (t ≡ false → A → ⊥)
    → Takes A (cond t (Some c) None)
at_last c true held out = takes c (held refl)
at_last c false held out = refuses (out refl)

one_of : {n j k : ℕ} → (eqb n j || eqb n k) ≡ true → (n ≡ j) ⊎ (n ≡ k)
one_of {n} {j} {k} e = by (eqb n j) refl
  where
    by : (b : Bool) → eqb n j ≡ b → (n ≡ j) ⊎ (n ≡ k)
    by true h = inl (eqb-true _ _ h)
    by false h = inr (eqb-true n k (rw h at e))

none_of : {n j k : ℕ} → (eqb n j || eqb n k) ≡ false → (n ≡ j) ⊎ (n ≡ k) → ⊥
none_of {n} {j} {k} e (inl h) = eqb-false n j (neither (eqb n j) (eqb n k) e).0 h
none_of {n} {j} {k} e (inr h) = eqb-false n k (neither (eqb n j) (eqb n k) e).1 h

-- "Commands: ..": document 01's list is the decoding's
by_both : (b : ℕ) → Takes (TakenByBoth b) (decoded_by_both b)
unfolding decoded_by_both
by_both b =
    or_else Restore (within 0x00 0x0F b) between outside
    (or_else Seek (within 0x10 0x1F b) between outside
    (or_else Step (within 0x20 0x3F b) between outside
    (or_else StepIn (within 0x40 0x5F b) between outside
    (or_else StepOut (within 0x60 0x7F b) between outside
    (or_else ReadSector (within 0x80 0x9E b && eqb (b % 2) 0) even uneven
    (or_else WriteSector (within 0xA0 0xBF b) between outside
    (or_else ReadAddress (eqb b 0xC0 || eqb b 0xC4) one_of none_of
    (or_else WriteTrack (eqb b 0xF0 || eqb b 0xF4) one_of none_of
    (at_last ForceInterrupt (within 0xD0 0xDF b) between outside)))))))))
  where
    even : (within 0x80 0x9E b && eqb (b % 2) 0) ≡ true → Between 0x80 0x9E b × (b % 2 ≡ 0)
    even e = let h = both (within 0x80 0x9E b) (eqb (b % 2) 0) e in (between h.0, eqb-true _ _ h.1)

    uneven : (within 0x80 0x9E b && eqb (b % 2) 0) ≡ false → Between 0x80 0x9E b × (b % 2 ≡ 0) → ⊥
    uneven e (row, half) = let h = all (inside row) (eq-eqb (b % 2) 0 half) in never (cc)

-- "C2, C6, .. F2, F6 become commands for this chip only"
with_u : (chip : Chip) (b : ℕ) → Takes (TakenWithU chip b) (decoded_with_u chip b)
unfolding decoded_with_u
with_u Wd1793 b = refuses (λ none. none)
with_u Wd1797 b =
    or_else ReadAddress (eqb b 0xC2 || eqb b 0xC6) one_of none_of
    (at_last WriteTrack (eqb b 0xF2 || eqb b 0xF6) one_of none_of)

either : {A B : Type 0} {d other : Option Command} → Takes A d → Takes B other → Takes (A ⊎ B) (taken_or other d)
either (takes c x) rest = takes c (inl x)
either (refuses none) (takes c x) = takes c (inr x)
either (refuses none) (refuses none_else) = refuses (⊎_elim none none_else)

-- what a chip takes is what both take, or else what it takes alone
pub named : (chip : Chip) (b : ℕ) → Takes (IsCommand chip b) (decoded_of chip b)
unfolding decoded_of
named chip b = either (by_both b) (with_u chip b)

-- Where index pulses fall on a ring, from any position on and with any number of them counted before. Assumes nothing.
use mathlib.Core.Path.{◌≡◌, ap, ◌∙◌}
use mathlib.Core.Bool.{Bool, true, false, cond}
use Prim.Native.Nat.{ℕ, zero, suc, ◌+◌, ◌-◌, ◌*◌, ◌/◌, ◌%◌, ◌≤◌, ◌<◌}
use native.Mathlib.Nat.{add-zero, zero-add, add-suc, mod-lt, mod-eq_of_lt, mod-add-div', mul-add-mod_self_right, mul-mod_left, div-eq_of_lt, div-eq_of_lt-le, div-lt_iff_lt-mul}
use native.Mathlib.Decide.{dec_lt, ℕ_discrete}
use native.Mathlib.Omega.{arith}
use lib.Dec.{eqb}
use borrow.Author.Tests.{eq-eqb, ne_eqb}
use Rattle.common.proofs.Cases.{by_cond}
use Rattle.hosts.specs.Tracks.{position_at, pulses_in}

-- ---- laps

-- the remainder and the quotient of one more
module _ (m x : ℕ) (some : 0 < m) where
  round : suc (x % m) ≡ m → (suc x % m ≡ 0) × (suc x / m ≡ suc (x / m))
  round e =
      let parts : x % m + x / m * m ≡ x = mod-add-div' x m in
      let whole : suc x ≡ suc (x / m) * m + 0 = omega arith in (
        ap (λ (n : ℕ). n % m) whole ∙ mul-add-mod_self_right (suc (x / m)) m 0 ∙ mod-eq_of_lt some,
        div-eq_of_lt-le m (omega arith) (omega arith),
      )

  further : suc (x % m) < m → (suc x % m ≡ suc (x % m)) × (suc x / m ≡ x / m)
  further h =
      let parts : x % m + x / m * m ≡ x = mod-add-div' x m in
      let whole : suc x ≡ x / m * m + suc (x % m) = omega arith in (
        ap (λ (n : ℕ). n % m) whole ∙ mul-add-mod_self_right (x / m) m (suc (x % m)) ∙ mod-eq_of_lt h,
        div-eq_of_lt-le m (omega arith) (omega arith),
      )

  -- a lap more where cell 0 comes
  laps : cond (eqb (suc x % m) 0) (suc (x / m)) (x / m) ≡ suc x / m
  laps = by (dec_lt (suc (x % m)) m)
    where
      by : Dec (suc (x % m) < m) → cond (eqb (suc x % m) 0) (suc (x / m)) (x / m) ≡ suc x / m
      by (yes h) =
          let f = further h in
          simp (f.0, f.1, ne_eqb (suc (x % m)) 0 (omega arith))
      by (no h) =
          let f = round (omega (arith, mod-lt x some)) in
          simp (f.0, f.1)

lap_more : (b : Bool) (pulses laps early then : ℕ) → pulses ≡ laps + early → cond b (suc laps) laps ≡ then
    → cond b (suc pulses) pulses ≡ then + early
lap_more true pulses laps early then e f = omega arith
lap_more false pulses laps early then e f = omega arith

-- ---- how many come

-- the pulse in the first byte time, where it is one
abbrev early : ℕ → ℕ
early from = cond (eqb from 0) 1 0

-- so many byte times pass before the pulse that `before` others come before: the rounds between them, and the way to the first
unfoldable pub pulse_time : ℕ → ℕ → ℕ → ℕ
pulse_time before size from = before * size + cond (eqb from 0) 0 (size - from)

data Start (before size from : ℕ) : Type 0 where
  at_zero : from ≡ 0 → early from ≡ 1 → pulse_time before size from ≡ before * size → Start before size from
  beyond : 0 < from → early from ≡ 0 → from + pulse_time before size from ≡ suc before * size → Start before size from

start : (before size from : ℕ) → from < size → Start before size from
unfolding pulse_time
start before size from inside = by (ℕ_discrete from 0)
  where
    by : Dec (from ≡ 0) → Start before size from
    by (yes e) = at_zero e (rw (eq-eqb from 0 e)) (rw (eq-eqb from 0 e) (omega arith))
    by (no e) = beyond (omega arith) (rw (ne_eqb from 0 e)) (rw (ne_eqb from 0 e) (omega arith))

pub pulses_step : (size from n : ℕ) → pulses_in size from n ≤ pulses_in size from (suc n)
unfolding pulses_in
pulses_step size from n =
    by_cond (λ (pulses : ℕ). pulses_in size from n ≤ pulses) (eqb (position_at size from n) 0)
    (λ pulse. omega arith)
    (λ none. omega arith)

module _ (before size from : ℕ) (inside : from < size) where
  abbrev then : ℕ
  then = pulse_time before size from

  pulses_laps : (n : ℕ) → pulses_in size from (suc n) ≡ (from + n) / size + early from
  unfolding pulses_in
  pulses_laps zero = simp (add-zero from, mod-eq_of_lt inside, div-eq_of_lt inside, zero-add (early from))
  pulses_laps (suc n) =
      lap_more (eqb ((from + suc n) % size) 0) (pulses_in size from (suc n)) ((from + n) / size) (early from)
      ((from + suc n) / size)
      (pulses_laps n)
      (rw (add-suc from n) (laps size (from + n) (omega arith)))

  -- it comes within so many rounds and one, and not in the first of them
  pub pulse_most : suc (pulse_time before size from) ≤ suc before * size
  pulse_most = by (start before size from inside)
    where
      by : Start before size from → suc then ≤ suc before * size
      by (at_zero e f g) = omega arith
      by (beyond e f g) = omega arith

  pub pulse_least : before * size ≤ pulse_time before size from
  unfolding pulse_time
  pulse_least = omega arith

  -- up to it no more than those before it have come
  pub pulses_few : (n : ℕ) → n ≤ pulse_time before size from → pulses_in size from n ≤ before
  unfolding pulses_in
  pulses_few zero h = omega arith
  pulses_few (suc n) h = rw (pulses_laps n) (by (start before size from inside))
    where
      some : 0 < size
      some = omega arith

      by : Start before size from → (from + n) / size + early from ≤ before
      by (at_zero e f g) = omega (arith, (div-lt_iff_lt-mul {x = from + n} {y = before} some).1 (omega arith))
      by (beyond e f g) = omega (arith, (div-lt_iff_lt-mul {x = from + n} {y = suc before} some).1 (omega arith))

  -- then it comes
  pub pulse_there : position_at size from (pulse_time before size from) ≡ 0
  pulse_there = by (start before size from inside)
    where
      lap : (k : ℕ) → from + then ≡ k * size → (from + then) % size ≡ 0
      lap k e = ap (λ (n : ℕ). n % size) e ∙ mul-mod_left k size

      by : Start before size from → (from + then) % size ≡ 0
      by (at_zero e f g) = lap before (omega arith)
      by (beyond e f g) = lap (suc before) g

  pub pulses_then : pulses_in size from (suc (pulse_time before size from)) ≡ suc before
  pulses_then = pulses_laps then ∙ by (start before size from inside)
    where
      by : Start before size from → (from + then) / size + early from ≡ suc before
      by (at_zero e f g) =
          let q : (from + then) / size ≡ before = div-eq_of_lt-le size (omega arith) (omega arith) in
          omega arith
      by (beyond e f g) =
          let q : (from + then) / size ≡ suc before = div-eq_of_lt-le size (omega arith) (omega arith) in
          omega arith

  pub pulses_before : pulses_in size from (pulse_time before size from) ≡ before
  unfolding pulses_in
  pulses_before =
      let more : suc (pulses_in size from then) ≡ suc before =
      rw (eq-eqb (position_at size from then) 0 pulse_there) at pulses_then in
      omega arith

  pulses_grow : (n k : ℕ) → pulses_in size from n ≤ pulses_in size from (n + k)
  pulses_grow n zero = rw (add-zero n) (omega arith)
  pulses_grow n (suc k) = rw (add-suc n k) (omega (arith, pulses_grow n k, pulses_step size from (n + k)))

  -- there is one such pulse
  pub pulse_once : (n : ℕ) → pulses_in size from n ≡ before → position_at size from n ≡ 0 → n ≡ pulse_time before size from
  unfolding pulses_in
  pulse_once n many pulse = by (dec_lt n then) (dec_lt then n)
    where
      apart : (a b : ℕ)
          → pulses_in size from a ≡ before
          → position_at size from a ≡ 0
          → pulses_in size from b ≡ before
          → a < b
          → ⊥
      apart a b e p f h =
          let more : pulses_in size from (suc a) ≡ suc before = simp (eq-eqb (position_at size from a) 0 p, e) in
          let on : suc a + (b - suc a) ≡ b = omega arith in
          let grown : pulses_in size from (suc a) ≤ pulses_in size from b = rw on at (pulses_grow (suc a) (b - suc a)) in
          omega arith

      by : Dec (n < then) → Dec (then < n) → n ≡ then
      by (yes h) other = absurd (apart n then many pulse pulses_before h)
      by (no h) (yes g) = absurd (apart then n pulses_before pulse_there many g)
      by (no h) (no g) = omega arith

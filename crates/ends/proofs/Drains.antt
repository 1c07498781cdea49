-- With HLT on a command whose byte times are counted is over when none is left. Assumes nothing.
use mathlib.Core.Path.{◌≡◌, refl, sym, ap, ◌∙◌, subst}
use mathlib.Core.Bool.{Bool, true, false}
use Prim.Native.Nat.{ℕ, zero, suc, ◌+◌, ◌≤◌, ◌<◌}
use native.Mathlib.Decide.{dec_lt}
use native.Mathlib.Omega.{arith}
use lib.ListN.{length, get_or, length-set}
use Rattle.activity.specs.Limits.{busy_in}
use Rattle.registers.specs.declared.Regs.{Regs}
use Rattle.effects.proofs.Apart.{regs_after}
use Rattle.wd.proofs.Valid.{valid_ring, next_length}
use Rattle.reachable.proofs.Valid.{Valid}
use Rattle.hosts.specs.Hosts.{Host, Desk, served_at, at, BusyAt, Undisturbed, EndsAt}
use Rattle.hosts.proofs.Views.{View, view_of, Outside, outside_at, act_in, step_of, Calm, calm_view, stays_valid, done_under}
use Rattle.hosts.proofs.ByteTimes.{regs_view}
use Rattle.hosts.proofs.DrByte.{found_byte}
use Rattle.hosts.proofs.LowRows.{LowRow, set_low}
use Rattle.ends.proofs.Left.{left_of, Counted, seeks}
use Rattle.ends.proofs.Moments.{Moment, Good}
use Rattle.ends.proofs.Falls.{acts}

module _ (h : Host) (d : Desk) where
  -- as t byte times have passed, the command is over with byte time `last` at the latest
  pub record Over (t last : ℕ) : Type 0 where
    pub end : ℕ
    pub after : t ≤ end
    pub soon : end ≤ last
    pub busy : (k : ℕ) → t ≤ k → k < end → BusyAt h d k
    pub over : busy_in (at h d end).machine.activity ≡ false

  -- it is over already
  pub over_now : (t : ℕ) {last : ℕ} → t ≤ last → busy_in (at h d t).machine.activity ≡ false → Over t last
  over_now t l e = record { end = t; after = omega arith; soon = l; busy = λ k m n. absurd (omega arith); over = e }

  -- byte times before it
  pub earlier : (t u last : ℕ) → t ≤ u → ((k : ℕ) → t ≤ k → k < u → BusyAt h d k) → Over u last → Over t last
  earlier t u last l busy o =
      record {
        end = o.end;
        after = omega (arith, o.after);
        soon = o.soon;
        busy = λ k m n. by k m n (dec_lt k u);
        over = o.over;
      }
    where
      by : (k : ℕ) → t ≤ k → k < o.end → Dec (k < u) → BusyAt h d k
      by k m n (yes e) = busy k m e
      by k m n (no e) = o.busy k (omega arith) n

  pub later : {t last most : ℕ} → last ≤ most → Over t last → Over t most
  later l o =
      record { end = o.end; after = o.after; soon = omega (arith, o.soon); busy = o.busy; over = o.over }

  -- all of it
  pub over_ends : {last : ℕ} → Over 0 last → (n : ℕ) × EndsAt h d n × (n ≤ last)
  over_ends o = (o.end, record { busy = λ k l. o.busy k (omega arith) l; over = o.over }, o.soon)

-- a command under a host that gives no other and keeps HLT on while it is under way
pub record Led (h : Host) (d : Desk) : Type 0 where
  pub alone : Undisturbed h d
  pub valid : Valid d.machine
  pub hlt : (n : ℕ) → BusyAt h d n → (h.lines n).hlt ≡ true
  pub dr : d.machine.regs.dr < 256

-- one that leaves DR alone meanwhile
abbrev pub Steady : Host → Desk → Type 0
Steady h d = (n : ℕ) → BusyAt h d n → (served_at h n (at h d n)).machine.regs.dr ≡ (at h d n).machine.regs.dr

module _ (h : Host) (d : Desk) (led : Led h d) (target : ℕ) where
  -- what holds after t byte times
  pub record Sound (t : ℕ) : Type 0 where
    pub whole : length (at h d t).row ≡ (at h d t).machine.ring.length
    pub low : LowRow (at h d t).row
    pub counted : Counted (at h d t).machine.order (at h d t).machine.activity
    pub aims :
        seeks (at h d t).machine.activity ≡ true
        → Steady h d × ((at h d t).machine.regs.dr ≡ target) × ((at h d t).machine.regs.tr < 256)

  abbrev pub left_in : View → ℕ
  left_in v = left_of v.order v.mfm target v.ring v.tr v.activity

  still_valid : (t : ℕ) → Valid (at h d t).machine
  still_valid = stays_valid h d led.valid

  module _ (t : ℕ) (sound : Sound t) (busy : BusyAt h d t) where
    abbrev v : View
    v = view_of (at h d t)

    abbrev o : Outside
    o = outside_at h d t

    under_low : get_or v.row v.ring.position 0 ≤ 511
    under_low =
        sound.low v.ring.position
        (omega (arith, sound.whole, (valid_ring (at h d t).machine (still_valid t)).inside))

    calm : Calm h d t
    calm =
        let quiet = led.alone t busy in
        record { quiet = quiet; done = done_under h d t quiet (still_valid t) sound.whole under_low }

    abbrev moment : Moment
    moment =
        let held = valid_ring (at h d t).machine (still_valid t) in
        record {
          target = target;
          view = v;
          outside = o;
          inside = held.inside;
          long = held.least;
          low = under_low;
          hlt = led.hlt t busy;
          dr = found_byte h d led.dr t;
        }

    good : Good moment (left_in v) (act_in v o)
    good =
        acts moment v.activity busy sound.counted
        (λ e. let aim = sound.aims e in (e, aim.0 t busy ∙ aim.1, aim.2))

    steps : view_of (at h d (suc t)) ≡ step_of v o
    steps = calm_view h d calm busy

    leaves : (at h d (suc t)).machine.regs ≡ regs_after (record { tr = v.tr; sr = v.sr; dr = o.dr }) (act_in v o).deed
    leaves = regs_view h d t calm busy

    next_falls : left_in (view_of (at h d (suc t))) < left_in v
    unfolding step_of
    next_falls = subst (λ (w : View). left_in w < left_in v) (sym steps) good.falls

    next_sound : Sound (suc t)
    unfolding step_of
    next_sound =
        record {
          whole =
              subst (λ (w : View). length w.row ≡ w.ring.length) (sym steps)
              (length-set v.row v.ring.position (act_in v o).cell ∙ sound.whole ∙ sym (next_length v.ring));
          low =
              subst (λ (w : View). LowRow w.row) (sym steps)
              (set_low v.row v.ring.position (act_in v o).cell good.low sound.low);
          counted = subst (λ (w : View). Counted w.order w.activity) (sym steps) good.counted;
          aims = λ e.
              let on : seeks (act_in v o).next ≡ true = ap (λ (w : View). seeks w.activity) (sym steps) ∙ e in
              let aim = good.aims on in (
                (sound.aims aim.0).0,
                ap (λ (r : Regs). r.dr) leaves ∙ aim.1,
                subst (λ (r : Regs). r.tr < 256) (sym leaves) aim.2,
              );
        }

  -- so it ends within the byte times that are left
  pub drains : (n t : ℕ) → Sound t → left_in (view_of (at h d t)) ≤ n → Over h d t (t + n)
  drains zero t sound enough = by (busy_in (at h d t).machine.activity) refl
    where
      by : (b : Bool) → busy_in (at h d t).machine.activity ≡ b → Over h d t (t + zero)
      by true e = absurd (omega (arith, next_falls t sound e))
      by false e = over_now h d t (omega arith) e
  drains (suc n) t sound enough =
      by (busy_in (at h d t).machine.activity) refl
      (λ e. drains n (suc t) (next_sound t sound e) (omega (arith, next_falls t sound e)))
    where
      by :
          (b : Bool)
          → busy_in (at h d t).machine.activity ≡ b
          → (BusyAt h d t → Over h d (suc t) (suc t + n))
          → Over h d t (t + suc n)
      by true e rest =
          earlier h d t (suc t) (t + suc n) (omega arith)
          (λ k m below. let same : k ≡ t = omega arith in rw same e)
          (later h d (omega arith) (rest e))
      by false e rest = over_now h d t (omega arith) e

  -- from a view on that it has come to
  pub drains_from :
      (n t : ℕ) (w : View)
      → view_of (at h d t) ≡ w
      → length w.row ≡ w.ring.length
      → LowRow w.row
      → Counted w.order w.activity
      → (seeks w.activity ≡ true → Steady h d × ((at h d t).machine.regs.dr ≡ target) × (w.tr < 256))
      → left_in w ≤ n
      → Over h d t (t + n)
  drains_from n t w here whole low counted aims enough =
      drains n t
      (record {
        whole = subst (λ (x : View). length x.row ≡ x.ring.length) (sym here) whole;
        low = subst (λ (x : View). LowRow x.row) (sym here) low;
        counted = subst (λ (x : View). Counted x.order x.activity) (sym here) counted;
        aims = λ e.
            let aim = aims (ap (λ (x : View). seeks x.activity) (sym here) ∙ e) in
            (aim.0, aim.1, subst (λ (x : View). x.tr < 256) (sym here) aim.2);
      })
      (subst (λ (x : View). left_in x ≤ n) (sym here) enough)

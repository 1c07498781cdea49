-- Each byte time of a command leaves it fewer byte times, with HLT on; the cells that it writes are none above 511.
-- Assumes nothing.
use mathlib.Core.Path.{◌≡◌, refl, sym, ◌∙◌}
use mathlib.Core.Bool.{true, false, true≢false, cond, not, ◌&&◌, ◌||◌}
use Prim.Native.Nat.{ℕ, zero, suc, ◌+◌, ◌-◌, ◌*◌, ◌%◌, ◌≤◌, ◌<◌}
use native.Mathlib.Nat.{mod-eq_of_lt}
use native.Mathlib.Omega.{arith}
use lib.Dec.{ltb, leb, eqb}
use borrow.Author.Tests.{ltb-true, ltb-false, lt-ltb, lt-leb, eqb-false, ne_eqb}
use Rattle.common.proofs.Cases.{by_cond, never}
use Rattle.crc.specs.Crc.{preset}
use Rattle.crc.proofs.Laws.{byte_below}
use Rattle.scan.specs.DataMarks.{mark_byte}
use Rattle.scan.proofs.DataMarks.{mark_byte_lem}
use Rattle.command.specs.Bits.{mark_written}
use Rattle.command.specs.Commands.{job_of}
use Rattle.command.specs.Times.{step_time_of}
use Rattle.command.specs.declared.Job.{Job}
use Rattle.command.proofs.Tables.{step_time_some}
use Rattle.activity.specs.Acts.{pass, write, taken_of}
use Rattle.activity.specs.Limits.{busy_in}
use Rattle.activity.specs.declared.Act.{Act}
use Rattle.activity.specs.declared.Activity.{Activity}
use Rattle.activity.specs.declared.Activity.TheVariants.{Idle, Settle, Await, Format}
use Rattle.activity.specs.declared.Deed.{Deed}
use Rattle.stepping.specs.Stepping.{track_after}
use Rattle.search.specs.Search.{pulses_seen, after_match, after_record}
use Rattle.writing.specs.Writing.{last_kept, last_zero, mark_place, mark_cell, preamble_cell}
use Rattle.formatting.specs.Formatting.{presets, laid_cell, laid_crc}
use Rattle.act.specs.Turns.{format_begun, job_begun, act_of}
use Rattle.act.proofs.Acts.{StopsIn, Passes, Writes, Acts, Enters, enters, turns}
use Rattle.registers.specs.Rings.{ring_next}
use Rattle.effects.specs.Effects.{stepped, effect_of}
use Rattle.effects.proofs.Apart.{regs_after}
use Rattle.hosts.proofs.DataFields.{mark_word}
use Rattle.ends.specs.Ends.{apart}
use Rattle.ends.proofs.Left.{Next, to_start, onward, next_place, to_fifth, verify_left, begun_left, down, to_end, left_of, Plain, verifies, writes_track, Counted, seeks, fifth_most, fifth_some, fifth_nearer}
use Rattle.ends.proofs.Moments.{Moment, ring_at, mfm_at, order_at, seen_at, regs_at, left, left_after, Aims, Low, Word, Good, writes, passes, ends, more_left, size, some, index, taken_byte}

-- "TR moves by one towards DR"
nearer : (tr dr : ℕ) → tr < 256 → dr < 256 → (tr ≡ dr → ⊥) → suc (apart (track_after true (ltb tr dr) tr) dr) ≡ apart tr dr
unfolding track_after apart
nearer tr dr low high other =
    by_cond (λ n. suc (apart n dr) ≡ apart tr dr) (ltb tr dr)
    (λ e.
    let less : tr < dr = ltb-true _ _ e in
    let moved : (tr + 1) % 256 ≡ tr + 1 = mod-eq_of_lt (omega arith) in
    rw moved (omega arith))
    (λ e.
    let more : dr ≤ tr = ltb-false _ _ e in
    let moved : (tr + 255) % 256 ≡ tr - 1 = omega arith in
    rw moved (omega arith))

module _ (x : Moment) where
  -- ---- what is left

  -- Type I stops with its verify still to come
  stops_left : {a : Activity} → StopsIn a → Counted (order_at x) a
      → (job_of (order_at x).command ≡ Job.Verify) × (verify_left (order_at x) (mfm_at x) (ring_at x).length < left x a)
  unfolding left_of Counted
  stops_left StopsIn.seek counted = (counted, omega arith)
  stops_left StopsIn.pulse counted = (counted, omega arith)
  stops_left StopsIn.stop counted = (counted, omega arith)

  step_time : down (step_time_of (mfm_at x) (order_at x).byte) ≡ step_time_of (mfm_at x) (order_at x).byte
  step_time = omega (arith, step_time_some (mfm_at x) (order_at x).byte)

  fifth_left : (n : ℕ) → 0 < to_fifth n (ring_at x)
  fifth_left = fifth_some (ring_at x) x.inside (some x)

  fifth_falls : (n : ℕ) → pulses_seen n (index x) < 5 → to_fifth (pulses_seen n (index x)) (ring_next (ring_at x)) < to_fifth n (ring_at x)
  fifth_falls n few = fifth_nearer (ring_at x) x.inside (some x) n (lt-leb 5 _ few)

  await_falls : index x ≡ false → left_after x Deed.Nothing Await < left x Await
  unfolding left_of
  await_falls off = by (next_place (ring_at x) x.inside)
    where
      by : Next (ring_at x) → left_after x Deed.Nothing Await < left x Await
      by (to_start e there) = rw (there, off) (omega arith)
      by (onward e there) = rw (there, off, ne_eqb (suc (ring_at x).position) 0 (omega arith)) (omega arith)

  -- a cell of a Write Track, of which the last ends it
  track_falls : (cell : ℕ) (next : Activity) (deed : Deed) → cell ≤ 511 → Counted (order_at x) next → seeks next ≡ false
      → left_after x deed next ≡ to_end (ring_next (ring_at x))
      → Good x (to_end (ring_at x)) (write cell (cond (seen_at x).last Idle next) deed)
  unfolding left_of Counted seeks ring_next
  track_falls cell next deed low counted still is =
      by_cond (λ a. Good x (to_end (ring_at x)) (write cell a deed)) (seen_at x).last
      (λ e. writes x _ cell Idle deed low (omega (arith, x.inside)) tt refl)
      (λ e.
      let there : to_end (ring_next (ring_at x)) < to_end (ring_at x) = simp (lt-ltb _ _ x.inside, e) (omega (arith, x.inside)) in
      writes x _ cell next deed low (omega (arith, is)) counted still)

  -- ---- what is written

  mark_low : mark_byte (mark_written (order_at x).byte) < 256
  mark_low = omega (arith, (mark_byte_lem (mark_written (order_at x).byte)).1)

  preamble_low : (n : ℕ) → preamble_cell (mfm_at x) n (mark_byte (mark_written (order_at x).byte)) (seen_at x).cell ≤ 511
  unfolding preamble_cell mark_cell
  preamble_low n =
      by_cond Low (leb n (last_kept (mfm_at x))) (λ e. x.low)
      (λ e.
      by_cond Low (leb n (last_zero (mfm_at x))) (λ f. omega arith)
      (λ f.
      by_cond Low (ltb n (mark_place (mfm_at x))) (λ g. omega arith)
      (λ g. by_cond Low (mfm_at x) (λ m. omega (arith, mark_low)) (λ m. omega (arith, mark_low)))))

  laid_low : (b : ℕ) → b < 256 → laid_cell (mfm_at x) b ≤ 511
  unfolding laid_cell
  laid_low b h =
      by_cond Low (mfm_at x)
      (λ m. by_cond Low (eqb b 0xF5) (λ e. omega arith) (λ e. by_cond Low (eqb b 0xF6) (λ f. omega arith) (λ f. omega arith)))
      (λ m. by_cond Low (presets b || eqb b 0xFC) (λ e. omega arith) (λ e. omega arith))

  laid_word : (crc b : ℕ) → crc < 65536 → b < 256 → laid_crc (mfm_at x) crc b < 65536
  unfolding laid_crc
  laid_word crc b word h =
      by_cond Word (mfm_at x)
      (λ m.
      by_cond Word (eqb b 0xF5) (λ e. omega arith)
      (λ e. by_cond Word (eqb b 0xF6) (λ f. byte_below crc 0xC2 word (omega arith)) (λ f. byte_below crc b word h)))
      (λ m. by_cond Word (presets b) (λ e. byte_below preset b (omega arith) h) (λ e. byte_below crc b word h))

  -- ---- each act

  passed : {a next : Activity} {deed : Deed} → Passes (order_at x) (seen_at x) a next deed
      → busy_in a ≡ true
      → (a ≡ Settle 0 → ⊥)
      → Counted (order_at x) a
      → (seeks a ≡ true → Aims x (regs_at x))
      → Good x (left x a) (pass (seen_at x) next deed)
  unfolding left_of busy_in Counted seeks after_match begun_left track_after regs_after effect_of stepped
  passed Passes.idles busy _ _ _ = never (cc)
  passed (Passes.seek_waits more) _ _ counted aims =
      record { falls = rw (size x) (omega arith); counted = counted; low = x.low; aims = λ on. aims refl }
  passed (Passes.seek_steps other) _ _ counted aims =
      let aim = aims refl in
      let near = nearer x.view.tr x.outside.dr aim.2 x.dr other in
      record {
        falls = rw (size x, ← aim.1, ← near, step_time) (omega arith);
        counted = counted;
        low = x.low;
        aims = λ on. (aim.0, aim.1, by_cond (λ n. n < 256) (ltb x.view.tr x.outside.dr) (λ e. omega arith) (λ e. omega arith));
      }
  passed Passes.pulse_steps _ _ counted _ = passes x _ _ _ (rw (size x, step_time) (omega arith)) counted refl
  passed (Passes.stop_waits more) _ _ counted _ = passes x _ _ _ (rw (size x) (omega arith)) counted refl
  passed (Passes.stop_fails st) _ _ counted _ = ends x _ _ (omega (arith, stops_left st counted))
  passed (Passes.stop_verifies st on) _ _ counted _ =
      let (verifying, more) = stops_left st counted in
      passes x _ _ _ (rw (verifying, size x) (rw on at more)) (rw verifying verifies) refl
  passed (Passes.stop_halts st) _ _ counted _ = ends x _ _ (omega (arith, stops_left st counted))
  passed (Passes.settles {n = zero}) _ unsettled _ _ = absurd (unsettled refl)
  passed (Passes.settles {n = suc n}) _ _ counted _ = passes x _ _ _ (rw (size x) (omega arith)) counted refl
  passed (Passes.search_fails {n}) _ _ _ _ = ends x _ _ (fifth_left n)
  passed (Passes.search_goes_on {n} few e) _ _ counted _ = passes x _ _ _ (fifth_falls n few) counted refl
  passed (Passes.bad_match {n} few) _ _ counted _ = passes x _ _ _ (fifth_falls n few) counted refl
  passed (Passes.good_match {n} id) _ _ counted _ = rw counted (ends x _ _ (fifth_left n))
  passed Passes.mark_met _ _ counted _ = passes x _ _ _ (omega arith) counted refl
  passed (Passes.window_goes_on less e) _ _ counted _ = passes x _ _ _ (omega arith) counted refl
  passed Passes.window_fails _ _ _ _ = ends x _ _ (omega arith)
  passed (Passes.data_byte e) _ _ counted _ = passes x _ _ _ (omega arith) counted refl
  passed (Passes.data_crc e) _ _ counted _ = passes x _ _ _ (omega arith) counted refl
  passed Passes.record_over _ _ _ _ = ends x _ _ (omega arith)
  passed (Passes.record_follows_lem on) _ _ single _ = absurd (true≢false (sym on ∙ single))
  passed Passes.hunt_fails _ _ counted _ = absurd counted
  passed (Passes.hunt_goes_on few e) _ _ counted _ = absurd counted
  passed Passes.id_met _ _ counted _ = absurd counted
  passed (Passes.address_byte e) _ _ _ _ = passes x _ _ _ (omega arith) tt refl
  passed Passes.address_over _ _ _ _ = ends x _ _ (omega arith)
  passed (Passes.await_goes_on off) _ _ counted _ = passes x _ Await Deed.Nothing (await_falls off) counted refl
  passed (Passes.await_fails on) _ _ _ _ = ends x _ _ (rw on (omega (arith, x.long)))
  passed Passes.preamble_fails _ _ _ _ = ends x _ _ (omega arith)

  written : {a next : Activity} {deed : Deed} {cell : ℕ} → Writes (order_at x) (seen_at x) a cell next deed
      → Counted (order_at x) a
      → Good x (left x a) (write cell next deed)
  unfolding left_of Counted seeks after_record
  written (Writes.preamble_goes_on {n} less) single = writes x _ _ _ _ (preamble_low (n + 1)) (omega arith) single refl
  written (Writes.mark_put {n}) single =
      writes x _ _ _ _ (preamble_low (n + 1)) (omega arith) (single, mark_word (mfm_at x) _ mark_low) refl
  written (Writes.byte_put {crc} more) counted =
      writes x _ _ _ _ (omega (arith, taken_byte x)) (omega arith)
      (counted.0, byte_below crc (taken_of (seen_at x)) counted.1 (taken_byte x)) refl
  written (Writes.high_put e) counted = writes x _ _ _ _ (omega (arith, counted.1)) (omega arith) counted refl
  written (Writes.low_put e) counted = writes x _ _ _ _ (omega arith) (omega arith) counted refl
  written Writes.record_put counted = rw counted.0 (writes x _ 0xFF Idle _ (omega arith) (omega arith) tt refl)
  written Writes.high_laid word = track_falls _ _ _ (omega arith) word refl refl
  written (Writes.byte_laid {crc}) word =
      track_falls _ _ _ (laid_low (taken_of (seen_at x)) (taken_byte x)) (laid_word crc (taken_of (seen_at x)) word (taken_byte x)) refl
      refl
  written Writes.low_laid word = track_falls _ _ _ (omega arith) (omega arith) refl refl

  -- ---- a byte time

  -- from cell 1 on it takes the longest
  await_most : left x Await ≤ 2 * (ring_at x).length - 1
  unfolding left_of
  await_most =
      by_cond (λ n. n ≤ 2 * (ring_at x).length - 1) (index x) (λ on. omega (arith, x.long))
      (λ off. omega (arith, eqb-false (ring_at x).position 0 off, x.inside))

  -- what can act, with so many byte times left
  abbrev Comes : ℕ → Activity → Type 0
  Comes most a =
      (left x a ≤ most) × (busy_in a ≡ true) × (a ≡ Settle 0 → ⊥) × Counted (order_at x) a × (seeks a ≡ true → Aims x (regs_at x))

  later : {n most : ℕ} {a : Activity} → n ≤ most → Comes n a → Comes most a
  later l c = (omega (arith, c.0), c.1, c.2, c.3, c.4)

  enough : to_end (ring_at x) ≤ left x Await
  unfolding left_of
  enough = by_cond (λ n. to_end (ring_at x) ≤ n) (index x) (λ on. omega arith) (λ off. omega arith)

  -- a Write Track, at the first pulse
  opens : Comes (left x Await) (Format preset)
  unfolding left_of busy_in Counted seeks
  opens = (enough, refl, (λ f. never (cc)), omega arith, λ f. never (cc))

  begins : {j : Job} → job_of (order_at x).command ≡ j → Plain j → Comes (begun_left j (ring_at x).length) (job_begun (seen_at x) j)
  unfolding format_begun job_begun left_of busy_in Counted seeks begun_left
  begins e verifies =
      (fifth_most (ring_at x) x.inside (some x), refl, (λ f. never (cc)), e, λ f. never (cc))
  begins e writes_track =
      later await_most
      (by_cond (Comes (left x Await)) (index x && not x.outside.drq) (λ on. opens)
      (λ off. (omega arith, refl, (λ f. never (cc)), tt, λ f. never (cc))))

  entered : {a acting : Activity} → Enters (order_at x) (seen_at x) a acting → busy_in a ≡ true → Counted (order_at x) a
      → (seeks a ≡ true → Aims x (regs_at x))
      → Comes (left x a) acting
  unfolding left_of Counted
  entered (Enters.goes_on a f) busy counted aims =
      (omega arith, busy, (λ e. never (cc (f e, x.hlt))), counted, aims)
  entered (Enters.settled {n}) busy counted aims = later (omega arith) (begins refl counted)
  entered Enters.opened busy counted aims = opens

  good : {a : Activity} {act : Act} → Acts (order_at x) (seen_at x) a act → {most : ℕ} → Comes most a → Good x most act
  good (Acts.passes p) c = more_left x c.0 (passed p c.1 c.2 c.3 c.4)
  good (Acts.writes e w) c = more_left x c.0 (written w c.3)

  pub acts : (a : Activity) → busy_in a ≡ true → Counted (order_at x) a → (seeks a ≡ true → Aims x (regs_at x))
      → Good x (left x a) (act_of (order_at x) (seen_at x) a)
  acts a busy counted aims =
      good (turns (order_at x) (seen_at x) a) (entered (enters (order_at x) (seen_at x) a) busy counted aims)

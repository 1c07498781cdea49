-- How many byte times a command has left at most, by what it is doing. A search for Read Sector, Write Sector or Read Address
-- is not among it: how long that takes depends on the track. Assumes nothing.
use mathlib.Core.Path.{◌≡◌, refl, ap}
use mathlib.Core.Bool.{Bool, true, false, cond}
use Prim.Native.Nat.{ℕ, suc, ◌+◌, ◌-◌, ◌*◌, ◌≤◌, ◌<◌}
use native.Mathlib.Decide.{ℕ_discrete}
use native.Mathlib.Omega.{arith}
use lib.Dec.{ltb, leb, eqb}
use borrow.Author.Tests.{eqb-true, eqb-false, leb-false, lt-ltb, eq-eqb, ne_eqb}
use Rattle.common.proofs.Cases.{never}
use Rattle.command.specs.Bits.{is_multiple, verifies_track}
use Rattle.command.specs.Commands.{job_of}
use Rattle.command.specs.Times.{step_time_of, settle_time_of}
use Rattle.command.specs.declared.Order.{Order}
use Rattle.command.specs.declared.Job.{Job}
use Rattle.command.specs.declared.Job.TheVariants as job
use Rattle.activity.specs.declared.Activity.{Activity}
use Rattle.activity.specs.declared.Activity.TheVariants.{Idle, Seek, Pulse, Stop, Settle, Search, Window, Data, Hunt, Address, Await, Preamble, Put, Format, FormatCrc}
use Rattle.search.specs.Search.{pulses_seen}
use Rattle.scan.specs.DataMarks.{window_of}
use Rattle.writing.specs.Writing.{mark_place}
use Rattle.registers.specs.declared.Ring.{Ring}
use Rattle.registers.specs.Rings.{ring_next}
use Rattle.wd.proofs.Valid.{next_length}
use Rattle.ends.specs.Ends.{apart}

-- ---- the ring

-- where the head goes in a byte time
pub data Next (r : Ring) : Type 0 where
  to_start : suc r.position ≡ r.length → ring_next r ≡ record { length = r.length; position = 0 } → Next r
  onward :
      suc r.position < r.length → ring_next r ≡ record { length = r.length; position = suc r.position } → Next r

pub next_place : (r : Ring) → r.position < r.length → Next r
unfolding ring_next
next_place r inside = by (ℕ_discrete (r.position + 1) r.length)
  where
    by : Dec (r.position + 1 ≡ r.length) → Next r
    by (yes e) = to_start (omega arith) (simp (lt-ltb _ _ inside, eq-eqb _ _ e))
    by (no e) =
        onward (omega arith)
        (simp (lt-ltb _ _ inside, ne_eqb _ _ e)
        (ap (λ (p : ℕ). record { length = r.length; position = p }) (omega arith)))

-- the byte times to the next index pulse, that one too
unfoldable pub to_pulse : Ring → ℕ
to_pulse r = cond (eqb r.position 0) 1 (suc (r.length - r.position))

-- and to the fifth of a search that has seen so many
unfoldable pub to_fifth : ℕ → Ring → ℕ
to_fifth pulses r = (4 - pulses) * r.length + to_pulse r

-- ---- what is left

-- after the last step
abbrev pub verify_left : Order → Bool → ℕ → ℕ
verify_left o mfm size = cond (verifies_track o.byte) (settle_time_of mfm + 5 * size) 0

-- after the settling
unfoldable pub begun_left : Job → ℕ → ℕ
begun_left job.Nothing size = 0
begun_left job.Verify size = 5 * size
begun_left job.ReadSector size = 0
begun_left job.WriteSector size = 0
begun_left job.ReadAddress size = 0
begun_left job.WriteTrack size = 2 * size - 1

-- a count goes down to 1, and with that it is over
abbrev pub down : ℕ → ℕ
down left = suc (left - 1)

-- up to the last of so many cells
abbrev pub up_to : ℕ → ℕ → ℕ
up_to last passed = suc (last - suc passed)

-- the cells to the ring's end
abbrev pub to_end : Ring → ℕ
to_end r = r.length - r.position

module _ (o : Order) (mfm : Bool) (target : ℕ) (r : Ring) (tr : ℕ) where
  unfoldable pub left_of : Activity → ℕ
  left_of Idle = 0
  left_of (Seek left) = down left + apart tr target * step_time_of mfm o.byte + verify_left o mfm r.length
  left_of Pulse = suc (step_time_of mfm o.byte) + verify_left o mfm r.length
  left_of (Stop left) = down left + verify_left o mfm r.length
  left_of (Settle left) = left + begun_left (job_of o.command) r.length
  left_of (Search pulses scan) = to_fifth pulses r
  left_of (Window left passed run) = up_to (window_of mfm) passed + down left
  left_of (Data left crc deleted) = down left
  left_of (Hunt pulses run) = 0
  left_of (Address passed crc track) = suc (5 - passed)
  left_of Await = cond (eqb r.position 0) r.length (to_end r + r.length)
  left_of (Preamble left passed) = up_to (mark_place mfm) passed + down left
  left_of (Put left crc) = down left
  left_of (Format crc) = to_end r
  left_of (FormatCrc crc) = to_end r

-- ---- which commands and activities it counts

-- a job that begins something of a known length after the settling
pub data Plain : Job → Type 0 where
  verifies : Plain job.Verify
  writes_track : Plain job.WriteTrack

-- a CRC register holds a word, and a record is the only one
unfoldable pub Counted : Order → Activity → Type 0
Counted o Idle = Unit {0}
Counted o (Seek left) = job_of o.command ≡ job.Verify
Counted o Pulse = job_of o.command ≡ job.Verify
Counted o (Stop left) = job_of o.command ≡ job.Verify
Counted o (Settle left) = Plain (job_of o.command)
Counted o (Search pulses scan) = job_of o.command ≡ job.Verify
Counted o (Window left passed run) = is_multiple o.byte ≡ false
Counted o (Data left crc deleted) = is_multiple o.byte ≡ false
Counted o (Hunt pulses run) = ⊥
Counted o (Address passed crc track) = Unit {0}
Counted o Await = Unit {0}
Counted o (Preamble left passed) = is_multiple o.byte ≡ false
Counted o (Put left crc) = (is_multiple o.byte ≡ false) × (crc < 65536)
Counted o (Format crc) = crc < 65536
Counted o (FormatCrc crc) = crc < 65536

-- a Restore or a Seek is stepping
unfoldable pub seeks : Activity → Bool
seeks Idle = false
seeks (Seek left) = true
seeks Pulse = false
seeks (Stop left) = false
seeks (Settle left) = false
seeks (Search pulses scan) = false
seeks (Window left passed run) = false
seeks (Data left crc deleted) = false
seeks (Hunt pulses run) = false
seeks (Address passed crc track) = false
seeks Await = false
seeks (Preamble left passed) = false
seeks (Put left crc) = false
seeks (Format crc) = false
seeks (FormatCrc crc) = false

-- ---- the fifth pulse comes nearer

module _ (r : Ring) (inside : r.position < r.length) (long : 2 ≤ r.length) where
  -- a byte time that is no pulse, and one that is
  pub pulse_nearer : eqb r.position 0 ≡ false → suc (to_pulse (ring_next r)) ≡ to_pulse r
  unfolding to_pulse
  pulse_nearer off = by (next_place r inside)
    where
      some : r.position ≡ 0 → ⊥
      some = eqb-false _ _ off

      by : Next r → suc (to_pulse (ring_next r)) ≡ to_pulse r
      by (to_start e there) = simp (off, there) (omega arith)
      by (onward e there) = simp (off, there, ne_eqb (suc r.position) 0 (omega arith)) (omega arith)

  pub pulse_again : eqb r.position 0 ≡ true → (to_pulse r ≡ 1) × (to_pulse (ring_next r) ≡ r.length)
  unfolding to_pulse
  pulse_again on = by (next_place r inside)
    where
      first : r.position ≡ 0
      first = eqb-true _ _ on

      by : Next r → (to_pulse r ≡ 1) × (to_pulse (ring_next r) ≡ r.length)
      by (to_start e there) = absurd (omega (arith, first))
      by (onward e there) =
          (simp on, simp (there, ne_eqb (suc r.position) 0 (omega arith)) (omega (arith, first)))

  pulse_most : to_pulse r ≤ r.length
  unfolding to_pulse
  pulse_most = by (eqb r.position 0) refl
    where
      by : (b : Bool) → eqb r.position 0 ≡ b → cond b 1 (suc (r.length - r.position)) ≤ r.length
      by true e = omega arith
      by false e = let some : r.position ≡ 0 → ⊥ = eqb-false _ _ e in omega arith

  pub fifth_most : to_fifth 0 r ≤ 5 * r.length
  unfolding to_fifth
  fifth_most = omega (arith, pulse_most)

  pub fifth_some : (pulses : ℕ) → 0 < to_fifth pulses r
  unfolding to_fifth to_pulse
  fifth_some pulses = by (eqb r.position 0)
    where
      by : (b : Bool) → 0 < (4 - pulses) * r.length + cond b 1 (suc (r.length - r.position))
      by true = omega arith
      by false = omega arith

  -- "Pulses count from its first byte time": as long as it is not the fifth, fewer byte times are left to it
  pub fifth_nearer :
      (pulses : ℕ)
      → leb 5 (pulses_seen pulses (eqb r.position 0)) ≡ false
      → to_fifth (pulses_seen pulses (eqb r.position 0)) (ring_next r) < to_fifth pulses r
  unfolding to_fifth pulses_seen
  fifth_nearer pulses = by (eqb r.position 0) refl
    where
      size : (ring_next r).length ≡ r.length
      size = next_length r

      unmarked :
          eqb r.position 0 ≡ false
          → (4 - pulses) * (ring_next r).length + to_pulse (ring_next r) < (4 - pulses) * r.length + to_pulse r
      unmarked off = omega (arith, ap (λ (n : ℕ). (4 - pulses) * n) size, pulse_nearer off)

      by :
          (index : Bool)
          → eqb r.position 0 ≡ index
          → leb 5 (cond index (cond (ltb pulses 5) (pulses + 1) 5) pulses) ≡ false
          → (4 - cond index (cond (ltb pulses 5) (pulses + 1) 5) pulses) * (ring_next r).length + to_pulse (ring_next r)
          < (4 - pulses) * r.length + to_pulse r
      by true e = counted (ltb pulses 5) refl
        where
          counted :
              (b : Bool)
              → ltb pulses 5 ≡ b
              → leb 5 (cond b (pulses + 1) 5) ≡ false
              → (4 - cond b (pulses + 1) 5) * (ring_next r).length + to_pulse (ring_next r) < (4 - pulses) * r.length + to_pulse r
          counted true f five =
              let less : pulses + 1 < 5 = leb-false 5 (pulses + 1) five in
              let (here, there) = pulse_again e in
              let rounds : 4 - pulses ≡ suc (4 - (pulses + 1)) = omega arith in
              rw (there, here, rounds, size) (omega arith)
          counted false f five = never (cc)
      by false e = λ five. unmarked e

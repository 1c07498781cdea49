-- Demand 3, "In time", as one theorem over the definitions of the crate `wd`: for every machine, every host, every track and
-- every start. Assumes nothing.
use mathlib.Core.Path.{◌≡◌, refl, sym, ◌∙◌}
use mathlib.Core.Bool.{Bool, true, false, true≢false}
use mathlib.Core.Logic.{◌⊎◌, inl, inr, ◌↔◌}
use Prim.Native.Nat.{ℕ, suc, ◌+◌, ◌*◌, ◌≤◌, ◌<◌}
use native.Mathlib.Decide.{dec_lt}
use native.Mathlib.Omega.{arith}
use lib.ListN.{length}
use Rattle.common.proofs.Cases.{never}
use Rattle.scan.specs.Marks.{lead_of}
use Rattle.scan.specs.Streams.{id_width, sought_at}
use Rattle.scan.specs.DataMarks.{window_of}
use Rattle.command.specs.declared.Command.TheVariants.{ReadSector}
use Rattle.reachable.proofs.Valid.{load_valid}
use Rattle.reachable.proofs.StatusBits.{status_four}
use Rattle.hosts.specs.Hosts.{at}
use Rattle.hosts.specs.Scenes.{Scene, loaded, settling}
use Rattle.hosts.proofs.Pulses.{pulse_most, pulse_there, pulses_before}
use Rattle.hosts.proofs.Firsts.{FirstOrNone, first}
use Rattle.hosts.proofs.Intrq.{ends_told}
use Rattle.hosts.proofs.Views.{stays_valid}
use Rattle.hosts.proofs.Searching.{reads_two}
use Rattle.hosts.proofs.RingIds.{hit_id, id_hit, hit_ring}
use Rattle.hosts.proofs.Windows.{is_met, which_mark}
use Rattle.hosts.proofs.Working.{given_valid, beginning_inside, OverAt}
use Rattle.hosts.proofs.Found.{Found, Lost, searched, fifth_of, lost_over, lost_none, found_soon, found_size_lem}
use Rattle.hosts.proofs.ReadEnds.{unmarked_over, marked_over}
use Rattle.in_time.specs.Demand3.{InTimePremises, start_of, OnRing, FirstWhole, MarkInWindow, FifthPulse, Demand3}
use Rattle.in_time.proofs.Hits.{after_id, ring_id, id_ring, met_mark, mark_met}
use Rattle.in_time.proofs.Underway.{given, working, heads}

-- ---- the numbers

-- an ID's cells and its window: 7 and 30, or 10 and 43
widths : (mfm : Bool) → (id_width mfm + window_of mfm ≤ 53) × (0 < id_width mfm)
unfolding lead_of window_of
widths true = omega arith
widths false = omega arith

-- ---- how it ends

-- what an ID, its window and the longest data field with its CRC take after the settling
abbrev longest : Scene → ℕ
longest s = length s.row + id_width s.machine.mfm + window_of s.machine.mfm + 1026

-- a command that ends in byte time n, with bit 4 or without
data Verdict (s : Scene) (n : ℕ) : Bool → Type 0 where
  no_id : (OnRing s → ⊥) → (k : ℕ) → FifthPulse s k → n ≡ settling s + suc k → suc k ≤ 5 * length s.row → Verdict s n true
  no_mark : (k : ℕ) → FirstWhole s k → (MarkInWindow s k → ⊥) → n < settling s + longest s → Verdict s n true
  served : (k : ℕ) → FirstWhole s k → MarkInWindow s k → n < settling s + longest s → Verdict s n false

-- it does, and why
Ended : Scene → Type 0
Ended s = (n : ℕ) × (missing : Bool) × OverAt s n missing × Verdict s n missing

module _ (s : Scene) (asked : InTimePremises s) where
  inside : start_of s < length s.row
  inside = beginning_inside (working s asked) (heads s asked)

  -- ---- an ID that suits

  module _ (f : Found (working s asked) reads_two (heads s asked)) where
    -- it is the first to pass whole
    first_whole : FirstWhole s f.q
    first_whole =
        let (id, heard, ends, suits) = hit_id s ReadSector (settling s) f.q f.first.passes in
        record {
          id = id;
          ends = ends;
          suits = suits;
          first = λ k l other e suits.
              true≢false (sym (id_hit s ReadSector (settling s) k other e suits) ∙ f.first.none k l);
        }

    soon : suc f.q < length s.row + id_width s.machine.mfm
    soon = found_soon f

    found : Ended s
    unfolding Ended
    found = by (first (λ u. is_met (sought_at s.machine.mfm (after_id s f.q) u)) (window_of s.machine.mfm))
      where
        by : FirstOrNone (λ u. is_met (sought_at s.machine.mfm (after_id s f.q) u)) (window_of s.machine.mfm)
            → Ended s
        by (inl (u, l, met)) =
            let (mark, e) = which_mark _ met.passes in (
              _,
              false,
              marked_over f u mark
                  (record { near = l; none = met.none; met = e })
                  asked.single,
              served f.q first_whole (met_mark s f.q u l met.passes) (omega (arith, soon, found_size_lem f)),
            )
        by (inr unmet) = (
          _,
          true,
          unmarked_over f unmet,
          no_mark f.q first_whole
              (λ marked.
              let (u, l, met) = mark_met s f.q marked in
              true≢false (sym met ∙ unmet u l))
              (omega (arith, soon)),
        )

  -- ---- none

  lost : Lost (working s asked) reads_two (heads s asked) → Ended s
  unfolding Ended
  lost f = (
    _,
    true,
    lost_over f,
    no_id (λ ring. lost_none f ring.cell (ring_id ring))
        (fifth_of (working s asked) reads_two (heads s asked))
        (record {
          four = pulses_before 4 (length s.row) (start_of s) inside;
          pulse = pulse_there 4 (length s.row) (start_of s) inside;
        })
        refl
        (pulse_most 4 (length s.row) (start_of s) inside),
  )

  ended : Ended s
  ended = by (searched (working s asked) reads_two (heads s asked))
    where
      by : Found (working s asked) reads_two (heads s asked) ⊎ Lost (working s asked) reads_two (heads s asked) → Ended s
      by (inl f) = found f
      by (inr f) = lost f

  -- ---- in the demand's words

  -- there is one first ID
  pub first_once : (j k : ℕ) → FirstWhole s j → FirstWhole s k → j ≡ k
  first_once j k f g = by (dec_lt j k) (dec_lt k j)
    where
      by : Dec (j < k) → Dec (k < j) → j ≡ k
      by (yes l) other = absurd (g.first j l f.id f.ends f.suits)
      by (no l) (yes m) = absurd (f.first k m g.id g.ends g.suits)
      by (no l) (no m) = omega arith

  -- it stands on the ring
  pub whole_ring : (k : ℕ) → FirstWhole s k → OnRing s
  whole_ring k f =
      id_ring
      (hit_ring s ReadSector (settling s) (omega (arith, inside)) k
      (id_hit s ReadSector (settling s) k f.id f.ends f.suits)).on_ring

  -- nothing to serve: no ID, or no data mark in the first one's window
  abbrev Unserved : Type 0
  Unserved = (OnRing s → ⊥) ⊎ ((k : ℕ) × FirstWhole s k × (MarkInWindow s k → ⊥))

  exactly_when : {n : ℕ} {missing : Bool} → Verdict s n missing → (missing ≡ true) ↔ Unserved
  exactly_when (no_id nowhere k fifth e most) = (λ told. inl nowhere, λ unserved. refl)
  exactly_when (no_mark k f unmarked most) = (λ told. inr (k, f, unmarked), λ unserved. refl)
  exactly_when (served k f marked most) = (λ told. absurd (true≢false (sym told)), λ unserved. absurd (off unserved))
    where
      off : Unserved → ⊥
      off (inl nowhere) = nowhere (whole_ring k f)
      off (inr (j, g, unmarked)) = unmarked (rw (first_once j k g f) marked)

  soon_enough : {n : ℕ} {missing : Bool} → Verdict s n missing → OnRing s → n < settling s + longest s
  soon_enough (no_id nowhere k fifth e most) ring = absurd (nowhere ring)
  soon_enough (no_mark k f unmarked most) ring = most
  soon_enough (served k f marked most) ring = most

  at_fifth :
      {n : ℕ} {missing : Bool}
      → Verdict s n missing
      → (OnRing s → ⊥)
      → (k : ℕ) × FifthPulse s k × (n ≡ settling s + suc k) × (suc k ≤ 5 * length s.row)
  at_fifth (no_id nowhere k fifth e most) none = (k, fifth, e, most)
  at_fifth (no_mark k f unmarked most) none = absurd (none (whole_ring k f))
  at_fifth (served k f marked most) none = absurd (none (whole_ring k f))

-- "In time: take a single Read Sector accepted with the drive ready, the head-load line on throughout, no other command
-- accepted, and the same track of L cells, none above 511, lent each byte time. It ends with Record Not Found exactly when no ID
-- on the whole ring matches with a good CRC, or the first such ID to pass whole after settling has no data mark in its window.
-- Counted after settling, it ends within L + 1,078 byte times where such an ID exists, and at the fifth index pulse, within 5L,
-- where none does."
pub in_time : (s : Scene) → InTimePremises s → Demand3 s
unfolding Ended
in_time s asked =
    let (n, missing, is, verdict) = ended s asked in
    let valid = load_valid s.machine s.lines 0 s.byte (given_valid (given s asked)) in
    let told = exactly_when s asked verdict in (
      n,
      is.ends,
      record {
        raised =
            ends_told s ReadSector asked.reads (λ e. never (cc)) asked.accepted n
            (λ k l. asked.alone k (is.ends.busy k l)) is.ends;
        exactly = λ l.
            let bit = status_four (at s.host (loaded s) n).machine l (stays_valid s.host (loaded s) valid n) ∙ is.told in
            (λ e. told.0 (sym bit ∙ e), λ unserved. bit ∙ told.1 unserved);
        found = λ ring. omega (arith, soon_enough s asked verdict ring, (widths s.machine.mfm).0);
        lost = λ none.
            let (k, fifth, same, most) = at_fifth s asked verdict none in
            (k, fifth, same, omega arith);
        row = is.row;
      },
    )

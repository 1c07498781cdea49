-- What the search and the window of a Read Sector come to in plain words: IDs on the ring that match with a good CRC, the
-- first to pass whole, and data marks in its window. Assumes nothing.
use mathlib.Core.Path.{◌≡◌, refl, ap}
use mathlib.Core.Bool.{Bool, true, false, not}
use Prim.Native.Nat.{ℕ, suc, ◌+◌, ◌-◌, ◌<◌}
use native.Mathlib.Omega.{arith}
use Rattle.common.proofs.Cases.{not_on}
use Rattle.scan.specs.Marks.{lead_of}
use Rattle.scan.specs.DataMarks.{mark_byte, density_has, window_of}
use Rattle.scan.specs.Streams.{MarkEnds, sought_at}
use Rattle.scan.specs.declared.DataMark.{DataMark}
use Rattle.scan.specs.declared.DataMark.TheVariants.{Fb, F8, F9, Fa}
use Rattle.scan.proofs.DataMarks.{data_marks}
use Rattle.command.specs.declared.Command.TheVariants.{ReadSector}
use Rattle.activity.specs.declared.Activity.TheVariants.{Settle}
use Rattle.hosts.specs.Scenes.{Scene, settling}
use Rattle.hosts.proofs.Accepted.{ground_of}
use Rattle.hosts.proofs.RingLaws.{mark_moved}
use Rattle.hosts.proofs.RingIds.{IdOnRing}
use Rattle.hosts.proofs.Views.{View}
use Rattle.hosts.proofs.Phases.{stands}
use Rattle.hosts.proofs.Windows.{is_met, which_mark, cells_after}
use Rattle.in_time.specs.Demand3.{stream_of, OnRing, window_cells, IsDataMark, fb, f8, f9, fa, MarkInWindow}

-- after the settling
abbrev pub settled_in : Scene → View
settled_in s = stands (ground_of s ReadSector) (settling s) false (Settle 0)

-- the cells after an ID whose last cell is cell n
abbrev pub after_id : Scene → ℕ → ℕ → ℕ
after_id s n = cells_after (settled_in s) (suc n)

-- ---- on the ring

pub ring_id : {s : Scene} → (ring : OnRing s) → IdOnRing s ring.cell
ring_id ring = record { inside = ring.inside; stands = ring.stands; suits = ring.suits }

abbrev pub id_ring : {s : Scene} {p : ℕ} → IdOnRing s p → OnRing s
id_ring {p = p} on = record { cell = p; inside = on.inside; stands = on.stands; suits = on.suits }

-- ---- in the window

-- the four bytes are those of the marks that the density has
pub named_byte : (mfm : Bool) (mark : DataMark) → density_has mfm mark ≡ true → IsDataMark mfm (mark_byte mark)
unfolding mark_byte density_has
named_byte mfm Fb has = fb refl
named_byte mfm F8 has = f8 refl
named_byte mfm F9 has = f9 (not_on mfm has) refl
named_byte mfm Fa has = fa (not_on mfm has) refl

byte_named : (mfm : Bool) (b : ℕ) → IsDataMark mfm b → (mark : DataMark) × (density_has mfm mark ≡ true) × (b ≡ mark_byte mark)
unfolding mark_byte density_has
byte_named mfm b (fb e) = (Fb, refl, e)
byte_named mfm b (f8 e) = (F8, refl, e)
byte_named mfm b (f9 fm e) = (F9, ap not fm, e)
byte_named mfm b (fa fm e) = (Fa, ap not fm, e)

same_window : (mfm : Bool) → window_of mfm ≡ window_cells mfm
unfolding window_of window_cells
same_window mfm = refl

module _ (s : Scene) (n : ℕ) where
  abbrev mfm : Bool
  mfm = s.machine.mfm

  pub met_mark : (u : ℕ) → u < window_of s.machine.mfm → is_met (sought_at s.machine.mfm (after_id s n) u) ≡ true
      → MarkInWindow s n
  met_mark u within e =
      let (mark, met) = which_mark _ e in
      let (has, (a, p, stands)) = (data_marks mfm (after_id s n) u mark).0 met in
      record {
        a = suc n + a;
        byte = mark_byte mark;
        data_mark = named_byte mfm mark has;
        stands =
            mark_moved mfm (after_id s n) (stream_of s) a (suc n + a) (λ i l. ap (stream_of s) (omega arith)) (mark_byte mark)
            stands;
        after = omega arith;
        within = omega (arith, same_window mfm);
      }

  pub mark_met :
      MarkInWindow s n
      → (u : ℕ) × (u < window_of s.machine.mfm) × (is_met (sought_at s.machine.mfm (after_id s n) u) ≡ true)
  unfolding is_met
  mark_met h =
      let a : ℕ = h.a - suc n in
      let (mark, has, e) = byte_named mfm h.byte h.data_mark in
      let stands =
      mark_moved mfm (stream_of s) (after_id s n) h.a a (λ i l. ap (stream_of s) (omega (arith, h.after))) h.byte
      h.stands in
      let ends : MarkEnds mfm (after_id s n) (a + lead_of mfm) (mark_byte mark) = (a, refl, rw e at stands) in (
        a + lead_of mfm,
        omega (arith, h.within, same_window mfm),
        rw ((data_marks mfm (after_id s n) (a + lead_of mfm) mark).1 (has, ends)),
      )

-- Tracks with one ID, as demand 3 speaks of them; in FM, with a data mark that is the last cell of its window or the one after it.
-- Assumes nothing.
use mathlib.Core.Path.{◌≡◌, refl}
use mathlib.Core.Bool.{Bool, true, false}
use mathlib.Core.List.{List}
use mathlib.Core.Logic.{◌⊎◌, inl, inr}
use Prim.Native.Nat.{ℕ, ◌+◌, ◌<◌}
use native.Mathlib.Decide.{dec_lt}
use native.Mathlib.Omega.{arith}
use Rattle.common.specs.Bits.{bit_of}
use Rattle.common.proofs.Cases.{never}
use Rattle.crc.specs.Crc.{crc_bit, crc_bits, crc_byte}
use Rattle.scan.specs.Marks.{lead_of}
use Rattle.scan.specs.Rows.{length_within}
use Rattle.scan.specs.declared.Id.{Id}
use Rattle.scan.specs.Streams.{MarkAt, crc_from, id_from, IdEnds}
use Rattle.fields.specs.Rings.{cells_of}
use Rattle.registers.specs.declared.Lines.{Lines}
use Rattle.wd.specs.Machines.{fresh_machine, power_on}
use Rattle.reachable.specs.ByteTimes.{turns_on}
use Rattle.hosts.specs.Scenes.{Scene, Suits}
use Rattle.hosts.specs.Tracks.{passing}
use Rattle.in_time.specs.Demand3.{stream_of, OnRing, FirstWhole, window_cells, fb, MarkInWindow}
use Rattle.command.specs.declared.Chip.TheVariants.{Wd1793}
use Rattle.in_time.proofs.Scenes.{fresh}
use Rattle.witnesses.proofs.Scenes.{unmarked, id_at}
use Rattle.uses.specs.Courses.{silent}
use Rattle.applied.specs.Window.{thirtieth, thirty_first}

-- nothing to serve: no ID, or no data mark in the window of the first
abbrev pub Unserved : Scene → Type 0
Unserved s = (OnRing s → ⊥) ⊎ ((k : ℕ) × FirstWhole s k × (MarkInWindow s k → ⊥))

-- there is something where the first ID has a data mark in its window
pub served : (s : Scene) (q : ℕ) → OnRing s → FirstWhole s q → MarkInWindow s q → Unserved s → ⊥
served s q ring first mark (inl nowhere) = nowhere ring
served s q ring first mark (inr (k, other, none)) = by (dec_lt k q) (dec_lt q k)
  where
    by : Dec (k < q) → Dec (q < k) → ⊥
    by (yes early) l = first.first k early other.id other.ends other.suits
    by (no l) (yes late) = other.first q late first.id first.ends first.suits
    by (no l) (no h) = let same : k ≡ q = omega arith in none (rw same mark)

abbrev the_id : Id
the_id = record { track = 0; side = 0; sector = 1; length = 0; good = true }

module _ (l : Lines) where
  abbrev pub scene : Bool → List ℕ → Scene
  scene mfm row = record { machine = fresh mfm Wd1793; lines = l; byte = 0x80; row = row; host = silent }

  pub suits : (mfm : Bool) (row : List ℕ) → Suits (scene mfm row) (record { track = 0; side = 0; sector = 1; length = 0; good = true })
  unfolding bit_of power_on length_within fresh_machine
  suits mfm row = record { track = refl; sector = refl; side = λ asks. never (cc); good = refl }

  -- no ID is whole before the last cell of one that stands from cell 0 on
  pub whole_at :
      (mfm : Bool) (row : List ℕ)
      → IdEnds mfm (stream_of (scene mfm row)) (lead_of mfm + 6) (record { track = 0; side = 0; sector = 1; length = 0; good = true })
      → FirstWhole (scene mfm row) (lead_of mfm + 6)
  unfolding power_on length_within fresh_machine
  whole_at mfm row ends =
      record {
        id = the_id;
        ends = ends;
        suits = suits mfm row;
        first = λ k low other (a, p, stands, says) matches. absurd (omega arith);
      }

  first_30 : FirstWhole (scene false thirtieth) 6
  unfolding lead_of id_from crc_from crc_byte crc_bits crc_bit passing cells_of bit_of turns_on power_on length_within fresh_machine
  first_30 = whole_at false thirtieth (0, refl, id_at (stream_of (scene false thirtieth)) 0 refl refl, refl)

  first_31 : FirstWhole (scene false thirty_first) 6
  unfolding lead_of id_from crc_from crc_byte crc_bits crc_bit passing cells_of bit_of turns_on power_on length_within fresh_machine
  first_31 = whole_at false thirty_first (0, refl, id_at (stream_of (scene false thirty_first)) 0 refl refl, refl)

  pub ring_30 : OnRing (scene false thirtieth)
  unfolding lead_of id_from crc_from crc_byte crc_bits crc_bit cells_of power_on length_within fresh_machine
  ring_30 =
      record { cell = 0; inside = omega arith; stands = id_at (cells_of thirtieth) 0 refl refl; suits = suits false thirtieth }

  pub ring_31 : OnRing (scene false thirty_first)
  unfolding lead_of id_from crc_from crc_byte crc_bits crc_bit cells_of power_on length_within fresh_machine
  ring_31 =
      record { cell = 0; inside = omega arith; stands = id_at (cells_of thirty_first) 0 refl refl; suits = suits false thirty_first }

  mark_30 : MarkInWindow (scene false thirtieth) 6
  unfolding MarkAt lead_of window_cells passing cells_of bit_of turns_on power_on length_within fresh_machine
  mark_30 =
      record {
        a = 36;
        byte = 0xFB;
        data_mark = fb refl;
        stands = (omega arith, refl);
        after = omega arith;
        within = omega arith;
      }

  no_mark_31 : MarkInWindow (scene false thirty_first) 6 → ⊥
  unfolding lead_of window_cells passing cells_of bit_of turns_on power_on length_within fresh_machine
  no_mark_31 m =
      unmarked (stream_of (scene false thirty_first)) 7 30 refl m.a m.byte m.after (omega (arith, m.within)) m.stands

  pub served_30 : Unserved (scene false thirtieth) → ⊥
  served_30 = served (scene false thirtieth) 6 ring_30 first_30 mark_30

  pub unserved_31 : Unserved (scene false thirty_first)
  unserved_31 = inr (6, first_31, no_mark_31)

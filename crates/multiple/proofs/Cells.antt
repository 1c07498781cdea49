-- A search that begins in some byte time with some SR: what it sees of the cells, and which record it comes to. Assumes nothing.
use mathlib.Core.Path.{◌≡◌, refl, sym, ap, ◌∙◌, subst}
use mathlib.Core.Bool.{Bool, true, false, true≢false}
use Prim.Native.Nat.{ℕ, suc, ◌+◌, ◌-◌, ◌≤◌, ◌<◌}
use native.Mathlib.Nat.{mod-lt}
use native.Mathlib.Omega.{arith}
use lib.ListN.{length}
use Rattle.scan.specs.Marks.{lead_of}
use Rattle.scan.specs.DataMarks.{window_of}
use Rattle.scan.specs.Streams.{IdAt, id_from, IdEnds, heard_at}
use Rattle.scan.specs.declared.DataMark.{DataMark}
use Rattle.scan.specs.declared.Id.{Id}
use Rattle.command.specs.declared.Command.TheVariants.{ReadSector}
use Rattle.activity.specs.declared.Activity.{Activity}
use Rattle.activity.specs.declared.Activity.TheVariants.{Settle}
use Rattle.fields.specs.Rings.{cells_of}
use Rattle.fields.specs.Rounds.{MarkWithin, FirstMark}
use Rattle.wd.specs.Reads.{with_bus}
use Rattle.hosts.specs.Scenes.{Scene, Suits}
use Rattle.hosts.specs.Tracks.{position_at, passing}
use Rattle.hosts.proofs.Accepted.{ground_of}
use Rattle.hosts.proofs.Firsts.{First}
use Rattle.hosts.proofs.Found.{id_narrow}
use Rattle.hosts.proofs.FirstMarks.{none_stands, first_stands}
use Rattle.hosts.proofs.Passing.{OnTrack, stream_from, place, head_inside, on_track}
use Rattle.hosts.proofs.Phases.{stands}
use Rattle.hosts.proofs.Pulses.{pulse_time, pulse_least}
use Rattle.hosts.proofs.RingIds.{IdOnRing, hit_id, id_hit, ring_hit}
use Rattle.hosts.proofs.RingLaws.{id_moved, says_moved, passing_ring}
use Rattle.hosts.proofs.Searching.{hit_at, length_in}
use Rattle.hosts.proofs.Views.{View}
use Rattle.hosts.proofs.Windows.{NoMarkIn, FirstMarkIn, cells_after}
use Rattle.multiple.specs.Multiple.{cells_by, GoodMatch, window_from, RecordFrom}

-- the command with SR at another sector: what the laws of a search from the load on say of it holds of a later search
abbrev asking : Scene → ℕ → Scene
asking s sector =
    record {
      machine =
          with_bus s.machine (record { tr = s.machine.regs.tr; sr = sector; dr = s.machine.regs.dr }) s.machine.wires;
      lines = s.lines;
      byte = s.byte;
      row = s.row;
      host = s.host;
    }

-- the view with which it begins
abbrev pub view_at : Scene → ℕ → ℕ → Activity → View
view_at s sector t = stands (ground_of (asking s sector) ReadSector) t false

module _ (s : Scene) (track : OnTrack (ground_of s ReadSector)) (long : 2048 ≤ length s.row) (sector t : ℕ) where
  abbrev mfm : Bool
  mfm = s.machine.mfm

  abbrev asks : Scene
  asks = asking s sector

  abbrev v : View
  v = view_at s sector t (Settle 0)

  pub tracked : (a : Activity) → OnTrack (view_at s sector t a)
  tracked = on_track (ground_of asks ReadSector) (record { whole = track.whole; inside = track.inside }) t false

  -- where the head is then
  pub head_at :
      (view_at s sector t (Settle 0)).ring.position ≡ position_at (length s.row) s.machine.ring.position t
  head_at = place (ground_of s ReadSector) track t

  -- ---- its cells

  abbrev stream : ℕ → ℕ
  stream = stream_from (view_at s sector t (Settle 0))

  stream_is : (i : ℕ) → stream i ≡ cells_by s (t + i)
  unfolding passing
  stream_is i =
      ap (λ (p : ℕ). passing s.row p i) head_at ∙ sym (passing_ring s.row s.machine.ring.position t i)

  there : (a b : ℕ) → t + a ≡ b → (i : ℕ) → stream (a + i) ≡ cells_by s (b + i)
  there a b e i = stream_is (a + i) ∙ ap (cells_by s) (omega arith)

  -- an ID that the command goes by is heard with its last cell
  passes_hit :
      (b : ℕ)
      → t ≤ b
      → IdAt mfm (cells_by s) b
      → Suits asks (id_from mfm (cells_by s) b)
      → hit_at v (b - t + (lead_of mfm + 6)) ≡ true
  passes_hit b l stands suits =
      let a : ℕ = b - t in
      let back : (i : ℕ) → cells_by s (b + i) ≡ stream (a + i) = λ i. sym (there a b (omega arith) i) in
      let ends : IdEnds mfm stream (a + (lead_of mfm + 6)) (id_from mfm (cells_by s) b) = (
        a,
        omega arith,
        id_moved mfm (cells_by s) stream b a (λ i h. back i) stands,
        says_moved mfm (cells_by s) stream b a (λ i h. back i),
      ) in
      id_hit asks ReadSector t (a + (lead_of mfm + 6)) (id_from mfm (cells_by s) b) ends suits

  -- ---- the ID that it hears first, with cell q

  module _ (q : ℕ) (f : First (hit_at (view_at s sector t (Settle 0))) q) where
    pub record HeardId : Type 0 where
      pub id : GoodMatch s sector t
      pub ends : window_from id ≡ t + suc q
      pub length_is :
          length_in (heard_at s.machine.mfm (stream_from (view_at s sector t (Settle 0))) q)
          ≡ (id_from s.machine.mfm (cells_by s) id.cell).length

    pub heard : HeardId
    unfolding length_in
    heard =
        let (id, says, (a, ends, stands, is), suits) = hit_id asks ReadSector t q f.passes in
        let same : id ≡ id_from mfm (cells_by s) (t + a) =
        is ∙ says_moved mfm stream (cells_by s) a (t + a) (λ i l. there a (t + a) refl i) in
        record {
          id = record {
            cell = t + a;
            after = omega arith;
            stands = id_moved mfm stream (cells_by s) a (t + a) (λ i l. there a (t + a) refl i) stands;
            suits = subst (Suits asks) same suits;
            first = λ b l m whole matches.
                true≢false (sym (passes_hit b l whole matches) ∙ f.none (b - t + (lead_of mfm + 6)) (omega arith));
          };
          ends = omega arith;
          length_is = ap length_in says ∙ ap (λ (x : Id). x.length) same;
        }

    -- the cells after it
    pub window_is :
        (j : ℕ) → cells_after (view_at s sector t (Settle 0)) (suc q) j ≡ cells_by s (window_from heard.id + j)
    window_is j = there (suc q) (window_from heard.id) (sym heard.ends) j

    -- its record, where its window has a data mark
    module _ (u : ℕ) (mark : DataMark)
        (met : FirstMarkIn s.machine.mfm (cells_after (view_at s sector t (Settle 0)) (suc q)) mark u) where
      abbrev pub mark_of : (at : ℕ) × FirstMark mfm (cells_by s) (window_from heard.id) mark at (suc u)
      mark_of = first_stands mfm (cells_by s) (cells_after v (suc q)) (window_from heard.id) window_is mark u met

      abbrev pub record_of : RecordFrom s sector t
      record_of =
          record { id = heard.id; mark = mark; mark_at = mark_of.0; place = suc u; marked = mark_of.1 }

    -- and none where it has not
    pub unmarked_window :
        NoMarkIn s.machine.mfm (cells_after (view_at s sector t (Settle 0)) (suc q)) (window_of s.machine.mfm)
        → (mark : DataMark) (at place : ℕ)
        → MarkWithin s.machine.mfm (cells_by s) (window_from heard.id) mark at place
        → ⊥
    unmarked_window none mark at place m =
        none_stands mfm (cells_by s) (cells_after v (suc q)) (window_from heard.id) window_is (window_of mfm) none mark at place
        m.high m

  -- ---- or it hears none up to the fifth pulse: what stands on the ring would have passed within a round

  pub unmatched :
      ((k : ℕ)
      → k < pulse_time 4 (length s.row) (view_at s sector t (Settle 0)).ring.position
      → hit_at (view_at s sector t (Settle 0)) k ≡ false)
      → GoodMatch s sector t
      → ⊥
  unmatched none r =
      let p : ℕ = position_at (length s.row) s.machine.ring.position r.cell in
      let same : (i : ℕ) → cells_by s (r.cell + i) ≡ cells_of s.row (p + i) =
      passing_ring s.row s.machine.ring.position r.cell in
      let stands_there : IdOnRing asks p =
      record {
        inside = mod-lt (s.machine.ring.position + r.cell) (omega (arith, long));
        stands = id_moved mfm (cells_by s) (cells_of s.row) r.cell p (λ i l. same i) r.stands;
        suits = subst (Suits asks) (says_moved mfm (cells_by s) (cells_of s.row) r.cell p (λ i l. same i)) r.suits;
      } in
      let inside = head_inside v (tracked (Settle 0)) in
      let (k, near, hit) = ring_hit asks ReadSector t inside p stands_there in
      true≢false
      (sym hit
      ∙ none k (omega (arith, id_narrow mfm, long, pulse_least 4 (length s.row) v.ring.position inside)))

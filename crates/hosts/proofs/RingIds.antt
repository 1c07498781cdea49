-- IDs on the ring that a command goes by, and the cells with which its search hears that one ends: what it takes stands on the
-- ring, and what stands there is taken within a round. Assumes nothing.
use mathlib.Core.Path.{◌≡◌, refl, sym, ap, ◌∙◌}
use mathlib.Core.Bool.{Bool, true, false, cond}
use Prim.Native.Nat.{ℕ, suc, ◌+◌, ◌<◌}
use native.Mathlib.Nat.{mod-lt}
use native.Mathlib.Omega.{arith}
use lib.Dec.{eqb}
use lib.ListN.{length}
use borrow.Author.Tests.{eqb-true, eq-eqb}
use Rattle.common.proofs.Cases.{never, both, all}
use Rattle.common.specs.Bits.{bit_of}
use Rattle.scan.specs.Marks.{lead_of}
use Rattle.scan.specs.Streams.{IdAt, id_width, id_from, IdEnds, heard_at}
use Rattle.scan.specs.declared.Id.{Id}
use Rattle.scan.specs.declared.Heard.{Heard}
use Rattle.scan.specs.declared.Heard.TheVariants.{On, Whole}
use Rattle.scan.proofs.Ids.{ids}
use Rattle.command.specs.Orders.{order_of}
use Rattle.command.specs.Bits.{side_of, side_asked}
use Rattle.command.specs.declared.Chip.{Chip}
use Rattle.command.specs.declared.Chip.TheVariants.{Wd1793, Wd1797}
use Rattle.std.specs.Prelude.{Some, None}
use Rattle.command.specs.declared.Order.{Order}
use Rattle.command.specs.declared.Command.{Command}
use Rattle.activity.specs.declared.Activity.TheVariants.{Settle}
use Rattle.search.specs.Search.{side_matches}
use Rattle.fields.specs.Rings.{cells_of}
use Rattle.hosts.specs.Tracks.{position_at}
use Rattle.hosts.specs.Scenes.{Scene, SideSuits, Suits}
use Rattle.hosts.proofs.RingLaws.{reached, id_moved, says_moved, passing_ring}
use Rattle.hosts.proofs.Accepted.{ground_of}
use Rattle.hosts.proofs.Views.{View}
use Rattle.hosts.proofs.Phases.{stands}
use Rattle.hosts.proofs.Passing.{stream_from}
use Rattle.hosts.proofs.Searching.{suits_for, hit_in, length_in, hit_at}

-- ---- which IDs

-- the search's test of the side, and what it says
side_suits : (chip : Chip) (b side : ℕ) → side_matches side (side_asked chip b) ≡ true → SideSuits chip b side
unfolding side_matches side_asked side_of
side_suits Wd1793 b side e = λ asks. eqb-true side _ (rw asks at e)
side_suits Wd1797 b side e = eqb-true side _ e

side_matches_lem : (chip : Chip) (b side : ℕ) → SideSuits chip b side → side_matches side (side_asked chip b) ≡ true
unfolding side_matches side_asked side_of
side_matches_lem Wd1793 b side suits = by (bit_of b 1) suits
  where
    by : (c : Bool)
        → (c ≡ true → side ≡ cond (bit_of b 3) 1 0)
        → side_matches side (cond c (Some (cond (bit_of b 3) 1 0)) None) ≡ true
    by true same = eq-eqb side _ (same refl)
    by false same = refl
side_matches_lem Wd1797 b side same = eq-eqb side _ same

-- two commands that ask for the same side
pub same_side_suits :
    (chip chip' : Chip) (b b' side : ℕ) → side_asked chip' b' ≡ side_asked chip b → SideSuits chip b side → SideSuits chip' b' side
same_side_suits chip chip' b b' side same suits =
    side_suits chip' b' side (ap (side_matches side) same ∙ side_matches_lem chip b side suits)

module _ (s : Scene) (command : Command) (id : Id) where
  -- the test that the search makes
  abbrev suited : Bool
  suited = suits_for (ground_of s command).order s.machine.regs.tr s.machine.regs.sr id

  suits_there : suited ≡ true → Suits s id
  unfolding suits_for order_of
  suits_there e =
      let parts = both _ id.good e in
      let sides = both _ (side_matches id.side (side_asked s.machine.chip s.byte)) parts.0 in
      let targets = both (eqb id.track s.machine.regs.tr) (eqb id.sector s.machine.regs.sr) sides.0 in
      record {
        track = eqb-true _ _ targets.0;
        sector = eqb-true _ _ targets.1;
        side = side_suits s.machine.chip s.byte id.side sides.1;
        good = parts.1;
      }

  suits_back : Suits s id → suited ≡ true
  unfolding suits_for order_of
  suits_back h =
      all
      (all (all (eq-eqb _ _ h.track) (eq-eqb _ _ h.sector)) (side_matches_lem s.machine.chip s.byte id.side h.side))
      h.good

-- one that the command goes by stands on the ring from cell p on
pub record IdOnRing (s : Scene) (p : ℕ) : Type 0 where
  pub inside : p < length s.row
  pub stands : IdAt s.machine.mfm (cells_of s.row) p
  pub suits : Suits s (id_from s.machine.mfm (cells_of s.row) p)

which_id :
    (o : Order) (tr sr : ℕ) (heard : Heard)
    → hit_in o tr sr heard ≡ true
    → (id : Id) × (heard ≡ Whole id) × (suits_for o tr sr id ≡ true)
unfolding hit_in
which_id o tr sr (On scan) hit = never (cc)
which_id o tr sr (Whole id) hit = (id, refl, hit)

-- ---- as they pass

-- from the search's beginning on, n byte times after the load
module _ (s : Scene) (command : Command) (n : ℕ) where
  abbrev from : View
  from = stands (ground_of s command) n false (Settle 0)

  abbrev mfm : Bool
  mfm = s.machine.mfm

  abbrev stream : ℕ → ℕ
  stream = stream_from from

  -- the cell that the search takes for the end of such an ID is one
  pub hit_id :
      (k : ℕ)
      → hit_at (stands (ground_of s command) n false (Settle 0)) k ≡ true
      → (id : Id)
      × (heard_at mfm stream k ≡ Whole id)
      × IdEnds mfm stream k id
      × Suits s id
  hit_id k hit =
      let (id, e, suits) = which_id _ _ _ (heard_at mfm stream k) hit in
      (id, e, (ids mfm stream k id).0 e, suits_there s command id suits)

  -- and every such ID is taken for one
  pub id_hit : (k : ℕ) (id : Id) → IdEnds mfm stream k id → Suits s id → hit_at from k ≡ true
  unfolding hit_in
  id_hit k id ends suits = rw ((ids mfm stream k id).1 ends) (suits_back s command id suits)

  -- what the search takes with cell k stands on the ring
  pub record Hit (k : ℕ) : Type 0 where
    pub a : ℕ
    pub ends : a + id_width s.machine.mfm ≡ suc k
    pub on_ring : IdOnRing s (position_at (length s.row) from.ring.position a)
    pub length_is :
        length_in (heard_at s.machine.mfm (stream_from from) k)
        ≡ (id_from s.machine.mfm (cells_of s.row) (position_at (length s.row) from.ring.position a)).length

  pub hit_ring : 0 < length s.row → (k : ℕ) → hit_at (stands (ground_of s command) n false (Settle 0)) k ≡ true → Hit k
  unfolding length_in
  hit_ring some k hit =
      let (id, heard, (a, ends, there, says), suits) = hit_id k hit in
      let p : ℕ = position_at (length s.row) from.ring.position a in
      let agree = passing_ring s.row from.ring.position a in
      let same : id ≡ id_from mfm (cells_of s.row) p =
      says ∙ says_moved mfm stream (cells_of s.row) a p (λ i l. agree i) in
      record {
        a = a;
        ends = ends;
        on_ring = record {
          inside = mod-lt (from.ring.position + a) some;
          stands = id_moved mfm stream (cells_of s.row) a p (λ i l. agree i) there;
          suits = rw same at suits;
        };
        length_is = ap length_in heard ∙ ap (λ (x : Id). x.length) same;
      }

  -- one that stands on the ring has passed whole within a round and its width
  pub ring_hit :
      from.ring.position < length s.row
      → (p : ℕ)
      → IdOnRing s p
      → (k : ℕ)
      × (suc k < length s.row + id_width s.machine.mfm)
      × (hit_at (stands (ground_of s command) n false (Settle 0)) k ≡ true)
  ring_hit inside p on =
      let (a, near, here) = reached (length s.row) from.ring.position inside p on.inside in
      let agree : (i : ℕ) → cells_of s.row (p + i) ≡ stream (a + i) =
      λ i. sym (passing_ring s.row from.ring.position a i ∙ ap (λ (q : ℕ). cells_of s.row (q + i)) here) in
      let ends : IdEnds mfm stream (a + lead_of mfm + 6) (id_from mfm (cells_of s.row) p) = (
        a,
        omega arith,
        id_moved mfm (cells_of s.row) stream p a (λ i l. agree i) on.stands,
        says_moved mfm (cells_of s.row) stream p a (λ i l. agree i),
      ) in
      (a + lead_of mfm + 6, omega arith, id_hit (a + lead_of mfm + 6) _ ends on.suits)

  -- the cells after it are those after its place on the ring
  pub after_hit :
      (k : ℕ) (h : Hit k) (i : ℕ)
      → stream_from from (suc k + i)
      ≡ cells_of s.row
      (position_at (length s.row) from.ring.position h.a + id_width s.machine.mfm + i)
  after_hit k h i =
      ap stream (omega (arith, h.ends))
      ∙ passing_ring s.row from.ring.position h.a (id_width mfm + i)
      ∙ ap (cells_of s.row) (omega arith)

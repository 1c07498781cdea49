-- The listing is complete: its lines are those of all IDs of the ring and no others, by the cell of their FE, each once, in
-- order. Assumes nothing.
use mathlib.Core.Path.{◌≡◌, refl, sym, ap, ap₂, subst, ◌∙◌}
use mathlib.Core.Logic.{◌↔◌, ◌⊎◌, inl, inr}
use mathlib.Core.Bool.{Bool}
use mathlib.Core.List.{List, [], ◌∷◌, ◌++◌, map}
use Prim.Native.Nat.{ℕ, zero, suc, ◌+◌, ◌-◌, ◌*◌, ◌/◌, ◌%◌, ◌≤◌, ◌<◌}
use native.Mathlib.Nat.{add-zero, mod-lt, mod-eq_of_lt, add-mod_left, add-mul-mod_self_left, div-add-mod}
use native.Mathlib.Decide.{dec_lt}
use native.Mathlib.Omega.{arith}
use lib.ListN.{length, get_or, length-map}
use Rattle.std.specs.Prelude.{Option, None, Some}
use Rattle.scan.specs.declared.Id.{Id}
use Rattle.scan.specs.Marks.{lead_of}
use Rattle.scan.specs.Streams.{IdAt, id_from, id_width}
use Rattle.fields.specs.declared.Found.{Found}
use Rattle.fields.specs.Rings.{cells_of}
use Rattle.fields.specs.DataMarks.{mark_behind}
use Rattle.fields.specs.Rounds.{IdWithin, FirstId}
use Rattle.fields.proofs.Rings.{each_round}
use Rattle.fields.proofs.Ids.{next_id_lem, no_id, later_ids, round}
use Rattle.fields.proofs.Shift as shift
use Rattle.picture.specs.declared.Shape.{Shape}
use Rattle.list.specs.Lines.{head_text, id_text, count_text}
use Rattle.list.specs.Listing.{id_line, id_lines_by, next_from, id_lines_from, id_lines, joined, listing_text}
use Rattle.list.specs.Plain.{IdOn, Member, Rising, ByCell, begins, id_line_at}
use Rattle.scan.proofs.Marks.{lead_most}

-- ---- an ID of the ring is met in the second round

module _ (mfm : Bool) (row : List ℕ) where
  abbrev cells : ℕ → ℕ
  cells = cells_of row

  rounds : (place q : ℕ) → cells (place + length row * q) ≡ cells place
  unfolding cells_of
  rounds place q = ap (λ (n : ℕ). get_or row n 0) (add-mul-mod_self_left place (length row) q)

  -- two places that are rounds apart have the same cells from there on, and so the same ID
  same_cells : (a b q n : ℕ) → a + length row ≡ b + length row * q → cells (a + n) ≡ cells (b + n)
  same_cells a b q n e =
      let far : a + n + length row ≡ b + n + length row * q = omega (arith, e) in
      sym (each_round row (a + n)) ∙ ap cells far ∙ rounds (b + n) q

  same_id : (a b q : ℕ) → a + length row ≡ b + length row * q → IdAt mfm cells a → IdAt mfm cells b
  same_id a b q e h =
      let here : IdAt mfm (shift.from cells a) 0 = shift.id_back cells a mfm 0 (rw add-zero h) in
      let there : IdAt mfm (shift.from cells b) 0 =
      subst (λ (s : ℕ → ℕ). IdAt mfm s 0) (λ i n. same_cells a b q n e i) here in
      rw add-zero at (shift.id_there cells b mfm 0 there)

  module _ (long : 3 ≤ length row) where
    short : lead_of mfm ≤ length row
    short = omega (arith, lead_most mfm)

    -- from the first lead of the second round up to six cells after that round
    abbrev InRound : ℕ → Type 0
    InRound k = IdWithin mfm cells (length row - lead_of mfm) (length row + length row + 6) (begins mfm row k)

    -- the IDs that stand there are the ring's
    on_ring : (k : ℕ) → InRound k ↔ IdOn mfm row k
    on_ring k = (there, back)
      where
        there : InRound k → IdOn mfm row k
        there w =
            let (low, high, stands) = (round mfm cells (length row) (begins mfm row k) short).0 w in
            let behind : begins mfm row k + lead_of mfm ≡ length row + k = omega (arith, short) in
            record {
              place = begins mfm row k;
              stands = stands;
              fe =
                  ap (λ (n : ℕ). n % length row) behind
                  ∙ add-mod_left (length row) k
                  ∙ mod-eq_of_lt (omega arith);
            }

        back : IdOn mfm row k → InRound k
        back on =
            let q = (on.place + lead_of mfm) / length row in
            let parts : length row * q + (on.place + lead_of mfm) % length row ≡ on.place + lead_of mfm =
            div-add-mod (on.place + lead_of mfm) (length row) in
            let some : 0 < length row = omega arith in
            let below : k < length row = rw on.fe at (mod-lt (on.place + lead_of mfm) some) in
            let apart : on.place + length row ≡ begins mfm row k + length row * q = omega (arith, parts, on.fe, short) in
            (round mfm cells (length row) (begins mfm row k) short).1 (
              omega (arith, short),
              omega (arith, short),
              same_id on.place (begins mfm row k) q apart on.stands,
            )

-- ---- the lines, ID by ID

module _ (mfm : Bool) (row : List ℕ) (short : lead_of mfm ≤ length row) where
  abbrev end : ℕ
  end = length row + length row + 6

  -- lines of the IDs that stand from a place on
  record Rest (from : ℕ) (lines : List (List ℕ)) : Type 0 where
    fes : List ℕ
    every : (k : ℕ) → Member k fes ↔ IdWithin mfm (cells_of row) from end (begins mfm row k)
    order : Rising fes
    same : lines ≡ map (id_line_at mfm row) fes

  none : (from : ℕ) → ((a : ℕ) → IdWithin mfm (cells_of row) from end a → ⊥) → Rest from []
  unfolding Member Rising
  none from nothing =
      record {
        fes = [];
        every = λ k. (λ (e : ⊥). absurd e, λ w. nothing (begins mfm row k) w);
        order = tt;
        same = refl;
      }

  module _ (from a : ℕ) (id : Id) (low : length row - lead_of mfm ≤ from) (f : FirstId mfm (cells_of row) from end a id) where
    -- the cell of the next ID's FE
    abbrev fe : ℕ
    fe = a + lead_of mfm - length row

    its : begins mfm row fe ≡ a
    its = omega (arith, f.within.low)

    line : id_line mfm row id (a + id_width mfm) ≡ id_line_at mfm row fe
    unfolding id_line id_line_at
    line =
        let cell : a + id_width mfm - 7 - length row ≡ fe = omega arith in
        ap₂ (λ (n : ℕ) (x : Id). id_text n x (mark_behind mfm row (a + id_width mfm))) cell f.says
        ∙ ap (λ (p : ℕ). id_text fe (id_from mfm (cells_of row) p) (mark_behind mfm row (p + id_width mfm))) (sym its)

    more : (lines : List (List ℕ)) → Rest (a + id_width mfm) lines → Rest from (id_line mfm row id (a + id_width mfm) ∷ lines)
    unfolding Member Rising
    more lines rest =
        record {
          fes = fe ∷ rest.fes;
          every = λ k. (there k, back k);
          order = (λ l among. omega (arith, ((rest.every l).0 among).low), rest.order);
          same = ap₂ (λ (l : List ℕ) (ls : List (List ℕ)). l ∷ ls) line rest.same;
        }
      where
        there : (k : ℕ) → (k ≡ fe) ⊎ Member k rest.fes → IdWithin mfm (cells_of row) from end (begins mfm row k)
        there k (inl e) = rw (e, its) f.within
        there k (inr among) =
            let w = (rest.every k).0 among in
            record { low = omega (arith, f.within.low, w.low); high = w.high; stands = w.stands }

        back : (k : ℕ) → IdWithin mfm (cells_of row) from end (begins mfm row k) → (k ≡ fe) ⊎ Member k rest.fes
        back k w = by (dec_lt (begins mfm row k) a) (dec_lt a (begins mfm row k))
          where
            by : Dec (begins mfm row k < a) → Dec (a < begins mfm row k) → (k ≡ fe) ⊎ Member k rest.fes
            by (yes l) d = absurd (f.first (begins mfm row k) l w)
            by (no l) (yes r) =
                inr ((rest.every k).1 (later_ids mfm (cells_of row) from end a (begins mfm row k) f.within.stands r w))
            by (no l) (no r) = inl (omega arith)

  -- so many lines are enough: every ID has a cell of its own
  turn : (n from : ℕ) → length row - lead_of mfm ≤ from → end ≤ from + suc n + 6 + lead_of mfm
      → ((next : ℕ) → length row - lead_of mfm ≤ next → end ≤ next + n + 6 + lead_of mfm → Rest next (id_lines_from mfm row n next))
      → (f : Option Found) → next_from mfm row from ≡ f
      → Rest from (id_lines_by mfm row (λ behind. id_lines_from mfm row n behind) f)
  unfolding id_lines_by
  turn n from low enough rest None e = none from ((no_id mfm row from end).0 e)
  turn n from low enough rest (Some found) e =
      let (a, p, f) = (next_id_lem mfm row from end found.id found.behind).0 e in
      let on : from ≤ a = f.within.low in
      rw (← p)
      (more from a found.id low f (id_lines_from mfm row n (a + id_width mfm)) (rest (a + id_width mfm) (omega arith) (omega arith)))

  lines_from : (n from : ℕ) → length row - lead_of mfm ≤ from → end ≤ from + n + 6 + lead_of mfm
      → Rest from (id_lines_from mfm row n from)
  unfolding id_lines_from
  lines_from zero from low enough = none from (λ a w. absurd (omega (arith, w.low, w.high)))
  lines_from (suc n) from low enough =
      turn n from low enough (λ next further more. lines_from n next further more) (next_from mfm row from) refl

-- ---- the listing

-- there is one list of the cells of all FEs
behind_first : (k l : ℕ) (rest : List ℕ) → Member l (k ∷ rest) → k < l → Member l rest
unfolding Member
behind_first k l rest (inl e) low = absurd (omega arith)
behind_first k l rest (inr among) low = among

first_least : (k l : ℕ) (rest : List ℕ) → Rising (k ∷ rest) → Member l (k ∷ rest) → k ≤ l
unfolding Member Rising
first_least k l rest rising (inl e) = omega arith
first_least k l rest rising (inr among) = omega (arith, rising.0 l among)

same_list : (x y : List ℕ) → Rising x → Rising y
    → ((k : ℕ) → Member k x → Member k y) → ((k : ℕ) → Member k y → Member k x) → x ≡ y
unfolding Member Rising
same_list [] [] p q there back = refl
same_list [] (l ∷ y) p q there back = absurd (back l (inl refl))
same_list (k ∷ x) [] p q there back = absurd (there k (inl refl))
same_list (k ∷ x) (l ∷ y) p q there back =
    let low : l ≤ k = first_least l k y q (there k (inl refl)) in
    let high : k ≤ l = first_least k l x p (back l (inl refl)) in
    let same : k ≡ l = omega arith in
    ap₂ (λ (n : ℕ) (ns : List ℕ). n ∷ ns) same
    (same_list x y p.1 q.1
    (λ n among. behind_first l n y (there n (inr among)) (omega (arith, p.0 n among)))
    (λ n among. behind_first k n x (back n (inr among)) (omega (arith, q.0 n among))))

pub one_order : (mfm : Bool) (row x y : List ℕ) → ByCell mfm row x → ByCell mfm row y → x ≡ y
one_order mfm row x y p q =
    same_list x y p.order q.order
    (λ k among. (q.every k).1 ((p.every k).0 among))
    (λ k among. (p.every k).1 ((q.every k).0 among))

module _ (mfm : Bool) (row : List ℕ) (long : 3 ≤ length row) where
  -- "IDs by cell of FE, round the ring"
  pub lists_all : (fes : List ℕ) × ByCell mfm row fes × (id_lines mfm row ≡ map (id_line_at mfm row) fes)
  unfolding id_lines
  lists_all =
      let first = length row - lead_of mfm in
      let rest = lines_from mfm row (short mfm row long) (length row) first (omega arith) (omega arith) in (
        rest.fes,
        record {
          every =
              λ k. (
                λ among. (on_ring mfm row long k).0 ((rest.every k).0 among),
                λ on. (rest.every k).1 ((on_ring mfm row long k).1 on),
              );
          order = rest.order;
        },
        rest.same,
      )

-- the listing of a picture: its head, a line for each ID of the ring and for no others, in order, and how many they are
pub lists : (s : Shape) (track side : ℕ) (row fes : List ℕ) → 3 ≤ length row → ByCell s.mfm row fes
    → listing_text s track side row
    ≡ head_text s.letter track side ++ joined (map (id_line_at s.mfm row) fes) ++ count_text (length fes)
unfolding listing_text
lists s track side row fes long by_cell =
    let (found, order, lines) = lists_all s.mfm row long in
    let all : id_lines s.mfm row ≡ map (id_line_at s.mfm row) fes =
    lines ∙ ap (map (id_line_at s.mfm row)) (one_order s.mfm row found fes order by_cell) in
    ap (λ (ls : List (List ℕ)). head_text s.letter track side ++ joined ls ++ count_text (length ls)) all
    ∙ ap (λ (n : ℕ). head_text s.letter track side ++ joined (map (id_line_at s.mfm row) fes) ++ count_text n)
    (length-map fes (id_line_at s.mfm row))

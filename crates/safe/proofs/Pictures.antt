-- Demand 1 for the picture reader: of a picture of a known kind each number is given exactly in its turn. Assumes nothing.
use mathlib.Core.Path.{◌≡◌, refl, sym, ◌∙◌}
use mathlib.Core.Bool.{Bool, true, false}
use mathlib.Core.List.{List}
use mathlib.Core.Logic.{◌⊎◌, inl, inr, ⊎_elim}
use Prim.Native.Nat.{ℕ, zero, suc, ◌+◌, ◌-◌, ◌*◌, ◌/◌, ◌%◌, ◌^◌, ◌≤◌, ◌<◌}
use native.Mathlib.Nat.{eq-or-lt_of_le}
use native.Mathlib.Omega.{arith}
use lib.Dec.{leb, ltb}
use lib.ListN.{length, get_or}
use borrow.Author.Tests.{leb-true, leb-false, ltb-true, ltb-false, eqb-true, eqb-false}
use Rattle.common.proofs.Cases.{by_cond, never, both, all}
use Rattle.common.specs.Bits.{bit_of}
use Rattle.refusals.specs.declared.Refusal.{Refusal}
use Rattle.refusals.specs.declared.Refusal.TheVariants.{End, Side, Room}
use Rattle.refusals.specs.Numbers.{number_of, number_in}
use Rattle.refusals.proofs.Outcomes.{number_some}
use Rattle.picture.specs.declared.Answer.{Answer}
use Rattle.picture.specs.declared.Kind.{Kind}
use Rattle.picture.specs.Kinds.{kind_of, shape_of, length_of}
use Rattle.picture.specs.Layout.{flag_bytes, body_length, flag_in, padding_clear}
use Rattle.picture.specs.Reader.{sound_of, judged_for, refused_by, taken_from, answer_of}
use Rattle.picture.proofs.Padding.{spare_clear_lem, clear_spare}
use Rattle.picture.proofs.Laws.{kind_for}
use Rattle.safe.specs.Demand1.{InTurn}
use Rattle.safe.specs.Pictures.{Form, flags_last, IsKind, fm, mfm, eight_inch_fm, eight_inch_mfm, kind_byte, side_byte, flag_bit, PaddingSet, reader_order, Empty, NoKind, EndsEarly, NoRoom, Unsound, AtReader, empty, no_kind, ends_early, no_room, unsound}
use Rattle.safe.proofs.Refusals.{first_turn, nothing}

-- ---- padding

module _ (bit : ℕ → Bool) (from : ℕ) where
  abbrev SetIn : ℕ → Type 0
  SetIn n = (i : ℕ) × (from ≤ i) × (i < from + n) × (bit i ≡ true)

  abbrev ClearIn : ℕ → Type 0
  ClearIn n = (i : ℕ) → from ≤ i → i < from + n → bit i ≡ false

  -- of n bits one is set, or all are clear
  search : (n : ℕ) → SetIn n ⊎ ClearIn n
  search zero = inr (λ i low high. absurd (omega arith))
  search (suc n) = by (bit (from + n)) refl (search n)
    where
      by : (b : Bool) → bit (from + n) ≡ b → SetIn n ⊎ ClearIn n → SetIn (suc n) ⊎ ClearIn (suc n)
      by true e found = inl (from + n, omega arith, omega arith, e)
      by false e (inl (i, low, high, set)) = inl (i, low, omega arith, set)
      by false e (inr none) =
          inr
          (λ i low high.
          ⊎_elim (λ (at : i ≡ from + n). rw at e) (λ (below : i < from + n). none i low below)
          (eq-or-lt_of_le (omega arith)))

pub flag_clear : (last i : ℕ) → bit_of last (7 - i % 8) ≡ false → flag_in last i ≡ 0
unfolding bit_of flag_in
flag_clear last i e = let h : last / 2 ^ (7 - i % 8) % 2 ≡ 1 → ⊥ = eqb-false _ _ e in omega arith

pub flag_set : (last i : ℕ) → bit_of last (7 - i % 8) ≡ true → flag_in last i ≡ 1
unfolding bit_of flag_in
flag_set last i e = eqb-true _ _ e

-- what the definitions say of a kind
abbrev pub form_of : Kind → Form
form_of k = flags_last (shape_of k).letter (shape_of k).mfm (length_of k) (body_length k)

module _ (bytes : List ℕ) (k : Kind) where
  -- the byte of a padding bit is the picture's last
  last_byte : (i : ℕ) → length_of k ≤ i → (form_of k).flag_byte i < 1 + body_length k → (form_of k).flag_byte i ≡ body_length k
  unfolding body_length
  last_byte i beyond inside = omega arith

  -- how many of them there are
  abbrev spare : ℕ
  spare = flag_bytes (length_of k) * 8 - length_of k

  padding_set : padding_clear k bytes ≡ false → PaddingSet bytes (form_of k)
  unfolding body_length
  padding_set e = ⊎_elim found clear (search (flag_bit bytes (form_of k)) (length_of k) spare)
    where
      found : SetIn (flag_bit bytes (form_of k)) (length_of k) spare → PaddingSet bytes (form_of k)
      found (i, low, high, set) = record { bit = i; beyond = low; inside = omega arith; set = set }

      clear : ClearIn (flag_bit bytes (form_of k)) (length_of k) spare → PaddingSet bytes (form_of k)
      clear none =
          let h =
          clear_spare (length_of k) (get_or bytes (body_length k) 0)
          (λ i low high.
          flag_clear (get_or bytes (body_length k) 0) i
          (rw (last_byte i low (omega arith)) at (none i low (omega arith)))) in
          never (cc)

  padding_unset : padding_clear k bytes ≡ true → PaddingSet bytes (form_of k) → ⊥
  unfolding body_length
  padding_unset e p =
      let at = last_byte p.bit p.beyond p.inside in
      let low = p.beyond in
      let high = p.inside in
      let none = spare_clear_lem (length_of k) (get_or bytes (body_length k) 0) e p.bit low (omega arith) in
      let one = flag_set (get_or bytes (body_length k) 0) p.bit (rw at at p.set) in
      absurd (omega arith)

-- ---- kinds

-- the form of a kind byte is that of the definitions, so a byte is of one kind
kind_form : {b : ℕ} {form : Form} → IsKind b form → form ≡ form_of (kind_for b)
unfolding kind_of shape_of body_length
kind_form (fm e) = rw e refl
kind_form (mfm e) = rw e refl
kind_form (eight_inch_fm e) = rw e refl
kind_form (eight_inch_mfm e) = rw e refl

pub same_kind : {b : ℕ} {form form' : Form} → IsKind b form → IsKind b form' → form ≡ form'
same_kind is is' = kind_form is ∙ sym (kind_form is')

module _ (bytes : List ℕ) (room : ℕ) where
  -- an answer's number is given in its turn, and where it is 0 its kind is that of the first byte
  abbrev pub Told : Answer → Type 0
  Told r =
      InTurn reader_order (AtReader bytes room) (number_in r.outcome)
      × (number_in r.outcome ≡ 0 → IsKind (kind_byte bytes) (form_of r.kind))

  -- a refusal whose number is that of a turn
  pub turn : (t : ℕ) (refusal : Refusal) → number_of refusal ≡ reader_order t
      → AtReader bytes room t → ((s : ℕ) → AtReader bytes room s → t ≤ s) → Told (refused_by refusal)
  unfolding refused_by number_in
  turn t refusal is at first =
      let some = number_some refusal in (
        rw is (first_turn reader_order (AtReader bytes room) t (omega arith) at first),
        λ none. absurd (omega (arith, some, none)),
      )

  pub reader_rows : (P : ℕ → Type 0)
      → (Empty bytes → P 0)
      → (NoKind bytes → P 1)
      → ((form : Form) → IsKind (kind_byte bytes) form → EndsEarly bytes form → P 2)
      → ((form : Form) → IsKind (kind_byte bytes) form → NoRoom room form → P 3)
      → ((form : Form) → IsKind (kind_byte bytes) form → Unsound bytes form → P 4)
      → (t : ℕ)
      → AtReader bytes room t
      → P t
  reader_rows P a b c d e t (empty h) = a h
  reader_rows P a b c d e t (no_kind h) = b h
  reader_rows P a b c d e t (ends_early form k h) = c form k h
  reader_rows P a b c d e t (no_room form k h) = d form k h
  reader_rows P a b c d e t (unsound form k h) = e form k h

  -- the turns after that of the kind, which is known
  module _ (k : Kind) (is : IsKind (kind_byte bytes) (form_of k)) (some : Empty bytes → ⊥) where
    known : NoKind bytes → ⊥
    known none = none (form_of k) is

    long : body_length k < length bytes → (form : Form) → IsKind (kind_byte bytes) form → EndsEarly bytes form → ⊥
    long h form other short = let early : EndsEarly bytes (form_of k) = rw (same_kind other is) at short in omega arith

    wide : length_of k ≤ room → (form : Form) → IsKind (kind_byte bytes) form → NoRoom room form → ⊥
    wide h form other narrow = let none : NoRoom room (form_of k) = rw (same_kind other is) at narrow in omega arith

    clean : sound_of k bytes ≡ true → (form : Form) → IsKind (kind_byte bytes) form → Unsound bytes form → ⊥
    unfolding sound_of
    clean e form other =
        let h = both (leb (side_byte bytes) 1) (padding_clear k bytes) e in
        let low = leb-true (side_byte bytes) 1 h.0 in
        ⊎_elim (λ (high : 1 < side_byte bytes). absurd (omega arith))
        (λ (set : PaddingSet bytes form). padding_unset bytes k h.1 (rw (same_kind other is) at set))

    unclean : sound_of k bytes ≡ false → Unsound bytes (form_of k)
    unfolding sound_of
    unclean e = by (leb (side_byte bytes) 1) refl (padding_clear k bytes) refl
      where
        by : (b : Bool) → leb (side_byte bytes) 1 ≡ b → (c : Bool) → padding_clear k bytes ≡ c
            → Unsound bytes (form_of k)
        by false f c g = inl (leb-false _ _ f)
        by true f false g = inr (padding_set bytes k g)
        by true f true g = let h = all f g in never (cc)

    pub kind_given : Told (answer_of bytes (judged_for bytes room k))
    unfolding answer_of judged_for taken_from number_in number_of
    kind_given =
        by_cond (λ v. Told (answer_of bytes v)) (leb (length bytes) (body_length k))
        (λ e.
        let short = leb-true (length bytes) (body_length k) e in
        turn 2 End refl (ends_early (form_of k) is (omega arith))
        (reader_rows (λ t. 2 ≤ t) (λ h. absurd (some h)) (λ h. absurd (known h)) (λ form j h. omega arith)
        (λ form j h. omega arith) (λ form j h. omega arith)))
        (λ e.
        let there = leb-false (length bytes) (body_length k) e in
        by_cond (λ v. Told (answer_of bytes v)) (ltb room (length_of k))
        (λ f.
        turn 3 Room refl (no_room (form_of k) is (ltb-true room (length_of k) f))
        (reader_rows (λ t. 3 ≤ t) (λ h. absurd (some h)) (λ h. absurd (known h))
        (λ form j h. absurd (long there form j h)) (λ form j h. omega arith) (λ form j h. omega arith)))
        (λ f.
        let fits = ltb-false room (length_of k) f in
        by_cond (λ v. Told (answer_of bytes v)) (sound_of k bytes)
        (λ g.
        (nothing (AtReader bytes room) (reader_rows (λ t. ⊥) some known (long there) (wide fits) (clean g)), λ _. is))
        (λ g.
        turn 4 Side refl (unsound (form_of k) is (unclean g))
        (reader_rows (λ t. 4 ≤ t) (λ h. absurd (some h)) (λ h. absurd (known h))
        (λ form j h. absurd (long there form j h)) (λ form j h. absurd (wide fits form j h))
        (λ form j h. omega arith)))))

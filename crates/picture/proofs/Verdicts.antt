-- The reader takes a picture exactly when nothing of document 01's table is against it. Assumes nothing.
use mathlib.Core.Path.{◌≡◌, refl, sym, ap, ◌∙◌, subst}
use mathlib.Core.Bool.{true}
use mathlib.Core.List.{List}
use mathlib.Core.Logic.{◌⊎◌, inl, inr}
use Prim.Native.Nat.{ℕ, ◌≤◌, ◌<◌}
use native.Mathlib.Omega.{arith}
use lib.Dec.{ltb, leb, eqb}
use lib.ListN.{length, get_or}
use borrow.Author.Tests.{leb-false, ltb-false, lt-leb, le-ltb, ne_eqb}
use Rattle.std.specs.Prelude.{Result, Ok, Err}
use Rattle.common.proofs.Cases.{by_cond, never}
use Rattle.refusals.specs.declared.Refusal.{Refusal}
use Rattle.refusals.specs.declared.Refusal.TheVariants.{End, Side, Room}
use Rattle.refusals.specs.Numbers.{number_in}
use Rattle.refusals.proofs.Outcomes.{refused_some}
use Rattle.picture.specs.declared.Kind.{Kind}
use Rattle.picture.specs.Kinds.{kind_of, length_of}
use Rattle.picture.specs.Layout.{body_length}
use Rattle.picture.specs.Reader.{sound_of, Verdict, judged_for, judged_of, verdict_of, refused_by, taken_from, answer_of}

module _ (bytes : List ℕ) (room : ℕ) where
  -- all its bytes are there, its cells find room, its side is 0 or 1 and its padding clear
  pub record Whole (k : Kind) : Type 0 where
    pub there : body_length k < length bytes
    pub wide : length_of k ≤ room
    pub clean : sound_of k bytes ≡ true

  -- what the reader says of a kind byte: the kind is known and its picture whole, or a refusal
  Judged : Result Kind Refusal → Verdict → Type 0
  Judged n v =
      ((k : Kind) × (n ≡ Ok k) × (v ≡ Ok k) × Whole k) ⊎ ((refusal : Refusal) × (v ≡ Err refusal))

  judged_known : (k : Kind) → Judged (Ok k) (judged_for bytes room k)
  unfolding Judged judged_for
  judged_known k =
      by_cond (Judged (Ok k)) (leb (length bytes) (body_length k)) (λ _. inr (End, refl))
      (λ long. by_cond (Judged (Ok k)) (ltb room (length_of k)) (λ _. inr (Room, refl))
      (λ fits. by_cond (Judged (Ok k)) (sound_of k bytes)
      (λ is. inl (k, refl, refl, record { there = leb-false _ _ long; wide = ltb-false _ _ fits; clean = is }))
      (λ _. inr (Side, refl))))

  judged_named : (n : Result Kind Refusal) → Judged n (judged_of bytes room n)
  unfolding Judged judged_of
  judged_named (Ok k) = judged_known k
  judged_named (Err refusal) = inr (refusal, refl)

  judged : Judged (kind_of (get_or bytes 0 0)) (verdict_of bytes room)
  unfolding Judged verdict_of
  judged =
      by_cond (Judged (kind_of (get_or bytes 0 0))) (eqb (length bytes) 0) (λ _. inr (End, refl))
      (λ _. judged_named (kind_of (get_or bytes 0 0)))

  -- taken: the kind byte is a kind's, and the picture is whole ..
  pub sound_whole : (k : Kind) → verdict_of bytes room ≡ Ok k → (kind_of (get_or bytes 0 0) ≡ Ok k) × Whole k
  unfolding Judged
  sound_whole k e = by judged
    where
      by : Judged (kind_of (get_or bytes 0 0)) (verdict_of bytes room) → (kind_of (get_or bytes 0 0) ≡ Ok k) × Whole k
      by (inl (j, known, is, whole)) = let same : j ≡ k = cc in (known ∙ ap Ok same, subst Whole same whole)
      by (inr (refusal, is)) = never (cc)

  -- .. and the other way round
  pub whole_sound : (k : Kind) → kind_of (get_or bytes 0 0) ≡ Ok k → Whole k → verdict_of bytes room ≡ Ok k
  unfolding verdict_of judged_of judged_for
  whole_sound k named w =
      let some = ne_eqb (length bytes) 0 (λ e. absurd (omega (arith, w.there))) in
      simp (some, named, lt-leb _ _ w.there, le-ltb _ _ w.wide, w.clean)

  -- where the answer's number is 0, a picture of its kind was taken
  pub done_sound : number_in (answer_of bytes (verdict_of bytes room)).outcome ≡ 0
      → verdict_of bytes room ≡ Ok (answer_of bytes (verdict_of bytes room)).kind
  unfolding Judged answer_of taken_from refused_by
  done_sound e = by judged
    where
      by : Judged (kind_of (get_or bytes 0 0)) (verdict_of bytes room)
          → verdict_of bytes room ≡ Ok (answer_of bytes (verdict_of bytes room)).kind
      by (inl (k, known, is, whole)) = is ∙ ap (λ (v : Verdict). Ok (answer_of bytes v).kind) (sym is)
      by (inr (refusal, is)) = absurd (refused_some refusal (ap (λ (v : Verdict). number_in (answer_of bytes v).outcome) (sym is) ∙ e))

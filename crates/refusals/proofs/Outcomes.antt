-- An outcome is `done` or a refusal, and its number says which. Assumes nothing.
use Rattle.std.proofs.Common.{◌≡◌, ◌<◌, true, false, cond, ℕ, eqb, Ok, Err, refl, sym, ap, ◌∙◌, arith}
use Rattle.std.specs.Result.{is_ok, is_err}
use Rattle.refusals.specs.declared.Refusal.{Refusal}
use Rattle.refusals.specs.declared.Refusal.TheVariants.{Length, Machine, Track, Cell, Register, Busy, Command, Kind, End, Side, Sector, Room}
use Rattle.refusals.specs.Numbers.{Outcome, done, refused, number_of, number_in}

-- ---- the test whether a call was done

pub ok-done : (o : Outcome) → is_ok o ≡ true → o ≡ done
ok-done (Ok x) e = refl
ok-done (Err r) e = cc

pub not_ok-done : (o : Outcome) → is_ok o ≡ false → o ≡ done → ⊥
not_ok-done o e d = let t : is_ok o ≡ true = ap is_ok d in cc

pub done-ok : (o : Outcome) → o ≡ done → is_ok o ≡ true
done-ok o d = ap is_ok d

pub not_done-ok : (o : Outcome) → (o ≡ done → ⊥) → is_ok o ≡ false
not_done-ok (Ok x) n = absurd (n refl)
not_done-ok (Err r) n = refl

pub not_err-done : (o : Outcome) → is_err o ≡ false → o ≡ done
not_err-done (Ok x) e = refl
not_err-done (Err r) e = cc

pub err-done : (o : Outcome) → is_err o ≡ true → o ≡ done → ⊥
err-done o e d = let t : is_err o ≡ false = ap is_err d in cc

pub not_done-err : (o : Outcome) → (o ≡ done → ⊥) → is_err o ≡ true
not_done-err (Ok x) n = absurd (n refl)
not_done-err (Err r) n = refl

pub refused-done : (r : Refusal) → refused r ≡ done → ⊥
refused-done r e = cc

pub done_decided : (o : Outcome) → Dec (o ≡ done)
done_decided (Ok x) = yes refl
done_decided (Err r) = no (refused-done r)

-- ---- numbers

-- the outcome that a number names
named_by : ℕ → Outcome
named_by n =
    cond (eqb n 1) (refused Length) (cond (eqb n 2) (refused Machine) (cond (eqb n 3) (refused Track)
    (cond (eqb n 4) (refused Cell) (cond (eqb n 5) (refused Register) (cond (eqb n 6) (refused Busy)
    (cond (eqb n 7) (refused Command) (cond (eqb n 8) (refused Kind) (cond (eqb n 9) (refused End)
    (cond (eqb n 10) (refused Side) (cond (eqb n 11) (refused Sector) (cond (eqb n 12) (refused Room) done)))))))))))

names_its_own : (o : Outcome) → named_by (number_in o) ≡ o
unfolding named_by number_in number_of
names_its_own (Ok x) = refl
names_its_own (Err Length) = refl
names_its_own (Err Machine) = refl
names_its_own (Err Track) = refl
names_its_own (Err Cell) = refl
names_its_own (Err Register) = refl
names_its_own (Err Busy) = refl
names_its_own (Err Command) = refl
names_its_own (Err Kind) = refl
names_its_own (Err End) = refl
names_its_own (Err Side) = refl
names_its_own (Err Sector) = refl
names_its_own (Err Room) = refl

-- no two outcomes have one number
pub same_number : (o o' : Outcome) → number_in o ≡ number_in o' → o ≡ o'
same_number o o' e = sym (names_its_own o) ∙ ap named_by e ∙ names_its_own o'

pub number_done : (o : Outcome) → number_in o ≡ 0 → o ≡ done
unfolding number_in
number_done o e = same_number o done e

pub done_number : (o : Outcome) → o ≡ done → number_in o ≡ 0
unfolding number_in
done_number o d = ap number_in d

pub nonzero-done : (o : Outcome) → (number_in o ≡ 0 → ⊥) → o ≡ done → ⊥
nonzero-done o some d = some (done_number o d)

-- the number of a refusal is not 0
pub refused_some : (r : Refusal) → number_in (refused r) ≡ 0 → ⊥
refused_some r e = refused-done r (number_done (refused r) e)

pub number_some : (r : Refusal) → 0 < number_of r
unfolding number_in
number_some r = let some : number_of r ≡ 0 → ⊥ = refused_some r in omega arith

-- Document 01, "What acceptance looks for": "For each input, refusals too, that statement leaves one possible answer and one
-- possible state of lent cells". Assumes nothing.
use Rattle.std.specs.Prelude.{◌≡◌}

-- The statement of a call is its contract, as the prover hands it to whoever makes the call (the call's `Reads.Learnt`): a
-- relation of the arguments, the result and the arguments at exit. Two results that it allows for one input are equal.
abbrev pub OneAnswer : {A R E : Type 0} → (A → R → E → Type 0) → Type 0
OneAnswer {A} {R} {E} Learnt = (a : A) (r r' : R) (e e' : E) → Learnt a r e → Learnt a r' e' → r ≡ r'

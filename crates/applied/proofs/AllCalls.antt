-- The calls of a course as one use. Assumes nothing.
use mathlib.Core.Path.{◌≡◌, refl, sym, ap, ◌∙◌}
use mathlib.Core.Bool.{Bool, true}
use Prim.Native.Nat.{ℕ, ◌+◌}
use native.Mathlib.Nat.{add_assoc}
use native.Mathlib.Omega.{arith}
use Rattle.common.proofs.Cases.{both, all}
use Rattle.hosts.specs.Hosts.{Host, Desk}
use Rattle.uses.specs.Uses.{Made, Use, over, next, throughout, no_command, passed_in, passed, made_then, host_of}
use Rattle.uses.specs.Courses.{Accepted, since, Course, took, course_then}

-- ---- one call more

unfoldable pub then_made : {d e f : Desk} → Use d e → Made e f → Use d f
then_made over last = next last over
then_made (next made rest) last = next made (then_made rest last)

then_host : {d e f : Desk} (u : Use d e) (last : Made e f) (h : Host) → host_of (then_made u last) h ≡ host_of u (made_then last h)
unfolding then_made host_of
then_host over last h = refl
then_host (next made rest) last h = ap (made_then made) (then_host rest last h)

then_passed : {d e f : Desk} (u : Use d e) (last : Made e f) → passed (then_made u last) ≡ passed u + passed_in last
unfolding then_made passed
then_passed over last = omega arith
then_passed (next made rest) last =
    ap (λ (n : ℕ). passed_in made + n) (then_passed rest last) ∙ sym (add_assoc (passed_in made) (passed rest) (passed_in last))

then_throughout : {d e f : Desk} (such : (d e : Desk) → Made d e → Bool) (u : Use d e) (last : Made e f)
    → throughout such u ≡ true
    → such e f last ≡ true
    → throughout such (then_made u last) ≡ true
unfolding then_made throughout
then_throughout such over last each it = all it refl
then_throughout such (next {d} {e} made rest) last each it =
    let (here, later) = both (such d e made) (throughout such rest) each in
    all here (then_throughout such rest last later it)

-- ---- a course

module _ {c : Accepted} (course : Course c) where
  unfoldable pub all_calls : Use (since c) course.after
  all_calls = then_made course.calls course.last

  pub all_host : (h : Host) → host_of all_calls h ≡ course_then course h
  unfolding all_calls
  all_host = then_host course.calls course.last

  pub all_passed : passed all_calls ≡ took course
  unfolding all_calls
  all_passed = then_passed course.calls course.last

  pub all_alone : throughout no_command all_calls ≡ true
  unfolding all_calls
  all_alone = then_throughout no_command course.calls course.last course.alone course.alone_last

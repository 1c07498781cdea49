-- The bytes that the calls of a use load into DR and read from it are those of the host that it is. Assumes nothing.
use mathlib.Core.Path.{◌≡◌, refl, sym, ap, ap₂, ◌∙◌}
use mathlib.Core.Bool.{Bool, true, false, cond}
use mathlib.Core.List.{List, [], ◌∷◌, ◌++◌, append-nil, append_assoc}
use Prim.Native.Nat.{ℕ, zero, suc, ◌+◌, ◌-◌}
use native.Mathlib.Nat.{zero-add, suc-add, add-zero, add-suc, add_assoc}
use native.Mathlib.Omega.{arith}
use lib.Dec.{eqb}
use Rattle.registers.specs.declared.Lines.{Lines}
use Rattle.wd.specs.declared.Machine.{Machine}
use Rattle.wd.specs.declared.Called.{Called}
use Rattle.wd.specs.declared.Read.{Read}
use Rattle.wd.specs.Reads.{read_register}
use Rattle.reachable.specs.ByteTimes.{machine_after, row_after}
use Rattle.hosts.specs.Hosts.{Call, loads, reads, called_of, Host, Desk, passes_under, at}
use Rattle.served.specs.Served.{given, given_in, returned, returned_in}
use Rattle.uses.specs.Uses.{Made, load, read, byte_time_call, run, Use, over, next, passed_in, passed, calls_first, calls_then, starts_with, passes_then, made_then, host_of}
use Rattle.uses.specs.Courses.{Accepted, since, Course, took, course_then}
use Rattle.uses.specs.Sessions.{loaded_by, bytes_loaded, read_by, bytes_read}
use Rattle.uses.proofs.EveryUse.{desk_of, called_at, turned, at_call, at_time, byte_time_turns, run_turns}
use Rattle.uses.proofs.Endings.{last_passes}
use Rattle.std.specs.Result.{is_ok}

-- ---- the bytes loaded

given_more : (c : Call) (cs : List Call) → given (c ∷ cs) ≡ given (c ∷ []) ++ given cs
unfolding given
given_more (loads l number b byte) cs = by (eqb number 3)
  where
    by : (dr : Bool) → cond dr (b ∷ given cs) (given cs) ≡ cond dr (b ∷ []) [] ++ given cs
    by true = refl
    by false = refl
given_more (reads l number) cs = refl

given_call : (c : Call) (h : Host) (n : ℕ) → given_in (calls_then c h) (suc n) ≡ given (c ∷ []) ++ given_in h (suc n)
unfolding given_in calls_then calls_first
given_call c h zero = given_more c (h.calls zero)
given_call c h (suc n) =
    ap (λ (xs : List ℕ). xs ++ given (h.calls (suc n))) (given_call c h n)
    ∙ append_assoc (given (c ∷ [])) (given_in h (suc n)) (given (h.calls (suc n)))

given_times : (n : ℕ) (l : Lines) (h : Host) (k : ℕ) → given_in (passes_then n l h) (n + k) ≡ given_in h k
unfolding given_in passes_then starts_with given
given_times zero l h k = ap (given_in h) (zero-add k)
given_times (suc n) l h k = rw (suc-add n k) (shifted (n + k) ∙ given_times n l h k)
  where
    shifted : (j : ℕ) → given_in (passes_then (suc n) l h) (suc j) ≡ given_in (passes_then n l h) j
    shifted zero = refl
    shifted (suc j) = ap (λ (xs : List ℕ). xs ++ given ((passes_then n l h).calls j)) (shifted j)

given_made :
    {d e : Desk} (made : Made d e) (h : Host) (k : ℕ)
    → given_in (made_then made h) (passed_in made + suc k) ≡ loaded_by made ++ given_in h (suc k)
unfolding made_then passed_in loaded_by given
given_made (load l number b byte r told) h k = rw (zero-add (suc k)) (given_call (loads l number b byte) h k)
given_made (read l number r told) h k = rw (zero-add (suc k)) (given_call (reads l number) h k)
given_made (byte_time_call l r row told) h k = given_times _ l h (suc k)
given_made (run l limit r row told) h k = given_times _ l h (suc k)

given_none : (n : ℕ) (l : Lines) (h : Host) → given_in (passes_then n l h) n ≡ []
unfolding given_in
given_none n l h = ap (given_in (passes_then n l h)) (sym (add-zero n)) ∙ given_times n l h 0

-- within its own byte times a call loads nothing
given_within : {d e : Desk} (made : Made d e) (h : Host) → given_in (made_then made h) (passed_in made) ≡ []
unfolding made_then passed_in given_in
given_within (load l number b byte r told) h = refl
given_within (read l number r told) h = refl
given_within (byte_time_call l r row told) h = given_none (cond (is_ok r.outcome) 1 0) l h
given_within (run l limit r row told) h = given_none r.tally.passed l h

given_use :
    {d e : Desk} (u : Use d e) (h : Host) (k : ℕ)
    → given_in (host_of u h) (passed u + suc k) ≡ bytes_loaded u ++ given_in h (suc k)
unfolding host_of passed bytes_loaded
given_use over h k = rw (zero-add (suc k)) refl
given_use (next made rest) h k =
    ap (given_in (made_then made (host_of rest h)))
    (add_assoc (passed_in made) (passed rest) (suc k) ∙ ap (λ (n : ℕ). passed_in made + n) (add-suc (passed rest) k))
    ∙ given_made made (host_of rest h) (passed rest + k)
    ∙ ap (λ (n : ℕ). loaded_by made ++ given_in (host_of rest h) n) (sym (add-suc (passed rest) k))
    ∙ ap (λ (xs : List ℕ). loaded_by made ++ xs) (given_use rest h k)
    ∙ sym (append_assoc (loaded_by made) (bytes_loaded rest) (given_in h (suc k)))

-- ---- the bytes read

returned_more : (m : Machine) (c : Call) (cs : List Call) → returned m (c ∷ cs) ≡ returned m (c ∷ []) ++ returned (called_of m c) cs
unfolding returned
returned_more m (loads l number b byte) cs = refl
returned_more m (reads l number) cs = by (eqb number 3)
  where
    rest : List ℕ
    rest = returned (called_of m (reads l number)) cs

    by : (dr : Bool)
        → cond dr ((read_register m l number).byte ∷ rest) rest ≡ cond dr ((read_register m l number).byte ∷ []) [] ++ rest
    by true = refl
    by false = refl

returned_call :
    (c : Call) (h : Host) (d : Desk) (n : ℕ)
    → returned_in (calls_then c h) d (suc n) ≡ returned d.machine (c ∷ []) ++ returned_in h (called_at c d) (suc n)
unfolding returned_in calls_then calls_first at
returned_call c h d zero = returned_more d.machine c (h.calls zero)
returned_call c h d (suc n) =
    ap₂ (λ (xs : List ℕ) (e : Desk). xs ++ returned e.machine (h.calls (suc n))) (returned_call c h d n) (at_call c h d n)
    ∙ append_assoc (returned d.machine (c ∷ [])) (returned_in h (called_at c d) (suc n))
    (returned (at h (called_at c d) (suc n)).machine (h.calls (suc n)))

returned_times :
    (n : ℕ) (l : Lines) (h : Host) (d : Desk) (k : ℕ)
    → returned_in (passes_then n l h) d (n + k) ≡ returned_in h (turned n l d) k
unfolding returned_in passes_then starts_with returned machine_after row_after passes_under
returned_times zero l h d k = ap (returned_in h d) (zero-add k)
returned_times (suc n) l h d k = rw (suc-add n k) (shifted (n + k) ∙ returned_times n l h (passes_under l d) k)
  where
    shifted : (j : ℕ) → returned_in (passes_then (suc n) l h) d (suc j) ≡ returned_in (passes_then n l h) (passes_under l d) j
    shifted zero = refl
    shifted (suc j) =
        ap₂ (λ (xs : List ℕ) (e : Desk). xs ++ returned e.machine ((passes_then n l h).calls j)) (shifted j) (at_time l h n d j)

returned_made :
    {d e : Desk} (made : Made d e) (h : Host) (k : ℕ)
    → returned_in (made_then made h) d (passed_in made + suc k) ≡ read_by made ++ returned_in h e (suc k)
unfolding made_then passed_in read_by returned called_of
returned_made {d} (load l number b byte r told) h k =
    rw (zero-add (suc k))
    (returned_call (loads l number b byte) h d k
    ∙ ap (λ (q : Called). returned_in h (desk_of q.machine d.row) (suc k)) (sym told.told))
returned_made {d} (read l number r told) h k =
    rw (zero-add (suc k))
    (returned_call (reads l number) h d k
    ∙ ap
    (λ (q : Read). cond (eqb number 3) (q.byte ∷ []) [] ++ returned_in h (desk_of q.machine d.row) (suc k))
    (sym told.told))
returned_made {d} (byte_time_call l r row told) h k =
    returned_times _ l h d (suc k) ∙ ap (λ (e : Desk). returned_in h e (suc k)) (sym (byte_time_turns d l r row told))
returned_made {d} (run l limit r row told) h k =
    returned_times _ l h d (suc k) ∙ ap (λ (e : Desk). returned_in h e (suc k)) (sym (run_turns d l limit r row told))

returned_none : (n : ℕ) (l : Lines) (h : Host) (d : Desk) → returned_in (passes_then n l h) d n ≡ []
unfolding returned_in
returned_none n l h d = ap (returned_in (passes_then n l h) d) (sym (add-zero n)) ∙ returned_times n l h d 0

-- nor does it read any
returned_within : {d e : Desk} (made : Made d e) (h : Host) → returned_in (made_then made h) d (passed_in made) ≡ []
unfolding made_then passed_in returned_in
returned_within (load l number b byte r told) h = refl
returned_within (read l number r told) h = refl
returned_within {d} (byte_time_call l r row told) h = returned_none (cond (is_ok r.outcome) 1 0) l h d
returned_within {d} (run l limit r row told) h = returned_none r.tally.passed l h d

returned_use :
    {d e : Desk} (u : Use d e) (h : Host) (k : ℕ)
    → returned_in (host_of u h) d (passed u + suc k) ≡ bytes_read u ++ returned_in h e (suc k)
unfolding host_of passed bytes_read
returned_use over h k = rw (zero-add (suc k)) refl
returned_use (next {d} {e} {f} made rest) h k =
    ap (returned_in (made_then made (host_of rest h)) d)
    (add_assoc (passed_in made) (passed rest) (suc k) ∙ ap (λ (n : ℕ). passed_in made + n) (add-suc (passed rest) k))
    ∙ returned_made made (host_of rest h) (passed rest + k)
    ∙ ap (λ (n : ℕ). read_by made ++ returned_in (host_of rest h) e n) (sym (add-suc (passed rest) k))
    ∙ ap (λ (xs : List ℕ). read_by made ++ xs) (returned_use rest h k)
    ∙ sym (append_assoc (read_by made) (bytes_read rest) (returned_in h f (suc k)))

-- ---- the course of a command

module _ {c : Accepted} (course : Course c) where
  -- its last call makes byte times
  pub ends_on : passed course.calls + suc (passed_in course.last - 1) ≡ took course
  ends_on = omega (arith, last_passes c course)

  pub last_on : suc (passed_in course.last - 1) ≡ passed_in course.last
  last_on = omega (arith, last_passes c course)

module _ {c : Accepted} (course : Course c) (h : Host) where
  pub course_loaded : given_in (course_then course h) (took course) ≡ bytes_loaded course.calls
  course_loaded =
      ap (given_in (course_then course h)) (sym (ends_on course))
      ∙ given_use course.calls (made_then course.last h) (passed_in course.last - 1)
      ∙ ap (λ (n : ℕ). bytes_loaded course.calls ++ given_in (made_then course.last h) n) (last_on course)
      ∙ ap (λ (xs : List ℕ). bytes_loaded course.calls ++ xs) (given_within course.last h)
      ∙ append-nil (bytes_loaded course.calls)

  pub course_read : returned_in (course_then course h) (since c) (took course) ≡ bytes_read course.calls
  course_read =
      ap (returned_in (course_then course h) (since c)) (sym (ends_on course))
      ∙ returned_use course.calls (made_then course.last h) (passed_in course.last - 1)
      ∙ ap (λ (n : ℕ). bytes_read course.calls ++ returned_in (made_then course.last h) course.before n) (last_on course)
      ∙ ap (λ (xs : List ℕ). bytes_read course.calls ++ xs) (returned_within course.last h)
      ∙ append-nil (bytes_read course.calls)

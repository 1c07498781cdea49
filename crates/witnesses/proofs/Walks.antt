-- The byte times of a host one after another, so that each is computed once: the desk that they come to, and the bytes that
-- the command has taken. Assumes nothing.
use mathlib.Core.Path.{◌≡◌, refl, ap}
use mathlib.Core.Bool.{cond}
use mathlib.Core.List.{List, [], ◌∷◌, ◌++◌}
use Prim.Native.Nat.{ℕ, zero, suc}
use Rattle.hosts.specs.Hosts.{Host, Desk, served_at, passes_under, at}
use Rattle.hosts.specs.Bytes.{deed_on, deed_at, takes, collected, taken}

pub record Walk : Type 0 where
  pub desk : Desk
  pub took : List ℕ

-- byte time n after those before it
unfoldable pub step_from : Host → ℕ → Walk → Walk
step_from h n w =
    let found = served_at h n w.desk in
    record {
      desk = passes_under (h.lines n) found;
      took = w.took ++ cond (takes (deed_on (h.lines n) found)) (found.machine.regs.dr ∷ []) [];
    }

unfoldable pub walked : Host → Desk → ℕ → Walk
walked h d zero = record { desk = d; took = [] }
walked h d (suc n) = step_from h n (walked h d n)

pub walked_is : (h : Host) (d : Desk) (n : ℕ) → walked h d n ≡ record { desk = at h d n; took = taken h d n }
unfolding walked step_from at deed_at collected
walked_is h d zero = refl
walked_is h d (suc n) = ap (step_from h n) (walked_is h d n)

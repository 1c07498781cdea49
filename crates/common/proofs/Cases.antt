-- Cases: of a choice, of a test of two parts, and those that cannot be. Assumes nothing.
use mathlib.Core.Path.{◌≡◌, refl, sym, ◌∙◌}
use mathlib.Core.Bool.{Bool, true, false, cond, not, ◌&&◌, ◌||◌}
use Prim.Native.Nat.{ℕ}
use native.Mathlib.Omega.{arith}

-- what holds of both sides of a choice, each under its test, holds of the choice
pub by_cond : {A : Type 0} (P : A → Type 0) (b : Bool) {x y : A} → (b ≡ true → P x) → (b ≡ false → P y) → P (cond b x y)
by_cond P true f g = f refl
by_cond P false f g = g refl

-- `never (cc)`: an equation in reach is between two constructors
pub never : {A : Type 0} → ◌≡◌ {A = ℕ} 0 1 → A
never z = absurd (omega arith)

pub both : (a b : Bool) → (a && b) ≡ true → (a ≡ true) × (b ≡ true)
both true b e = (refl, e)
both false b e = never (cc)

pub not_on : (b : Bool) → not b ≡ true → b ≡ false
not_on true e = never (cc)
not_on false e = refl

pub neither : (a b : Bool) → (a || b) ≡ false → (a ≡ false) × (b ≡ false)
neither true b e = never (cc)
neither false b e = (refl, e)

pub all : {a b : Bool} → a ≡ true → b ≡ true → (a && b) ≡ true
all p q = simp (p, q)

-- a contract that is an equation leaves one answer
pub determined : {A : Type 0} {x y d : A} → x ≡ d → y ≡ d → x ≡ y
determined p q = p ∙ sym q

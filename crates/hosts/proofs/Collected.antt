-- What counts in a row of byte times that come one after another, and in no other. Assumes nothing.
use mathlib.Core.Path.{◌≡◌, refl, sym, ap, ap₂, ◌∙◌}
use mathlib.Core.Bool.{Bool, true, false, cond}
use mathlib.Core.List.{List, [], ◌∷◌, ◌++◌, append-nil, map, map-append}
use Prim.Native.Nat.{ℕ, zero, suc, ◌+◌, ◌-◌, ◌≤◌, ◌<◌}
use native.Mathlib.Nat.{add-zero, add-suc}
use native.Mathlib.Omega.{arith}
use lib.ListN.{length, get_or, take, length-append}
use lib.Seq.{take-suc}
use Rattle.hosts.specs.Bytes.{collected}

-- the first n values of a rule, in their order
unfoldable pub listed : (ℕ → ℕ) → ℕ → List ℕ
listed rule zero = []
listed rule (suc n) = listed rule n ++ (rule n ∷ [])

pub listed_length : (rule : ℕ → ℕ) (n : ℕ) → length (listed rule n) ≡ n
unfolding listed
listed_length rule zero = refl
listed_length rule (suc n) =
    length-append (listed rule n) (rule n ∷ []) ∙ rw (listed_length rule n) (omega arith)

pub listed_same : (rule other : ℕ → ℕ) (n : ℕ) → ((i : ℕ) → i < n → rule i ≡ other i) → listed rule n ≡ listed other n
unfolding listed
listed_same rule other zero same = refl
listed_same rule other (suc n) same =
    ap₂ (λ (xs : List ℕ) (x : ℕ). xs ++ (x ∷ [])) (listed_same rule other n (λ i l. same i (omega arith)))
    (same n (omega arith))

-- of the first cells of a row
pub listed_cells :
    (rule : ℕ → ℕ) (row : List ℕ) (n : ℕ) → n ≤ length row → listed (λ i. rule (get_or row i 0)) n ≡ map rule (take n row)
unfolding listed
listed_cells rule row zero l = refl
listed_cells rule row (suc n) l =
    ap (λ (xs : List ℕ). xs ++ (rule (get_or row n 0) ∷ [])) (listed_cells rule row n (omega arith))
    ∙ sym (map-append rule (take n row) (get_or row n 0 ∷ []))
    ∙ ap (map rule) (sym (take-suc row n 0 l))

-- where the first byte time does not count, what is collected is collected after it
pub collected_later :
    (counts : ℕ → Bool) (byte : ℕ → ℕ) (n : ℕ)
    → counts 0 ≡ false
    → collected counts byte (suc n) ≡ collected (λ k. counts (suc k)) (λ k. byte (suc k)) n
unfolding collected
collected_later counts byte zero none = rw none refl
collected_later counts byte (suc n) none =
    ap (λ (xs : List ℕ). xs ++ cond (counts (suc n)) (byte (suc n) ∷ []) []) (collected_later counts byte n none)

-- what is collected by two tests stays the same as long as they agree
pub collected_same :
    (counts others : ℕ → Bool) (byte : ℕ → ℕ) (w j : ℕ)
    → collected counts byte w ≡ collected others byte w
    → ((k : ℕ) → w ≤ k → k < w + j → counts k ≡ others k)
    → collected counts byte (w + j) ≡ collected others byte (w + j)
unfolding collected
collected_same counts others byte w zero same agree = rw (add-zero w) same
collected_same counts others byte w (suc j) same agree =
    rw (add-suc w j)
    (ap₂ (λ (xs : List ℕ) (count : Bool). xs ++ cond count (byte (w + j) ∷ []) [])
    (collected_same counts others byte w j same (λ k l h. agree k l (omega arith)))
    (agree (w + j) (omega arith) (omega arith)))

-- of n byte times, those from w on count, so many of them
pub record Stretch (counts : ℕ → Bool) (w size n : ℕ) : Type 0 where
  pub within : w + size ≤ n
  pub before : (k : ℕ) → k < w → counts k ≡ false
  pub during : (i : ℕ) → i < size → counts (w + i) ≡ true
  pub behind : (k : ℕ) → w + size ≤ k → k < n → counts k ≡ false

module _ (counts : ℕ → Bool) (byte : ℕ → ℕ) (w size n : ℕ) (s : Stretch counts w size n) where
  none : (k : ℕ) → k ≤ w → collected counts byte k ≡ []
  unfolding collected
  none zero l = refl
  none (suc k) l = rw (none k (omega arith), s.before k (omega arith)) refl

  some : (i : ℕ) → i ≤ size → collected counts byte (w + i) ≡ listed (λ i. byte (w + i)) i
  unfolding collected listed
  some zero l = rw (add-zero w) (none w (omega arith))
  some (suc i) l = rw (add-suc w i) (rw (some i (omega arith), s.during i (omega arith)) refl)

  rest : (j : ℕ) → w + size + j ≤ n → collected counts byte (w + size + j) ≡ listed (λ i. byte (w + i)) size
  unfolding collected
  rest zero l = rw (add-zero (w + size)) (some size (omega arith))
  rest (suc j) l =
      rw (add-suc (w + size) j)
      (rw (s.behind (w + size + j) (omega arith) (omega arith)) (append-nil (collected counts byte (w + size + j)))
      ∙ rest j (omega arith))

  -- they are what is collected
  pub collects : collected counts byte n ≡ listed (λ i. byte (w + i)) size
  collects =
      let e : w + size + (n - (w + size)) ≡ n = omega (arith, s.within) in
      rw e at (rest (n - (w + size)) (omega (arith, s.within)))

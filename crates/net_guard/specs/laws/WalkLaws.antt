-- What is reached by way of all numbers below a bound is what a walk over them leads to.
use Rattle.std.proofs.Common.{◌≡◌, ℕ, zero, suc, ◌<◌, ◌≤◌, Bool, true, ◌&&◌, ◌||◌, List, [], ◌∷◌, ◌++◌, refl, sym, ◌∙◌, subst, arith, inl, inr}
use Rattle.std.proofs.lemmas.Bool.{or_cases, and_parts, and_from, or_left, or_right, cases_eq}
use Rattle.net_guard.specs.Walks.{IsWalk, reaches, any_below}

-- two walks, one after the other
pub walk-append : {A : Type 0} (step : A → A → Bool) (p : A) (ps : List A) (m : A) (qs : List A) (q : A) → IsWalk step p ps m → IsWalk step m qs q → IsWalk step p (ps ++ m ∷ qs) q
walk-append step p [] m qs q first second = (first, second)
walk-append step p (x ∷ ps) m qs q first second = (first.0, walk-append step x ps m qs q first.1 second)

-- a relation with the pairs that one number joins
abbrev widened : (ℕ → ℕ → Bool) → ℕ → ℕ → ℕ → Bool
widened r k i j = r i j || (r i k && r k j)

reaches-suc : (step : ℕ → ℕ → Bool) (k i j : ℕ) → reaches step (suc k) i j ≡ widened (reaches step k) k i j
unfolding reaches
reaches-suc step k i j = refl

to_number : (r : ℕ → ℕ → Bool) (k i : ℕ) → widened r k i k ≡ true → r i k ≡ true
to_number r k i is = elim (or_cases (r i k) (r i k && r k k) is) [ inl here ↦ here | inr both ↦ (and_parts (r i k) (r k k) both).0 ]

from_number : (r : ℕ → ℕ → Bool) (k j : ℕ) → widened r k k j ≡ true → r k j ≡ true
from_number r k j is = elim (or_cases (r k j) (r k k && r k j) is) [ inl here ↦ here | inr both ↦ (and_parts (r k k) (r k j) both).1 ]

joins_itself : (r : ℕ → ℕ → Bool) (k i j : ℕ) → widened r k i k ≡ true → widened r k k j ≡ true → widened r k i j ≡ true
joins_itself r k i j to from = or_right (r i j) (r i k && r k j) (and_from (r i k) (r k j) (to_number r k i to) (from_number r k j from))

abbrev JoinsAt : (ℕ → ℕ → Bool) → ℕ → Type 0
JoinsAt r m = (i j : ℕ) → r i m ≡ true → r m j ≡ true → r i j ≡ true

by_number : (r : ℕ → ℕ → Bool) (k i j : ℕ) → r i k ≡ true → r k j ≡ true → widened r k i j ≡ true
by_number r k i j to from = or_right (r i j) (r i k && r k j) (and_from (r i k) (r k j) to from)

still_joins : (r : ℕ → ℕ → Bool) (k m : ℕ) → JoinsAt r m → JoinsAt (widened r k) m
still_joins r k m joins i j to from =
    elim (or_cases (r i m) (r i k && r k m) to) [
      | inl near ↦ elim (or_cases (r m j) (r m k && r k j) from) [
        | inl far ↦ or_left (r i j) (r i k && r k j) (joins i j near far)
        | inr far ↦ let parts = and_parts (r m k) (r k j) far in by_number r k i j (joins i k near parts.0) parts.1
      ]
      | inr near ↦ let first = and_parts (r i k) (r k m) near in elim (or_cases (r m j) (r m k && r k j) from) [
        | inl far ↦ by_number r k i j first.0 (joins k j first.1 far)
        | inr far ↦ let parts = and_parts (r m k) (r k j) far in by_number r k i j first.0 parts.1
      ]
    ]

-- what is reached from what is reached is reached, by way of a number below the bound
pub reaches-joins : (step : ℕ → ℕ → Bool) (n m i j : ℕ) → m < n → reaches step n i m ≡ true → reaches step n m j ≡ true → reaches step n i j ≡ true
reaches-joins step zero m i j below to from = absurd (omega arith)
reaches-joins step (suc k) m i j below to from =
    let to' : widened (reaches step k) k i m ≡ true = sym (reaches-suc step k i m) ∙ to in
    let from' : widened (reaches step k) k m j ≡ true = sym (reaches-suc step k m j) ∙ from in
    reaches-suc step k i j ∙ elim (cases_eq m k) [
      | inl same ↦ joins_itself (reaches step k) k i j (subst (λ x. widened (reaches step k) k i x ≡ true) same to') (subst (λ x. widened (reaches step k) k x j ≡ true) same from')
      | inr other ↦ let lower : m < k = omega arith in still_joins (reaches step k) k m (λ x y. reaches-joins step k m x y lower) i j to' from'
    ]

-- one step is reached
pub reaches-step : (step : ℕ → ℕ → Bool) (n i j : ℕ) → step i j ≡ true → reaches step n i j ≡ true
unfolding reaches
reaches-step step zero i j is = is
reaches-step step (suc k) i j is = or_left (reaches step k i j) (reaches step k i k && reaches step k k j) (reaches-step step k i j is)

-- steps that are alike below a bound reach alike
pub reaches-alike : (f g : ℕ → ℕ → Bool) (n : ℕ) → ((i j : ℕ) → i < n → j < n → f i j ≡ g i j) → (k i j : ℕ) → k ≤ n → i < n → j < n → reaches f k i j ≡ reaches g k i j
unfolding reaches
reaches-alike f g n alike zero i j most in_i in_j = alike i j in_i in_j
reaches-alike f g n alike (suc k) i j most in_i in_j =
    let lower : k ≤ n = omega arith in
    let in_k : k < n = omega arith in
    let ij = reaches-alike f g n alike k i j lower in_i in_j in
    let ik = reaches-alike f g n alike k i k lower in_i in_k in
    let kj = reaches-alike f g n alike k k j lower in_k in_j in
    rw (ij, ik, kj) refl

-- ---- some number below a bound

pub any_below-from : (test : ℕ → Bool) (n i : ℕ) → i < n → test i ≡ true → any_below test n ≡ true
any_below-from test zero i below is = absurd (omega arith)
any_below-from test (suc n) i below is =
    elim (cases_eq i n) [
      | inl same ↦ or_left (test n) (any_below test n) (subst (λ k. test k ≡ true) same is)
      | inr other ↦ or_right (test n) (any_below test n) (any_below-from test n i (omega arith) is)
    ]

pub any_below-at : (test : ℕ → Bool) (n : ℕ) → any_below test n ≡ true → (i : ℕ) × ((i < n) × (test i ≡ true))
any_below-at test zero is = absurd cc
any_below-at test (suc n) is =
    elim (or_cases (test n) (any_below test n) is) [
      | inl here ↦ (n, (omega arith, here))
      | inr below ↦ let found = any_below-at test n below in (found.0, (omega (arith, found.1.0), found.1.1))
    ]

-- What follows about rows that stand in order: each stands before the next one, and that is enough.
use Rattle.std.proofs.Common.{ℕ, zero, suc, ◌+◌, ◌≤◌, List, [], ◌∷◌, length, drop, arith}
use Rattle.flow_table.specs.Sorted.{Ascends}

-- the rows from one on stand in order, as all do
abbrev pub IsRest : {X : Type 0} → (X → ℕ) → ℕ → List X → Type 0
IsRest place at xs = (Ascends place 0 (drop at xs) → Ascends place 0 xs) × (Ascends place 0 xs → Ascends place 0 (drop at xs))

last : {X : Type 0} (place : X → ℕ) (xs : List X) (i : ℕ) → length xs ≤ suc i → Ascends place 0 (drop i xs)
last place [] zero le = tt
last place [] (suc i) le = tt
last place (x ∷ []) zero le = (omega arith, tt)
last place (x ∷ y ∷ ys) zero le = absurd (omega arith)
last place (x ∷ xs) (suc i) le = last place xs i (omega arith)

pub IsRest-last : {X : Type 0} (place : X → ℕ) (xs : List X) (at : ℕ) → length xs ≤ at + 1 → IsRest place at xs → Ascends place 0 xs
IsRest-last place xs at past h = h.0 (last place xs at (omega arith))

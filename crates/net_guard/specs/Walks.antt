-- Walks from item to item.
use Rattle.std.specs.Prelude.{◌≡◌, ℕ, zero, suc, Bool, true, false, ◌&&◌, ◌||◌, List, [], ◌∷◌}

-- one or more steps, with the items between
abbrev pub IsWalk : {A : Type 0} → (A → A → Bool) → A → List A → A → Type 0
IsWalk step p [] q = step p q ≡ true
IsWalk step p (m ∷ between) q = (step p m ≡ true) × IsWalk step m between q

-- whether a walk leads from one number to another by way of numbers below a bound alone
unfoldable pub reaches : (ℕ → ℕ → Bool) → ℕ → ℕ → ℕ → Bool
reaches step zero i j = step i j
reaches step (suc k) i j = reaches step k i j || (reaches step k i k && reaches step k k j)

-- whether some number below a bound passes
abbrev pub any_below : (ℕ → Bool) → ℕ → Bool
any_below test zero = false
any_below test (suc n) = test n || any_below test n

-- What follows about one image of a log that is changed: it is there, and the others stay.
use Rattle.std.proofs.Common.{◌≡◌, ℕ, zero, suc, ◌<◌, List, [], ◌∷◌, length, get_or, refl, ap, arith}
use Rattle.std.proofs.Math.ListN.{set}
use Rattle.netlog_inverse.specs.declared.image.Logged.{Logged}
use Rattle.netlog_inverse.specs.Log.{changed_at, HasEntryAt}

pub entry-within : (i : ℕ) (log : List Logged) → HasEntryAt i log → i < length log
entry-within i [] h = absurd h
entry-within zero (l ∷ log) h = omega arith
entry-within (suc i) (l ∷ log) h = omega (arith, entry-within i log h)

pub changed-set : {A : Type 0} (i : ℕ) (f : A → A) (xs : List A) (x : A) → i < length xs → get_or xs i x ≡ x → changed_at i f xs ≡ set xs i (f x)
changed-set i f [] x within at = absurd (omega arith)
changed-set zero f (y ∷ xs) x within at = ap (λ z. f z ∷ xs) at
changed-set (suc i) f (y ∷ xs) x within at = ap (λ zs. y ∷ zs) (changed-set i f xs x (omega arith) at)

pub length-changed_at : {A : Type 0} (i : ℕ) (f : A → A) (xs : List A) → length (changed_at i f xs) ≡ length xs
length-changed_at i f [] = refl
length-changed_at zero f (x ∷ xs) = refl
length-changed_at (suc i) f (x ∷ xs) = omega (arith, length-changed_at i f xs)

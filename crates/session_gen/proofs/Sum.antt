-- What the lines of a report add up to.
use Rattle.std.proofs.Common.{◌≡◌, ◌%◌, ◌^◌, ℕ, ◌+◌, ◌-◌, ◌*◌, List, [], ◌∷◌, arith}
use Rattle.lego_model.specs.Words.{value_after}

-- more digits behind numbers that are the same modulo 2^64
pub value_after-mod : (digits : List ℕ) (m n : ℕ) → m % 2 ^ 64 ≡ n % 2 ^ 64 → value_after m digits % 2 ^ 64 ≡ value_after n digits % 2 ^ 64
value_after-mod [] m n same = same
value_after-mod (digit ∷ more) m n same = value_after-mod more (10 * m + (digit - 48)) (10 * n + (digit - 48)) (omega (arith, same))

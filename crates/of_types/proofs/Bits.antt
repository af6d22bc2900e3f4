-- A bit that is tested by its mask.
use Rattle.std.proofs.Common.{◌≡◌, ◌==◌, ℕ, zero, suc, ◌*◌, ◌/◌, ◌%◌, ◌<◌, nat_eq, bit_and, refl, ap, ◌∙◌, arith}
use Rattle.std.specs.Prelude.{not}
use Rattle.std.proofs.lemmas.Nat.{mod_below}
use Rattle.std.proofs.lemmas.Nat.Bits.{and_pow}

-- a digit of base 2 is 1 where what it counts is not 0
digit_2 : (digit : ℕ) → digit < 2 → not (nat_eq (digit * 2) 0) ≡ (digit == 1)
digit_2 zero lt = refl
digit_2 (suc zero) lt = refl
digit_2 (suc (suc digit)) lt = absurd (omega arith)

digit_4 : (digit : ℕ) → digit < 2 → not (nat_eq (digit * 4) 0) ≡ (digit == 1)
digit_4 zero lt = refl
digit_4 (suc zero) lt = refl
digit_4 (suc (suc digit)) lt = absurd (omega arith)

pub bit_1 : (flags : ℕ) → not (nat_eq (bit_and flags 2) 0) ≡ (flags / 2 % 2 == 1)
bit_1 flags = ap (λ (n : ℕ). not (nat_eq n 0)) (and_pow flags 1) ∙ digit_2 (flags / 2 % 2) (mod_below (flags / 2) 2 (omega arith))

pub bit_2 : (flags : ℕ) → not (nat_eq (bit_and flags 4) 0) ≡ (flags / 4 % 2 == 1)
bit_2 flags = ap (λ (n : ℕ). not (nat_eq n 0)) (and_pow flags 2) ∙ digit_4 (flags / 4 % 2) (mod_below (flags / 4) 2 (omega arith))

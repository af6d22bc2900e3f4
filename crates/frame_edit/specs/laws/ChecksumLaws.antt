-- Laws of the Internet checksum.
use Rattle.std.proofs.Common.{◌≡◌, ℕ, zero, suc, ◌+◌, ◌*◌, ◌^◌, ◌<◌, List, [], ◌∷◌, ◌++◌, length, refl, ap, ◌∙◌, arith}
use Rattle.std.proofs.lemmas.Bool.Decides.{nat_tests}
use Rattle.of_types.specs.Fields.{number_bytes, IsBytes}
use Rattle.of_types.specs.laws.FieldLaws.{length-number_bytes}
use Rattle.frame_edit.specs.Checksum.{word_sum, ones_complement_sum, checksum, with_carry, carried_sum}
use Rattle.frame_edit.specs.Datagram.{nonzero}

-- Words behind words: the first part has whole words.
pub word_sum-append : (words : ℕ) (xs ys : List ℕ) → length xs ≡ 2 * words → word_sum (xs ++ ys) ≡ word_sum xs + word_sum ys
unfolding word_sum
word_sum-append zero [] ys len = omega arith
word_sum-append zero (x ∷ xs) ys len = absurd (omega arith)
word_sum-append (suc words) [] ys len = absurd (omega arith)
word_sum-append (suc words) (x ∷ []) ys len = absurd (omega arith)
word_sum-append (suc words) (x ∷ y ∷ xs) ys len = omega (arith, word_sum-append words xs ys (omega arith))

-- a pseudo header of 12 bytes before the rest
pub word_sum_of_joined : (xs ys : List ℕ) → length xs ≡ 12 → word_sum (xs ++ ys) ≡ word_sum xs + word_sum ys
word_sum_of_joined xs ys len = word_sum-append 6 xs ys len

pub word_sum-number_bytes : (value : ℕ) → value < 2 ^ 16 → word_sum (number_bytes 2 value) ≡ value
unfolding word_sum number_bytes
word_sum-number_bytes value lt = omega arith

-- A number of 16 bits behind whole words counts as itself.
pub word_sum-number : (words value : ℕ) (front rest : List ℕ) → length front ≡ 2 * words → value < 2 ^ 16
    → word_sum (front ++ (number_bytes 2 value ++ rest)) ≡ word_sum front + (value + word_sum rest)
word_sum-number words value front rest len lt =
    word_sum-append words front (number_bytes 2 value ++ rest) len
    ∙ ap (λ (n : ℕ). word_sum front + n) (word_sum-append 1 (number_bytes 2 value) rest (length-number_bytes 2 value) ∙ ap (λ (n : ℕ). n + word_sum rest) (word_sum-number_bytes value lt))

pub checksum_fits : (sum : ℕ) → checksum sum < 2 ^ 16
unfolding checksum
checksum_fits sum = omega arith

-- The checksum among its words makes their checksum 0.
pub checksum-verified : (sum : ℕ) → checksum (sum + checksum sum) ≡ 0
unfolding checksum
checksum-verified zero = refl
checksum-verified (suc n) = grind (arith, nat_tests)

pub checksum-verified_nonzero : (sum : ℕ) → checksum (sum + nonzero (checksum sum)) ≡ 0
unfolding checksum
checksum-verified_nonzero zero = refl
checksum-verified_nonzero (suc n) = grind (arith, nat_tests)

carry-step : (word total : ℕ) → word < 2 ^ 16 → ones_complement_sum (word + total) ≡ with_carry word (ones_complement_sum total)
carry-step word total lt = grind (arith, nat_tests)

-- The definition is what the standard's procedure gives.
pub carried_sum-is : (bytes : List ℕ) → IsBytes bytes → ones_complement_sum (word_sum bytes) ≡ carried_sum bytes
unfolding word_sum carried_sum
carried_sum-is [] fits = refl
carried_sum-is (high ∷ []) fits = let h : high < 256 = fits 0 in grind (arith, nat_tests)
carried_sum-is (high ∷ low ∷ bytes) fits =
    let h : high < 256 = fits 0 in
    let l : low < 256 = fits 1 in
    carry-step (256 * high + low) (word_sum bytes) (omega arith) ∙ ap (with_carry (256 * high + low)) (carried_sum-is bytes (λ i. fits (suc (suc i))))

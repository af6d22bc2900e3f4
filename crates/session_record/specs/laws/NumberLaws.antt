-- What is written for a number and for bytes is read as them again.
use Rattle.std.specs.Prelude.{◌≡◌, ℕ, ◌+◌, ◌-◌, ◌*◌, ◌^◌, ◌<◌, ◌≤◌, ◌==◌, true, false, List, [], ◌∷◌, length, Ok, nat_lt, refl, zero, suc}
use Rattle.std.specs.Char.{is_ascii_digit}
use Rattle.std.specs.Fmt.{decimal}
use Rattle.std.specs.List.{list_all}
use Rattle.std.specs.Str.Parse.{AllDigits, digits_value_after}
use Rattle.std.specs.Char.{digit_value}
use Rattle.std.proofs.Common.{ap, ◌∙◌, arith, get_or}
use Rattle.std.proofs.lemmas.Bool.{le-ltb, le-leb}
use Rattle.std.proofs.lemmas.Fmt.{decimal_is_IsNumeral, first_decimal, decimal_digit}
use Rattle.std.proofs.lemmas.Str.{digit_value_digit}
use Rattle.std.proofs.lemmas.Str.Parse.{digit_from_value}
use Rattle.of_types.specs.Numerals.{leads_with_zero, is_numeral}
use Rattle.lego_model.specs.Words.{value_after}
use Rattle.lego_model.specs.SessionWords.{a_number}

-- ---- Numbers

value_so : (n : ℕ) (digits : List ℕ) → AllDigits 10 digits → value_after n digits ≡ digits_value_after 10 n digits
value_so n [] each = refl
value_so n (d ∷ digits) each =
    let one : 10 * n + (d - 48) ≡ n * 10 + digit_value d = omega (arith, digit_value_digit d (digit_from_value d each.0)) in
    ap (λ (m : ℕ). value_after m digits) one ∙ value_so (n * 10 + digit_value d) digits each.1

pub decimal_value : (n : ℕ) → n < 2 ^ 64 → value_after 0 (decimal n) ≡ n
decimal_value n fits = let is = decimal_is_IsNumeral n fits in value_so 0 (decimal n) is.0.1 ∙ is.1

digits_pass : (digits : List ℕ) → AllDigits 10 digits → list_all is_ascii_digit digits ≡ true
digits_pass [] each = refl
digits_pass (d ∷ digits) each =
    let range = digit_from_value d each.0 in
    rw (le-leb 48 d range.0, le-leb d 57 range.1) (digits_pass digits each.1)

no_zero_first : (digits : List ℕ) → 48 < get_or digits 0 0 → leads_with_zero digits ≡ false
no_zero_first [] first = refl
no_zero_first (d ∷ []) first = refl
no_zero_first (d ∷ e ∷ more) first = other d first
  where
    other : (d : ℕ) → 48 < d → (d == 48) ≡ false
    other d above = grind arith

decimal_begins : (n : ℕ) → n < 2 ^ 64 → leads_with_zero (decimal n) ≡ false
decimal_begins zero fits = rw (decimal_digit 0 (omega arith)) refl
decimal_begins (suc n) fits = no_zero_first (decimal (suc n)) (first_decimal (suc n) (omega arith) fits)

not_empty : (digits : List ℕ) → 0 < length digits → nat_lt 0 (length digits) ≡ true
not_empty digits some = grind arith

pub decimal_is_numeral : (n : ℕ) → n < 2 ^ 64 → is_numeral (decimal n) ≡ true
unfolding is_numeral
decimal_is_numeral n fits =
    let is = decimal_is_IsNumeral n fits in
    rw (not_empty (decimal n) is.0.0, decimal_begins n fits, digits_pass (decimal n) is.0.1) refl

pub number_read : (least most n : ℕ) → n < 2 ^ 64 → least ≤ n → n ≤ most → a_number least most (decimal n) ≡ Ok n
unfolding a_number
number_read least most n fits above below =
    rw (decimal_is_numeral n fits, decimal_value n fits, le-ltb n least above, le-ltb most n below) refl

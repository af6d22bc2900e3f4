-- What `parse` gives for a numeral.
use Rattle.std.proofs.Common.{◌≡◌, ℕ, ◌<◌, ◌^◌, ◌&&◌, true, not, List, length, Some, Result, Ok, Err, inl, inr, nat_lt, refl, ap, rules, tests}
use Rattle.std.proofs.lemmas.Bool.{cases_lt, and_parts, lt-ltb, le-ltb}
use Rattle.std.proofs.lemmas.Str.Parse.{IsNumeralModel, numerals_by_value, parse_digits}
use Rattle.std.specs.Char.{is_ascii_digit}
use Rattle.std.specs.List.{list_all}
use Rattle.std.specs.Result.{result_ok}
use Rattle.std.specs.Str.Parse.{digits_value, ParsesUnsigned}
use Rattle.of_types.specs.Numerals.{is_numeral, leads_with_zero}
use Rattle.crash_policy.specs.LinkText.{number_in}

own : IsNumeralModel (λ bs. list_all is_ascii_digit bs ≡ true) (digits_value 10)
own = numerals_by_value (λ bs. list_all is_ascii_digit bs ≡ true) (search rules)

-- a numeral has digits, and nothing else
some_digits : (bs : List ℕ) → is_numeral bs ≡ true → (0 < length bs) × (list_all is_ascii_digit bs ≡ true)
unfolding is_numeral
some_digits bs numeral =
    let parts = and_parts (nat_lt 0 (length bs) && not (leads_with_zero bs)) (list_all is_ascii_digit bs) numeral in
    let some = and_parts (nat_lt 0 (length bs)) (not (leads_with_zero bs)) parts.0 in
    let e : nat_lt 0 (length bs) ≡ true = some.0 in (search (rules, tests), parts.1)

pub number_read : {E : Type 0} (bs : List ℕ) (r : Result ℕ E) → ParsesUnsigned 64 10 bs r → is_numeral bs ≡ true → result_ok r ≡ number_in bs
unfolding number_in
number_read {E} bs (Ok n) parsed numeral =
    let fits = parse_digits own {E = E} 64 bs (Ok n) parsed (some_digits bs numeral).1 in
    rw (numeral, lt-ltb (digits_value 10 bs) (2 ^ 64) fits.0.1) (ap (λ (m : ℕ). Some m) fits.1)
number_read {E} bs (Err e) parsed numeral =
    let refused = parse_digits own {E = E} 64 bs (Err e) parsed (some_digits bs numeral).1 in
    elim (cases_lt (digits_value 10 bs) (2 ^ 64)) [
      | inl fits ↦ absurd (refused ((some_digits bs numeral).0, fits))
      | inr above ↦ rw (numeral, le-ltb (digits_value 10 bs) (2 ^ 64) above) refl
    ]

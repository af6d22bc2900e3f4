-- What `parse` gives for a numeral.
use Rattle.std.proofs.Common.{◌≡◌, ℕ, ◌<◌, ◌≤◌, ◌^◌, ◌&&◌, true, not, List, length, MatchOption, Result, Ok, Err, inl, inr, nat_lt, rules, tests}
use Rattle.std.proofs.lemmas.Bool.{cases_lt, and_parts}
use Rattle.std.proofs.lemmas.Str.Parse.{IsNumeralModel, numerals_by_value, parse_digits}
use Rattle.std.specs.Char.{is_ascii_digit}
use Rattle.std.specs.List.{list_all}
use Rattle.std.specs.Result.{result_ok}
use Rattle.std.specs.Str.Parse.{digits_value, ParsesUnsigned}
use Rattle.of_types.specs.Numerals.{is_numeral, leads_with_zero}

abbrev AreDigits : List ℕ → Type 0
AreDigits bs = list_all is_ascii_digit bs ≡ true

own : IsNumeralModel AreDigits (digits_value 10)
own = numerals_by_value AreDigits (search rules)

digits_of : (bs : List ℕ) → is_numeral bs ≡ true → AreDigits bs
unfolding is_numeral
digits_of bs numeral = (and_parts (nat_lt 0 (length bs) && not (leads_with_zero bs)) (list_all is_ascii_digit bs) numeral).1

not_empty : (bs : List ℕ) → is_numeral bs ≡ true → 0 < length bs
unfolding is_numeral
not_empty bs numeral =
    let fronts = and_parts (nat_lt 0 (length bs) && not (leads_with_zero bs)) (list_all is_ascii_digit bs) numeral in
    let some = and_parts (nat_lt 0 (length bs)) (not (leads_with_zero bs)) fronts.0 in
    let e : nat_lt 0 (length bs) ≡ true = some.0 in search (rules, tests)

pub value_read : {E : Type 0} (bs : List ℕ) (r : Result ℕ E) → ParsesUnsigned 64 10 bs r → is_numeral bs ≡ true → MatchOption (result_ok r) (2 ^ 64 ≤ digits_value 10 bs) (λ value. value ≡ digits_value 10 bs)
value_read {E} bs (Ok n) parsed numeral = (parse_digits own {E = E} 64 bs (Ok n) parsed (digits_of bs numeral)).1
value_read {E} bs (Err e) parsed numeral =
    let refused = parse_digits own {E = E} 64 bs (Err e) parsed (digits_of bs numeral) in
    elim (cases_lt (digits_value 10 bs) (2 ^ 64)) [
      | inl fits ↦ absurd (refused (not_empty bs numeral, fits))
      | inr above ↦ above
    ]

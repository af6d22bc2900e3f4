-- Decimal numbers among the words. Our own choice.
use Rattle.std.specs.Prelude.{ℕ, ◌&&◌, List, Option, Some, None, nat_le, if◌then◌else◌}
use Rattle.std.specs.Str.Parse.{digits_value}
use Rattle.of_types.specs.Numerals.{is_numeral}

-- a number from least to most
unfoldable pub number : ℕ → ℕ → List ℕ → Option ℕ
number least most word =
    let value = digits_value 10 word in
    if is_numeral word && nat_le least value && nat_le value most then Some value else None

-- Links as texts: `D:P-D:P`, the number of a switch and of a port, and those of another end. All of this is our own.
use Rattle.std.specs.Prelude.{ℕ, ◌^◌, ◌==◌, ◌&&◌, List, length, Option, Some, None, nat_le, nat_lt, option_map, option_and_then, if◌then◌else◌}
use Rattle.std.specs.List.{before_first, after_first, position_or_len}
use Rattle.std.specs.Str.Parse.{digits_value}
use Rattle.of_types.specs.Numerals.{is_numeral}
use Rattle.guard_rule.specs.declared.Link.{Link}

-- the texts before and behind the first such byte, where there is one
abbrev pub cut_at : ℕ → List ℕ → Option (List ℕ × List ℕ)
cut_at c text =
    if nat_lt (position_or_len (λ b. b == c) text) (length text) then Some (before_first (λ b. b == c) text, after_first (λ b. b == c) text)
    else None

-- a decimal number of 64 bits, without a leading zero but for 0 itself
unfoldable pub number_in : List ℕ → Option ℕ
number_in text = if is_numeral text && nat_lt (digits_value 10 text) (2 ^ 64) then Some (digits_value 10 text) else None

-- a port: 1 to 65,280
abbrev pub port_of : ℕ → Option ℕ
port_of n = if nat_le 1 n && nat_le n 65280 then Some n else None

abbrev pub end_of : List ℕ × List ℕ → Option (ℕ × ℕ)
end_of parts = option_and_then (λ d. option_map (λ p. (d, p)) (option_and_then port_of (number_in parts.1))) (number_in parts.0)

-- an end: a switch and a port, with `:` (58) between
unfoldable pub end_in : List ℕ → Option (ℕ × ℕ)
end_in text = option_and_then end_of (cut_at 58 text)

abbrev pub link_of : List ℕ × List ℕ → Option Link
link_of parts = option_and_then (λ a. option_map (λ b. record { a = a; b = b }) (end_in parts.1)) (end_in parts.0)

-- a link: two ends, with `-` (45) between
unfoldable pub link_in : List ℕ → Option Link
link_in text = option_and_then link_of (cut_at 45 text)

-- Decimal numbers as they are written in texts. Our own choice: no leading zero, but for 0 itself.
use Rattle.std.specs.Prelude.{◌==◌, ℕ, Bool, false, not, ◌&&◌, List, [], ◌∷◌, length, nat_lt}
use Rattle.std.specs.Char.{is_ascii_digit}
use Rattle.std.specs.List.{list_all}

-- a `0` (48) that is not the whole word
abbrev pub leads_with_zero : List ℕ → Bool
leads_with_zero [] = false
leads_with_zero (digit ∷ []) = false
leads_with_zero (digit ∷ next ∷ more) = digit == 48

-- digits, and no leading zero but for `0` itself
unfoldable pub is_numeral : List ℕ → Bool
is_numeral word = nat_lt 0 (length word) && not (leads_with_zero word) && list_all is_ascii_digit word

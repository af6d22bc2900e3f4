-- Ports read one by one, and as a whole.
use Rattle.std.proofs.Common.{◌≡◌, ℕ, true, not, List, [], ◌∷◌, Ok, refl, arith}
use Rattle.std.specs.List.{list_all}
use Rattle.lego_model.specs.declared.session.SessionKind.TheVariants.{Range}
use Rattle.of_types.specs.Numerals.{is_numeral}
use Rattle.lego_model.specs.SessionWords.{unless, a_number, is_port, are_ports, values_of}
use Rattle.session_text.specs.TextGives.{numbers, ports_read}

-- numerals are read where each is a port's number
numbers_of_numerals : (pieces : List (List ℕ)) → list_all is_numeral pieces ≡ true
    → numbers 1 65280 pieces ≡ unless (not (list_all is_port (values_of pieces))) Range (Ok (values_of pieces))
unfolding a_number
numbers_of_numerals [] all = refl
numbers_of_numerals (piece ∷ pieces) all = grind (arith, numbers_of_numerals pieces)

pub ports_of_numerals : (pieces : List (List ℕ)) → list_all is_numeral pieces ≡ true
    → ports_read pieces ≡ unless (not (are_ports (values_of pieces))) Range (Ok (values_of pieces))
ports_of_numerals pieces all = let read = numbers_of_numerals pieces all in grind arith

-- The words of a session line, and the numbers that they spell. This text form is our own.
use Rattle.std.specs.Prelude.{◌==◌, ℕ, ◌+◌, ◌-◌, ◌*◌, Bool, List, [], ◌∷◌}
use Rattle.std.specs.List.{slice_split}
use Rattle.std.specs.Str.{bytes_eq}

-- words stand between single spaces
unfoldable pub words_of : List ℕ → List (List ℕ)
words_of line = slice_split (λ b. b == 32) line

unfoldable pub is_word : List ℕ → List ℕ → Bool
is_word text word = bytes_eq word text

-- the number that digits spell, behind those that spell n
abbrev pub value_after : ℕ → List ℕ → ℕ
value_after n [] = n
value_after n (digit ∷ more) = value_after (10 * n + (digit - 48)) more

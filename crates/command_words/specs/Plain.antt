-- The words of the command line as plain words. Our own choice; `--` is that of POSIX, 12.2 Utility Syntax Guidelines.
use Rattle.std.specs.Prelude.{◌==◌, ℕ, Bool, false, List, [], ◌∷◌, Option, Some, None, option_map, codes, if◌then◌else◌}
use Rattle.std.specs.Str.{bytes_eq}

-- the word ends the options
abbrev pub is_end : List ℕ → Bool
is_end word = bytes_eq word (codes "--")

-- the word asks for an option: it begins with `-` (45), and is longer than that
abbrev pub is_option : List ℕ → Bool
is_option [] = false
is_option (first ∷ []) = false
is_option (first ∷ next ∷ more) = first == 45

-- The words without the first `--`. There are none where a word before it asks for an option.
abbrev pub plain_words : List (List ℕ) → Option (List (List ℕ))
plain_words [] = Some []
plain_words (word ∷ words) =
    if is_end word then Some words
    else if is_option word then None
    else option_map (λ others. word ∷ others) (plain_words words)

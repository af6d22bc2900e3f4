-- Where keys ascend, the first that is not known is the least.
use Rattle.std.specs.Prelude.{ℕ, Bool, List, [], ◌∷◌, Option, Some, None, if◌then◌else◌}

abbrev pub first_unknown : (List ℕ → Bool) → List (List ℕ) → Option (List ℕ)
first_unknown is_known [] = None
first_unknown is_known (key ∷ keys) = if is_known key then first_unknown is_known keys else Some key

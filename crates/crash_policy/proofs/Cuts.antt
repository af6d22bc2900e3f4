-- What `split_once` gives.
use Rattle.std.proofs.Common.{◌≡◌, ◌==◌, ℕ, ◌<◌, List, length, Option, Some, None, option_map, refl, ap₂, arith, Bor}
use Rattle.std.proofs.lemmas.Bool.{lt-ltb, le-ltb}
use Rattle.std.proofs.lemmas.Str.Pattern.{IsSplitOnceResult, split_once_first}
use Rattle.std.specs.List.{position_or_len}
use Rattle.crash_policy.specs.LinkText.{cut_at}

pub cut_is : (c : ℕ) (text : List ℕ) (r : Option (Bor (List ℕ) × Bor (List ℕ))) → IsSplitOnceResult c text r → c < 128 → option_map (λ parts. (parts.0.now, parts.1.now)) r ≡ cut_at c text
cut_is c text None split low =
    let none = split_once_first c text None split low in
    rw (le-ltb (position_or_len (λ b. b == c) text) (length text) (omega (arith, none))) refl
cut_is c text (Some parts) split low =
    let found = split_once_first c text (Some parts) split low in
    rw (lt-ltb (position_or_len (λ b. b == c) text) (length text) found.0) (ap₂ (λ (a b : List ℕ). Some (a, b)) found.1 found.2)

-- A word without a mark.
use Rattle.std.proofs.Common.{◌≡◌, ℕ, false, List, [], ◌∷◌, refl, arith}
use Rattle.lego_model.specs.SessionWords.{before, behind}
use Rattle.of_types.specs.Membership.{is_among}

-- all of it stands before, and nothing behind
pub unmarked : (mark : ℕ) (word : List ℕ) → is_among mark word ≡ false → (before mark word ≡ word) × (behind mark word ≡ [])
unmarked mark [] none = (refl, refl)
unmarked mark (b ∷ word) none = let rest = unmarked mark word in (grind (arith, rest), grind (arith, rest))

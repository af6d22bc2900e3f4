-- Records that lie one behind the other in one block of bytes. All of this is our own choice.
use Rattle.std.specs.Prelude.{◌≡◌, ℕ, ◌-◌, ◌≤◌, List, [], ◌∷◌, take, drop}

-- the records with these kinds, the first of which begins at a place, and each of which ends where the next begins
abbrev pub records_in : {K : Type 0} → ℕ → List K → List ℕ → List ℕ → List (K × List ℕ)
records_in at [] ends bytes = []
records_in at (kind ∷ kinds) [] bytes = []
records_in at (kind ∷ kinds) (end ∷ ends) bytes = (kind, take (end - at) (drop at bytes)) ∷ records_in end kinds ends bytes

-- each kind has an end, ends do not go back, and the last one is the end of all bytes
abbrev pub IsCut : {K : Type 0} → ℕ → List K → List ℕ → ℕ → Type 0
IsCut at [] [] size = at ≡ size
IsCut at [] (end ∷ ends) size = ⊥
IsCut at (kind ∷ kinds) [] size = ⊥
IsCut at (kind ∷ kinds) (end ∷ ends) size = (at ≤ end) × IsCut end kinds ends size

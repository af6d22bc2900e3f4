-- Messages in a store of fixed size: their bytes, one message behind the other, and of each the switch and the number of bytes.
-- All of this is our own.
use Rattle.std.specs.Prelude.{◌≡◌, ◌⊎◌, ℕ, ◌+◌, false, List, [], ◌∷◌, ◌++◌, take, drop}
use Rattle.lego_model.specs.KeptMessages.{fits}

-- the messages, oldest first
abbrev pub messages_in : List (ℕ × ℕ) → List ℕ → List (ℕ × List ℕ)
messages_in [] bytes = []
messages_in (e ∷ es) bytes = (e.0, take e.1 bytes) ∷ messages_in es (drop e.1 bytes)

-- how many bytes they have together, by the numbers of each
abbrev pub sizes : List (ℕ × ℕ) → ℕ
sizes [] = 0
sizes (e ∷ es) = e.1 + sizes es

-- messages come behind others, one after the other: each is kept, or dropped where it does not fit
abbrev pub KeptWhereFit : List (ℕ × List ℕ) → List (ℕ × List ℕ) → List (ℕ × List ℕ) → Type 0
KeptWhereFit kept [] now_kept = now_kept ≡ kept
KeptWhereFit kept (m ∷ ms) now_kept = KeptWhereFit (kept ++ m ∷ []) ms now_kept ⊎ ((fits kept m.1 ≡ false) × KeptWhereFit kept ms now_kept)

-- A source of bytes. One that tells names the bytes that are left, and goes on telling. One that does
-- not tells nothing, now and later. Our own choice.
use Rattle.std.specs.Prelude.{◌≡◌, ℕ, List, [], Option, Some, None}
use Rattle.std.specs.Io.KnownBytes.{prepend_known}

-- what a source tells once no byte is left
abbrev pub ended : Option (List ℕ) → Option (List ℕ)
ended None = None
ended (Some left) = Some []

-- some bytes were read, the next ones of what was left
abbrev pub GavePart : Option (List ℕ) → Option (List ℕ) → Type 0
GavePart old new = (taken : List ℕ) × (old ≡ prepend_known taken new)

-- A sink of bytes. One that tells names the bytes that it took, and goes on telling. One that does not
-- tells nothing, now and later. Our own choice.
use Rattle.std.specs.Prelude.{◌≡◌, ℕ, ◌<◌, List, length, take, Option}
use Rattle.std.specs.Io.KnownBytes.{append_known}

-- of these bytes a front was taken, and not all
abbrev pub TookPart : Option (List ℕ) → Option (List ℕ) → List ℕ → Type 0
TookPart old new bytes = (n : ℕ) × (n < length bytes) × (new ≡ append_known old (take n bytes))

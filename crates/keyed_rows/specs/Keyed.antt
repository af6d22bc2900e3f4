-- The place of a row: the number of its key. All of this is our own.
use Rattle.std.specs.Prelude.{ℕ}
use Rattle.of_match.specs.declared.key.Key.{Key}
use Rattle.of_match.specs.Key.{key_number}

abbrev pub place : {X : Type 0} → (X → Key) → X → ℕ
place key x = key_number (key x)

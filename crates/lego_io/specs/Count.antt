-- Counts of what went wrong outside. Our own choice: a count that is kept in 64 bits stays at its last
-- value once it is there, so that no program has to stop for it.
use Rattle.std.specs.Prelude.{◌≡◌, ℕ, ◌+◌, ◌-◌, ◌^◌, ◌<◌, ◌≤◌, ◌⊎◌, min}

-- one more, up to the last value
abbrev pub raised : ℕ → ℕ
raised count = min (count + 1) (2 ^ 64 - 1)

-- the count is greater than it was, or it stands at its last value
abbrev pub Rose : ℕ → ℕ → Type 0
Rose old new = (old < new) ⊎ (new ≡ 2 ^ 64 - 1)

-- the count is at least what it was
abbrev pub NeverFell : ℕ → ℕ → Type 0
NeverFell old new = old ≤ new

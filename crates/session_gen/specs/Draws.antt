-- The numbers by which a session is drawn: those of a linear congruential generator modulo 2^64, of whose states the 31 high bits
-- count. Our own choice.
use Rattle.std.specs.Prelude.{ℕ, zero, suc, ◌+◌, ◌*◌, ◌/◌, ◌%◌, ◌^◌}

-- the state behind a state
unfoldable pub next : ℕ → ℕ
next x = (x * 6364136223846793005 + 1442695040888963407) % 2 ^ 64

-- the number below n of a state
unfoldable pub number_below : ℕ → ℕ → ℕ
number_below n x = x / 2 ^ 33 % n

-- the state behind so many draws
abbrev pub behind : ℕ → ℕ → ℕ
behind zero x = x
behind (suc k) x = behind k (next x)

-- the number below n that is drawn behind k others
abbrev pub drawn : ℕ → ℕ → ℕ → ℕ
drawn k n x = number_below n (next (behind k x))

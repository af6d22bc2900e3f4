-- Moments at which a wait is over. Our own choice.
use Rattle.std.specs.Prelude.{ℕ, ◌+◌, ◌-◌, ◌^◌, min}

-- so many milliseconds from now, as far as a clock counts
abbrev pub moment_after : ℕ → ℕ → ℕ
moment_after now milliseconds = min (now + milliseconds) (2 ^ 64 - 1)

-- Moments: whole seconds since a world was opened, up to 4294967295. Our own choice: they never go back, whatever the clock shows.
use Rattle.std.specs.Prelude.{ℕ, ◌-◌, min, max, Option, Some, None, if◌then◌else◌, nat_lt}
use Rattle.live_world.specs.declared.moments.Moments.{Moments}

-- the moment where the clock shows this
abbrev pub moment_at : ℕ → Moments → ℕ
moment_at now moments = max moments.latest (min (now - moments.began) 4294967295)

-- the moment that is told, if it has changed
abbrev pub changed : ℕ → ℕ → Option ℕ
changed old new = if nat_lt old new then Some new else None

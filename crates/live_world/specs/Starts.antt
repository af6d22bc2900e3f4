-- When an application may be started. Our own choice: half a second behind its last start at the earliest.
use Rattle.std.specs.Prelude.{ℕ, Option, Some, None}
use Rattle.live_world.specs.Deadlines.{moment_after}

abbrev pub start_moment : Option ℕ → ℕ → ℕ
start_moment None now = now
start_moment (Some last) now = moment_after last 500

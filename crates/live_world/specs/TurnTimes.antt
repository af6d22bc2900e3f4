-- How long an application may talk, in milliseconds. Our own choice: 5 seconds for its start, 10 for a turn from its Event, whatever comes
-- meanwhile, and 5 for each next byte.
use Rattle.std.specs.Prelude.{ℕ, Bool, ◌==◌, ◌&&◌, List, length, min, nat_lt, if◌then◌else◌}
use Rattle.of_types.specs.Fields.{number_at}
use Rattle.live_world.specs.Deadlines.{moment_after}

-- the frame Event (kind 2 behind the length)
abbrev pub begins_turn : List ℕ → Bool
begins_turn bytes = nat_lt 4 (length bytes) && (number_at 1 4 bytes == 2)

-- until when it is heard, once it is given these bytes
abbrev pub turn_end : ℕ → List ℕ → ℕ → ℕ
turn_end until bytes now = if begins_turn bytes then moment_after now 10000 else until

-- until when its next byte is awaited
abbrev pub take_end : ℕ → ℕ → ℕ
take_end until now = min (moment_after now 5000) until

-- How long a connection may stay silent, in milliseconds. Our own choice: 5 seconds to say who it is, whatever else it says, an
-- ECHO_REQUEST after 15 seconds of silence, and 15 seconds more to answer. One that has said who it is waits for its join.
use Rattle.std.specs.Prelude.{ℕ, ◌-◌, Option, Some, None, if◌then◌else◌, nat_lt}
use Rattle.live_world.specs.declared.life.Life.{Life}
use Rattle.live_world.specs.declared.life.Stage.{Stage}
use Rattle.live_world.specs.declared.life.Stage.TheVariants.{Greeting, Named, Joined}
use Rattle.live_world.specs.declared.life.Due.{Due}
use Rattle.live_world.specs.declared.life.Due.TheVariants.{Nothing, Ask, Close}

-- bytes came: whatever was asked is answered
abbrev pub heard_at : ℕ → Life → Life
heard_at now life = record life { heard = now; asked = None }

abbrev pub asked_at : ℕ → Life → Life
asked_at now life = record life { asked = Some now }

abbrev due_in : ℕ → ℕ → ℕ → Stage → Option ℕ → Due
due_in now since heard Greeting asked = if nat_lt (now - since) 5000 then Nothing else Close
due_in now since heard (Named d) asked = Nothing
due_in now since heard (Joined d) (Some asked) = if nat_lt (now - asked) 15000 then Nothing else Close
due_in now since heard (Joined d) None = if nat_lt (now - heard) 15000 then Nothing else Ask

abbrev pub due_of : ℕ → Life → Due
due_of now life = due_in now life.since life.heard life.stage life.asked

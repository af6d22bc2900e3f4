-- What came of one step on a connection. Our own choice.
use Rattle.std.specs.Prelude.{ℕ, ◌≤◌, List, length, take}
use Rattle.outside.specs.Calls.{most_message, IsMessageIn}
use Rattle.outside.specs.Parting.{IsReadIn}
use Rattle.of_wire.specs.Handshake.{IsFeaturesOf}
use Rattle.live_world.specs.declared.connection.Heard.{Heard}
use Rattle.live_world.specs.declared.connection.Heard.TheVariants.{Told, Features}
use Rattle.live_world.specs.declared.connection.Answer.{Answer}
use Rattle.live_world.specs.declared.connection.Answer.TheVariants.{Reply}

-- what stands in the front of the buffer
abbrev pub IsHeardIn : Heard → List ℕ → Type 0
IsHeardIn (Told d n) buf = IsMessageIn ⊥ n buf × IsReadIn buf n
IsHeardIn (Features d n) buf = (n ≤ length buf) × (n ≤ most_message) × IsFeaturesOf d (take n buf)
IsHeardIn other buf = Unit {0}

abbrev pub IsAnswerIn : Answer → List ℕ → Type 0
IsAnswerIn (Reply n) buf = IsMessageIn ⊥ n buf × IsReadIn buf n
IsAnswerIn other buf = Unit {0}

-- What a FEATURES_REPLY says before a switch joins (OpenFlow 1.0.0, 5.3.1 Handshake), as worlds speak of it.
use Rattle.std.specs.Prelude.{ℕ, List}
use Rattle.of_wire.specs.Handshake.{IsFeaturesOf}
use Rattle.live_world.specs.declared.hearing.Greeting.{Greeting}
use Rattle.live_world.specs.declared.hearing.Greeting.TheVariants.{Features}

-- where a connection says that it is a switch, the bytes are the FEATURES_REPLY of that switch
abbrev pub IsGreetingOf : Greeting → List ℕ → Type 0
IsGreetingOf (Features d) frame = IsFeaturesOf d frame
IsGreetingOf other frame = Unit {0}

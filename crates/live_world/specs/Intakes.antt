-- What a read from an application came to. Our own choice.
use Rattle.std.specs.Prelude.{List, ℕ}
use Rattle.outside.specs.Calls.{IsTakenIn}
use Rattle.live_world.specs.declared.apps.Intake.{Intake}
use Rattle.live_world.specs.declared.apps.Intake.TheVariants.{Told, Nothing}

-- what stands in the front of the buffer
abbrev pub IsIntakeIn : Intake → List ℕ → Type 0
IsIntakeIn (Told taken) buf = IsTakenIn taken buf
IsIntakeIn Nothing buf = Unit {0}

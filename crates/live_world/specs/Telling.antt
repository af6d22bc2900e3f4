-- What came of one step over all connections. Our own choice.
use Rattle.std.specs.Prelude.{List, ℕ}
use Rattle.outside.specs.Calls.{IsItemIn}
use Rattle.outside.specs.Parting.{IsItemReadIn}
use Rattle.live_world.specs.declared.telling.TellingStep.{TellingStep}
use Rattle.live_world.specs.declared.telling.TellingStep.TheVariants.{Tell}

-- what stands in the front of the buffer
abbrev pub IsStepIn : TellingStep → List ℕ → Type 0
IsStepIn (Tell item) buf = IsItemIn ⊥ item buf × IsItemReadIn buf item
IsStepIn other buf = Unit {0}

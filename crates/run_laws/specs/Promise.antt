-- What a whole run promises, of a world that tells and keeps its word, and on which no call was made before: it is the run of the reference
-- controller over what the world told, and over whatever was said of the application, of which what was told is the front; and its journal
-- is a dialogue with the application, in which each change had reached its switch at once when it was answered. All of this is our own.
use Rattle.std.specs.Prelude.{◌≡◌, Bool, List, []}
use Rattle.flow_table.specs.View.{TableView}
use Rattle.lego_model.specs.Places.{Place}
use Rattle.outside.specs.Seen.{Seen}
use Rattle.outside.specs.Conforming.{Conforming}
use Rattle.run_laws.specs.Readings.{JudgesAlike}

-- of a world on which no call was made, however far it keeps its word
pub record PremiseSoFar {Own : Type 0} (Tells : Type 0) (accepts : List TableView → Bool) (allows : List Place → Bool) (old : Seen Own) : Type 0 where
  pub told : Tells
  pub judges : JudgesAlike Own allows accepts
  pub untouched : old.history ≡ []

-- of a world on which no call was made, and that keeps its word
pub record Premise {Own : Type 0} (Tells : Type 0) (accepts : List TableView → Bool) (allows : List Place → Bool) (old new : Seen Own) : Type 0 where
  pub told : Tells
  pub keeps : Conforming new
  pub judges : JudgesAlike Own allows accepts
  pub untouched : old.history ≡ []

-- What a simulated world keeps over all calls.
use Rattle.std.specs.Prelude.{◌≤◌, length, All}
use Rattle.outside.specs.State.{at_first}
use Rattle.sim_world.specs.Links.{IsDue}
use Rattle.sim_world.specs.laws.LinkStepLaws.{AreStanding}
use Rattle.sim_world.specs.Places.{AreExpected}
use Rattle.sim_world.specs.World.{WorldData, given_of, Stands}

-- It stands; each switch that is joined stands at its moment, and neither serials nor link calls are more than its steps; what is due
-- can be told; and no call was counted as out of place where all were in place and none wanted memory.
pub record Keeps (w : WorldData) : Type 0 where
  pub stands : Stands w
  pub standing : AreStanding w.state.moment (length w.history) w.state.links
  pub within : w.state.moment ≤ 4294967295
  pub due : All IsDue w.state.due
  pub places : AreExpected w.history (at_first (given_of w)) → w.tally.strays ≤ w.tally.shorts

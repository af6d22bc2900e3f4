use Rattle.vote_world.specs.laws.WorldLaws.{gave_keeps}
use Rattle.vote_world.proofs.voters.Voters.give.Goals as goal

pub returns-else-runs-clause-keeps : goal.returns-else-runs-clause-keeps
returns-else-runs-clause-keeps g c = gave_keeps g.W.World.Tells g.W.World.seen _ _ _ _ _ _ c.give.ensures.seen c.give.ensures.links c.give.ensures.running

use Rattle.vote_world.specs.laws.WorldLaws.{opens_keep}
use Rattle.vote_world.proofs.voters.Voters.open.Goals as goal

pub returns-clause-keeps : goal.returns-clause-keeps
returns-clause-keeps g c = opens_keep g.W.World.Tells g.W.World.seen _ _ _ _ c.open.ensures.seen c.open.ensures.call c.open.ensures.running

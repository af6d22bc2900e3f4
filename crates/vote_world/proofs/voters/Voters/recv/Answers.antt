use Rattle.vote_world.specs.laws.WorldLaws.{receives_keep}
use Rattle.vote_world.proofs.voters.Voters.recv.Goals as goal

pub returns-clause-keeps : goal.returns-clause-keeps
returns-clause-keeps g c = receives_keep g.W.World.Tells g.W.World.seen _ _ _ _ _ _ c.recv.ensures.seen c.recv.ensures.call c.recv.ensures.running

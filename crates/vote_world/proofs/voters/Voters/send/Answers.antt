use Rattle.vote_world.specs.laws.WorldLaws.{sends_keep}
use Rattle.vote_world.proofs.voters.Voters.send.Goals as goal

pub returns-clause-keeps : goal.returns-clause-keeps
returns-clause-keeps g c = sends_keep g.W.World.Tells g.W.World.seen _ _ _ _ _ _ c.send.ensures.seen c.send.ensures.call c.send.ensures.running

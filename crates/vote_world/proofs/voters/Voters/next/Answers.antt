use Rattle.vote_world.specs.laws.WorldLaws.{nexts_keep}
use Rattle.vote_world.proofs.voters.Voters.next.Goals as goal

pub returns-clause-keeps : goal.returns-clause-keeps
returns-clause-keeps g c = nexts_keep g.W.World.Tells g.W.World.seen _ _ _ _ _ c.next.ensures.seen c.next.ensures.call c.next.ensures.running

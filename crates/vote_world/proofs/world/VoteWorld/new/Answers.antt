use Rattle.vote_world.specs.laws.WorldLaws.{new_votings}
use Rattle.vote_world.proofs.world.VoteWorld.new.Goals as goal

pub invariant_of-result : goal.invariant_of-result
invariant_of-result g c = new_votings g.W.World.Tells g.W.World.seen _ _ _ c.in_ok-linked.ensures.running c.in_ok-applications.ensures c.requires

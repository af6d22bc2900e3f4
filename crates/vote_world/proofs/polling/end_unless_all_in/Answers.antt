use Rattle.vote_world.specs.laws.LifeLaws.{rests_twice}
use Rattle.vote_world.proofs.polling.end_unless_all_in.Goals as goal

pub returns-clause-rests : goal.returns-clause-rests
returns-clause-rests g c = rests_twice g.W.World.Tells g.W.World.seen _ _ _ c.end_unless_in.ensures.rests (rests_twice g.W.World.Tells g.W.World.seen _ _ _ c.end_unless_in-2.ensures.rests c.end_unless_in-3.ensures.rests)

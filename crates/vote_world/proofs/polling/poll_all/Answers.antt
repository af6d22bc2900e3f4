use Rattle.vote_world.specs.laws.BackedLaws.{goes_twice}
use Rattle.vote_world.proofs.polling.poll_all.Goals as goal

pub returns-in-Ok-clause-goes : goal.returns-in-Ok-clause-goes
returns-in-Ok-clause-goes g c = goes_twice g.W.World.Tells g.W.World.seen _ _ _ _ _ _ _ _ c.in-Ok.ensures.goes c.poll_two.ensures.goes

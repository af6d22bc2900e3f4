use Rattle.vote_world.specs.laws.BackedLaws.{goes_none, goes_twice}
use Rattle.vote_world.proofs.polling.hear_more.Goals as goal

pub returns-in-Ok-true-clause-goes : goal.returns-in-Ok-true-clause-goes
returns-in-Ok-true-clause-goes g c = goes_twice g.W.World.Tells g.W.World.seen _ _ _ _ _ _ _ _ (goes_none g.W.World.Tells g.W.World.seen _ _ _ _ c.in-Ok-true.ensures.rests) c.hear.ensures.goes

pub returns-in-Ok-false-clause-goes : goal.returns-in-Ok-false-clause-goes
returns-in-Ok-false-clause-goes g c = goes_none g.W.World.Tells g.W.World.seen _ _ _ _ c.in-Ok-false.ensures.rests

pub returns-in-Err-clause-goes : goal.returns-in-Err-clause-goes
returns-in-Err-clause-goes g c = goes_none g.W.World.Tells g.W.World.seen _ _ _ _ c.in-Err.ensures.rests

use Rattle.vote_world.specs.laws.LifeLaws.{rests_twice}
use Rattle.vote_world.specs.laws.AppLaws.{ends_app}
use Rattle.vote_world.proofs.copies.Copies.give.Goals as goal

pub returns-in-Err-clause-goes : goal.returns-in-Err-clause-goes
returns-in-Err-clause-goes g c = rw (← c.self.view_is) (ends_app g.W.World.Tells g.W.World.seen _ _ _ _ c.end.ensures.ended (rests_twice g.W.World.Tells g.W.World.seen _ _ _ c.in-Err.ensures.rests c.end.ensures.rests))

use Rattle.vote_world.specs.laws.AppLaws.{touches_first, leaves_three}
use Rattle.vote_world.proofs.copies.start_all.Goals as goal

pub returns-in-Ok-clause-leaves : goal.returns-in-Ok-clause-leaves
returns-in-Ok-clause-leaves g c = leaves_three g.W.World.Tells g.W.World.seen _ _ _ _ _ c.if-not-three.false c.in-Ok.ensures.begins.touches c.start_two.ensures.leaves

pub returns-in-Err-clause-leaves : goal.returns-in-Err-clause-leaves
returns-in-Err-clause-leaves g c = touches_first g.W.World.Tells g.W.World.seen _ _ _ _ c.in-Err.ensures.begins.touches

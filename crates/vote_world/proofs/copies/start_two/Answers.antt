use Rattle.frame_votes.specs.declared.ballot.Place.TheVariants.{Second, Third}
use Rattle.vote_world.specs.laws.AppLaws.{touches_place, leaves_twice}
use Rattle.vote_world.proofs.copies.start_two.Goals as goal

pub returns-in-Ok-clause-leaves : goal.returns-in-Ok-clause-leaves
returns-in-Ok-clause-leaves g c = leaves_twice g.W.World.Tells g.W.World.seen _ _ _ _ _ (touches_place g.W.World.Tells g.W.World.seen Second _ _ _ c.in-Ok.ensures.begins.touches) (touches_place g.W.World.Tells g.W.World.seen Third _ _ _ c.start_copy-in-Ok.ensures.begins.touches)

pub returns-in-Err-clause-leaves : goal.returns-in-Err-clause-leaves
returns-in-Err-clause-leaves g c = touches_place g.W.World.Tells g.W.World.seen Second _ _ _ c.in-Err.ensures.begins.touches

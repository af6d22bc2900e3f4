use Rattle.vote_world.specs.laws.LifeLaws.{rests_want}
use Rattle.vote_world.proofs.polling.keep.Goals as goal

pub returns-in-Err-clause-rests : goal.returns-in-Err-clause-rests
returns-in-Err-clause-rests g c = rests_want g.W.World.Tells g.W.World.seen _ _ _ c.end_copy.ensures.rests c.want_memory.ensures.links c.want_memory.ensures.running

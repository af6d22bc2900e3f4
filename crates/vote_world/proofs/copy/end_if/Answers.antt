use Rattle.vote_world.specs.laws.LifeLaws.{ends_rest}
use Rattle.vote_world.proofs.copy.end_if.Goals as goal

pub returns-then-is_in-clause-rests : goal.returns-then-is_in-clause-rests
returns-then-is_in-clause-rests g c = ends_rest g.W.World.Tells g.W.World.seen _ _ _ c.end_there.ensures.call c.end_there.ensures.running

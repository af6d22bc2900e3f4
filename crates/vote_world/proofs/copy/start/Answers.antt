use Rattle.vote_world.specs.laws.LifeLaws.{restarts_begin}
use Rattle.vote_world.proofs.copy.start.Goals as goal

pub returns-then-has_place-clause-begins : goal.returns-then-has_place-clause-begins
returns-then-has_place-clause-begins g c = restarts_begin g.W.World.Tells g.W.World.seen _ _ _ _ c.start_there.ensures.call c.start_there.ensures.running

use Rattle.vote_world.specs.laws.LifeLaws.{gives_rest}
use Rattle.vote_world.proofs.copy.give.Goals as goal

pub returns-then-runs_there-clause-rests : goal.returns-then-runs_there-clause-rests
returns-then-runs_there-clause-rests g c = gives_rest g.W.World.Tells g.W.World.seen _ _ _ _ _ c.give_there.ensures.call c.give_there.ensures.running

use Rattle.vote_world.specs.laws.LifeLaws.{ends_rest}
use Rattle.vote_world.proofs.polling.end_unless_in.Goals as goal

pub returns-then-not-is_in-clause-rests : goal.returns-then-not-is_in-clause-rests
returns-then-not-is_in-clause-rests g c = ends_rest g.W.World.Tells g.W.World.seen _ c.args.linked.now c.end_there.new.self c.end_there.ensures.call c.end_there.ensures.running

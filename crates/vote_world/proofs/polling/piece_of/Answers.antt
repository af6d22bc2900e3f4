use Rattle.vote_world.specs.laws.LifeLaws.{takes_go, touches_rest}
use Rattle.vote_world.proofs.polling.piece_of.Goals as goal

pub returns-in-Ok-Some-clause-touches : goal.returns-in-Ok-Some-clause-touches
returns-in-Ok-Some-clause-touches g c = touches_rest g.W.World.Tells g.W.World.seen _ _ _ _ (takes_go g.W.World.Tells g.W.World.seen _ c.args.linked.now c.take_there.new.self _ _ c.in-Ok-Some.ensures.call c.in-Ok-Some.ensures.running).touches c.bytes_of.ensures.rests

pub returns-in-Ok-Closed-clause-touches : goal.returns-in-Ok-Closed-clause-touches
returns-in-Ok-Closed-clause-touches g c = (takes_go g.W.World.Tells g.W.World.seen _ c.args.linked.now c.take_there.new.self _ _ c.in-Ok-Closed.ensures.call c.in-Ok-Closed.ensures.running).touches

pub returns-in-Ok-Silent-clause-touches : goal.returns-in-Ok-Silent-clause-touches
returns-in-Ok-Silent-clause-touches g c = (takes_go g.W.World.Tells g.W.World.seen _ c.args.linked.now c.take_there.new.self _ _ c.in-Ok-Silent.ensures.call c.in-Ok-Silent.ensures.running).touches

pub returns-in-Err-clause-touches : goal.returns-in-Err-clause-touches
returns-in-Err-clause-touches g c = (takes_go g.W.World.Tells g.W.World.seen _ c.args.linked.now c.take_there.new.self _ _ c.in-Err.ensures.call c.in-Err.ensures.running).touches

use Rattle.vote_world.specs.laws.LifeLaws.{takes_as, takes_go}
use Rattle.vote_world.proofs.polling.piece.Goals as goal

pub returns-in-Ok-Some-clause-goes : goal.returns-in-Ok-Some-clause-goes
returns-in-Ok-Some-clause-goes g c = takes_as g.W.World.Tells g.W.World.seen _ c.args.linked.now c.take_there.new.self _ _ _ c.in-Ok-Some.field-0-is c.in-Ok-Some.ensures.call c.in-Ok-Some.ensures.running

pub returns-in-Ok-Closed-clause-goes : goal.returns-in-Ok-Closed-clause-goes
returns-in-Ok-Closed-clause-goes g c = takes_as g.W.World.Tells g.W.World.seen _ c.args.linked.now c.take_there.new.self _ _ _ c.in-Ok-Closed.field-0-is c.in-Ok-Closed.ensures.call c.in-Ok-Closed.ensures.running

pub returns-in-Ok-Silent-clause-goes : goal.returns-in-Ok-Silent-clause-goes
returns-in-Ok-Silent-clause-goes g c = takes_as g.W.World.Tells g.W.World.seen _ c.args.linked.now c.take_there.new.self _ _ _ c.in-Ok-Silent.field-0-is c.in-Ok-Silent.ensures.call c.in-Ok-Silent.ensures.running

pub returns-in-Err-clause-goes : goal.returns-in-Err-clause-goes
returns-in-Err-clause-goes g c = takes_go g.W.World.Tells g.W.World.seen _ c.args.linked.now c.take_there.new.self _ _ c.in-Err.ensures.call c.in-Err.ensures.running

use Rattle.vote_world.specs.laws.LifeLaws.{ends_rest, rests_want}
use Rattle.vote_world.proofs.polling.bytes_of.Goals as goal

pub returns-in-Err-clause-rests : goal.returns-in-Err-clause-rests
returns-in-Err-clause-rests g c = rests_want g.W.World.Tells g.W.World.seen _ c.end_there.new.self _ (ends_rest g.W.World.Tells g.W.World.seen _ c.args.linked.now c.end_there.new.self c.end_there.ensures.call c.end_there.ensures.running) c.want_memory.ensures.links c.want_memory.ensures.running

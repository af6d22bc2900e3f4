use Rattle.vote_world.specs.laws.LifeLaws.{rests_same}
use Rattle.vote_world.proofs.polling.awaits.Goals as goal

pub returns-in-Err-clause-rests : goal.returns-in-Err-clause-rests
returns-in-Err-clause-rests g c = rests_same g.W.World.Tells g.W.World.seen c.args.linked.now c.want_memory.new.self c.want_memory.ensures.links c.want_memory.ensures.running

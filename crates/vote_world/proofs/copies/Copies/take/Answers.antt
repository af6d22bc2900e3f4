use Rattle.vote_world.specs.laws.AppLaws.{took_goes, polls_taken}
use Rattle.vote_world.proofs.copies.Copies.take.Goals as goal

pub returns-in-Ok-clause-goes : goal.returns-in-Ok-clause-goes
returns-in-Ok-clause-goes g c = took_goes g.W.World.Tells g.W.World.seen _ _ _ _ _ _ _ c.in-Ok.ensures.goes c.next_of.ensures.passes c.next_of.ensures.err c.next_of.ensures.rests

pub returns-in-Ok-clause-polls : goal.returns-in-Ok-clause-polls
returns-in-Ok-clause-polls g c = polls_taken g.W.World.Tells g.W.World.seen _ _ _ c.args.linked.now _ _ _ c.in-Ok.ensures.polls c.next_of.ensures.passes c.next_of.ensures.rests

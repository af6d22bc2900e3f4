use Rattle.vote_world.specs.laws.BackedLaws.{goes_twice, vote_goes, votes_tied}
use Rattle.vote_world.proofs.polling.next_vote.Goals as goal

pub returns-in-Ok-clause-goes : goal.returns-in-Ok-clause-goes
returns-in-Ok-clause-goes g c = goes_twice g.W.World.Tells g.W.World.seen _ _ _ _ _ _ _ _ c.in-Ok.ensures.goes (vote_goes g.W.World.Tells g.W.World.seen _ _ _ _ _ _ c.vote.ensures.frame c.vote.ensures.ballot c.vote.ensures.err c.vote.ensures.rests)

pub returns-in-Ok-clause-tied : goal.returns-in-Ok-clause-tied
returns-in-Ok-clause-tied g c = votes_tied g.W.World.Tells g.W.World.seen _ _ _ _ _ _ _ _ c.in-Ok.ensures.heard c.in-Ok.ensures.goes c.vote.ensures.rests c.vote.ensures.frame c.vote.ensures.ballot

use Rattle.vote_world.proofs.world.VoteWorldWorld.take.Goals as goal

pub returns-clause-voted : goal.returns-clause-voted
returns-clause-voted g c = rw (← c.self.view_is) (c.take.ensures.voted c.self.invariant)

use Rattle.linked_world.specs.laws.StillLaws.{still_none, still_twice, still_shorted}
use Rattle.vote_world.specs.laws.LifeLaws.{rests_none}
use Rattle.vote_world.specs.laws.BackedLaws.{goes_none, goes_twice}
use Rattle.vote_world.specs.laws.VotingLaws.{hears_none, hears_more}
use Rattle.vote_world.proofs.polling.poll.Goals as goal

pub loop-piece-init : goal.loop-piece-init
loop-piece-init g c = record { still = still_none _ _; heard = hears_none _ _; goes = goes_none g.W.World.Tells g.W.World.seen _ _ _ _ (rests_none g.W.World.Tells g.W.World.seen _) }

pub loop-piece-preserved : goal.loop-piece-preserved
loop-piece-preserved g c = record {
  still = still_twice c.loop-piece.invariant.still c.in-Ok-true.ensures.seen;
  heard = hears_more _ _ _ _ c.loop-piece.invariant.heard c.in-Ok-true.ensures.heard;
  goes = goes_twice g.W.World.Tells g.W.World.seen _ _ _ _ _ _ _ _ c.loop-piece.invariant.goes c.in-Ok-true.ensures.goes;
}

pub returns-in-Ok-false-clause-seen : goal.returns-in-Ok-false-clause-seen
returns-in-Ok-false-clause-seen g c = still_twice c.loop-piece.invariant.still c.in-Ok-false.ensures.seen

pub returns-in-Ok-false-clause-heard : goal.returns-in-Ok-false-clause-heard
returns-in-Ok-false-clause-heard g c = hears_more _ _ _ _ c.loop-piece.invariant.heard c.in-Ok-false.ensures.heard

pub returns-in-Err-clause-seen : goal.returns-in-Err-clause-seen
returns-in-Err-clause-seen g c = still_shorted c.loop-piece.invariant.still c.in-Err.ensures.seen

pub returns-clause-seen : goal.returns-clause-seen
returns-clause-seen g c = c.loop-piece.invariant.still

pub returns-clause-heard : goal.returns-clause-heard
returns-clause-heard g c = c.loop-piece.invariant.heard

pub returns-in-Ok-false-clause-goes : goal.returns-in-Ok-false-clause-goes
returns-in-Ok-false-clause-goes g c = goes_twice g.W.World.Tells g.W.World.seen _ _ _ _ _ _ _ _ c.loop-piece.invariant.goes c.in-Ok-false.ensures.goes

pub returns-in-Err-clause-goes : goal.returns-in-Err-clause-goes
returns-in-Err-clause-goes g c = goes_twice g.W.World.Tells g.W.World.seen _ _ _ _ _ _ _ _ c.loop-piece.invariant.goes c.in-Err.ensures.goes

pub returns-clause-goes : goal.returns-clause-goes
returns-clause-goes g c = c.loop-piece.invariant.goes

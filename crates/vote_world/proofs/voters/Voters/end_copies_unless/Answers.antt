use Rattle.vote_world.specs.laws.WorldLaws.{app_keeps, still_same}
use Rattle.vote_world.proofs.voters.Voters.end_copies_unless.Goals as goal

pub returns-then-not-stands-clause-keeps : goal.returns-then-not-stands-clause-keeps
returns-then-not-stands-clause-keeps g c = app_keeps g.W.World.Tells g.W.World.seen _ _ _ _ _ (record { size = c.end_copies.ensures.size; others = c.end_copies.ensures.others; here = c.end_copies.ensures.here }) c.end_copies.ensures.none (still_same g.W.World.Tells _ _ c.end_copies.ensures.seen)

use Rattle.linked_world.specs.laws.StillLaws.{ends_behind}
use Rattle.vote_world.specs.laws.WorldLaws.{ended_keeps, app_keeps, still_same}
use Rattle.vote_world.proofs.voters.Voters.end.Goals as goal

pub returns-clause-seen : goal.returns-clause-seen
returns-clause-seen g c = ends_behind c.end_copies.ensures.seen c.end.ensures.seen

pub returns-clause-keeps : goal.returns-clause-keeps
returns-clause-keeps g c = λ are. ended_keeps g.W.World.Tells g.W.World.seen _ _ _ _ c.end.ensures.seen c.end.ensures.links c.end.ensures.running (app_keeps g.W.World.Tells g.W.World.seen _ _ _ _ _ (record { size = c.end_copies.ensures.size; others = c.end_copies.ensures.others; here = c.end_copies.ensures.here }) c.end_copies.ensures.none (still_same g.W.World.Tells _ _ c.end_copies.ensures.seen) are)

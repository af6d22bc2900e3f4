use Rattle.linked_world.specs.laws.StillLaws.{takes_behind, takes_short}
use Rattle.vote_world.specs.laws.WorldLaws.{app_keeps, took_steps, took_keeps, took_votes, still_same, shorted_same}
use Rattle.vote_world.specs.laws.CopiesLaws.{goes_remain}
use Rattle.vote_world.proofs.voters.Voters.take_running.Goals as goal

pub returns-in-Ok-clause-seen : goal.returns-in-Ok-clause-seen
returns-in-Ok-clause-seen g c = takes_behind _ c.in-Ok.ensures.seen c.take.ensures.seen

pub returns-in-Ok-clause-keeps : goal.returns-in-Ok-clause-keeps
returns-in-Ok-clause-keeps g c = took_keeps g.W.World.Tells g.W.World.seen _ c.in-Ok.what _ _ _ _ _ _ _ _ (record { size = c.in-Ok.ensures.size; others = c.in-Ok.ensures.others; here = c.in-Ok.ensures.here }) c.in-Ok.ensures.none (still_same g.W.World.Tells _ _ c.in-Ok.ensures.seen) c.take.ensures.seen (took_steps g.W.World.Tells g.W.World.seen _ c.in-Ok.what _ _ _ _ _ _ _ (record { size = c.in-Ok.ensures.size; others = c.in-Ok.ensures.others; here = c.in-Ok.ensures.here }) c.in-Ok.ensures.none c.requires.runs c.take.ensures.what) c.take.ensures.links c.take.ensures.running

pub returns-in-Ok-clause-voted : goal.returns-in-Ok-clause-voted
returns-in-Ok-clause-voted g c = took_votes g.W.World.Tells g.W.World.seen _ c.in-Ok.what _ _ _ _ _ _ _ _ (record { size = c.in-Ok.ensures.size; others = c.in-Ok.ensures.others; here = c.in-Ok.ensures.here }) (record { size = c.in-Ok.ensures.size; others = c.in-Ok.ensures.others; here = c.in-Ok.ensures.polls }) c.in-Ok.ensures.none (still_same g.W.World.Tells _ _ c.in-Ok.ensures.seen) c.take.ensures.seen (took_steps g.W.World.Tells g.W.World.seen _ c.in-Ok.what _ _ _ _ _ _ _ (record { size = c.in-Ok.ensures.size; others = c.in-Ok.ensures.others; here = c.in-Ok.ensures.here }) c.in-Ok.ensures.none c.requires.runs c.take.ensures.what) c.take.ensures.links c.take.ensures.running

pub returns-in-Err-clause-seen : goal.returns-in-Err-clause-seen
returns-in-Err-clause-seen g c = takes_short _ c.in-Err.ensures.seen c.requires.told

pub returns-in-Err-clause-keeps : goal.returns-in-Err-clause-keeps
returns-in-Err-clause-keeps g c = app_keeps g.W.World.Tells g.W.World.seen _ _ _ _ _ (record { size = c.in-Err.ensures.size; others = c.in-Err.ensures.others; here = c.in-Err.ensures.here }) c.in-Err.ensures.none (shorted_same g.W.World.Tells _ _ c.in-Err.ensures.seen)

pub returns-in-Ok-clause-copies : goal.returns-in-Ok-clause-copies
returns-in-Ok-clause-copies g c = goes_remain g.W.World.Tells g.W.World.seen _ _ _ _ _ _ (record { size = c.in-Ok.ensures.size; others = c.in-Ok.ensures.others; here = c.in-Ok.ensures.here })

pub returns-in-Err-clause-copies : goal.returns-in-Err-clause-copies
returns-in-Err-clause-copies g c = goes_remain g.W.World.Tells g.W.World.seen _ _ _ _ _ _ (record { size = c.in-Err.ensures.size; others = c.in-Err.ensures.others; here = c.in-Err.ensures.here })

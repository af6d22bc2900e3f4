use Rattle.linked_world.specs.laws.StillLaws.{starts_behind, starts_short}
use Rattle.vote_world.specs.laws.WorldLaws.{began_fresh, began_keeps, still_same, shorted_same}
use Rattle.vote_world.specs.laws.CopiesLaws.{starts_to, starts_short as starts_to_short}
use Rattle.vote_world.proofs.voters.Voters.start_idle.Goals as goal

pub returns-in-Ok-clause-seen : goal.returns-in-Ok-clause-seen
returns-in-Ok-clause-seen g c = starts_behind _ c.in-Ok.ensures.seen c.begun.ensures.seen

pub returns-in-Ok-clause-keeps : goal.returns-in-Ok-clause-keeps
returns-in-Ok-clause-keeps g c = λ are. c.begun.ensures.keeps (λ told. began_fresh g.W.World.Tells g.W.World.seen _ _ _ _ _ (record { size = c.in-Ok.ensures.size; others = c.in-Ok.ensures.others; here = c.in-Ok.ensures.here }) are.numbered told) (began_keeps g.W.World.Tells g.W.World.seen _ _ _ _ _ (record { size = c.in-Ok.ensures.size; others = c.in-Ok.ensures.others; here = c.in-Ok.ensures.here }) c.in-Ok.ensures.none (still_same g.W.World.Tells _ _ c.in-Ok.ensures.seen) c.requires.idle are)

pub returns-in-Err-clause-seen : goal.returns-in-Err-clause-seen
returns-in-Err-clause-seen g c = starts_short c.in-Err.ensures.seen c.requires.told

pub returns-in-Err-clause-keeps : goal.returns-in-Err-clause-keeps
returns-in-Err-clause-keeps g c = began_keeps g.W.World.Tells g.W.World.seen _ _ _ _ _ (record { size = c.in-Err.ensures.size; others = c.in-Err.ensures.others; here = c.in-Err.ensures.here }) c.in-Err.ensures.none (shorted_same g.W.World.Tells _ _ c.in-Err.ensures.seen) c.requires.idle

pub returns-in-Ok-clause-copies : goal.returns-in-Ok-clause-copies
returns-in-Ok-clause-copies g c = starts_to g.W.World.Tells g.W.World.seen _ _ _ _ _ _ _ _ (record { size = c.in-Ok.ensures.size; others = c.in-Ok.ensures.others; here = c.in-Ok.ensures.here }) c.in-Ok.ensures.answers c.begun.ensures.begun

pub returns-in-Err-clause-copies : goal.returns-in-Err-clause-copies
returns-in-Err-clause-copies g c = starts_to_short g.W.World.Tells g.W.World.seen _ _ _ _ _ _ (record { size = c.in-Err.ensures.size; others = c.in-Err.ensures.others; here = c.in-Err.ensures.here }) c.in-Err.ensures.answers

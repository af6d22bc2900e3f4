use Rattle.std.proofs.Common.{sym, ◌∙◌}
use Rattle.vote_world.specs.laws.WorldLaws.{idle_keeps}
use Rattle.vote_world.specs.laws.CopiesLaws.{at_same}
use Rattle.vote_world.proofs.voters.Voters.take.Goals as goal

pub returns-else-runs-clause-keeps : goal.returns-else-runs-clause-keeps
returns-else-runs-clause-keeps g c = idle_keeps g.W.World.Tells g.W.World.seen _ _ _ _ _ _ c.take.ensures.seen c.take.ensures.links c.take.ensures.running (sym c.runs.ensures.list ∙ c.if-runs.false)

pub returns-else-runs-clause-copies : goal.returns-else-runs-clause-copies
returns-else-runs-clause-copies g c = at_same _ _

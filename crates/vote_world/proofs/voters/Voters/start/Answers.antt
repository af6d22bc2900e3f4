use Rattle.vote_world.specs.laws.WorldLaws.{refused_keeps}
use Rattle.vote_world.proofs.voters.Voters.start.Goals as goal

pub returns-then-runs-clause-keeps : goal.returns-then-runs-clause-keeps
returns-then-runs-clause-keeps g c = refused_keeps g.W.World.Tells g.W.World.seen _ _ _ _ _ c.start.ensures.seen c.start.ensures.links c.start.ensures.running c.start.ensures.ok

use Rattle.vote_world.specs.laws.WorldLaws.{started_keeps}
use Rattle.vote_world.specs.laws.CopiesLaws.{begun_to}
use Rattle.vote_world.proofs.voters.Voters.begun.Goals as goal

pub returns-clause-keeps : goal.returns-clause-keeps
returns-clause-keeps g c = λ fresh are. c.end_copies_unless.ensures.keeps (started_keeps g.W.World.Tells g.W.World.seen _ _ _ _ _ c.start-started.ensures.seen c.start-started.ensures.links c.start-started.ensures.running fresh are)

pub returns-clause-begun : goal.returns-clause-begun
returns-clause-begun g c = begun_to _ _ c.is_ok-stands.result _ _ _ _ c.start-started.ensures.ok c.is_ok-stands.ensures.value c.end_copies_unless.ensures.stand c.end_copies_unless.ensures.end

use Rattle.vote_world.specs.laws.WorldLaws.{gave_keeps}
use Rattle.vote_world.specs.laws.CopiesLaws.{given_to}
use Rattle.vote_world.proofs.voters.Voters.given.Goals as goal

pub returns-clause-keeps : goal.returns-clause-keeps
returns-clause-keeps g c = λ are. c.end_copies_unless.ensures.keeps (gave_keeps g.W.World.Tells g.W.World.seen _ _ _ _ _ _ c.give-given.ensures.seen c.give-given.ensures.links c.give-given.ensures.running are)

pub returns-clause-given : goal.returns-clause-given
returns-clause-given g c = given_to _ _ c.wants_memory-stands.result _ _ _ _ c.requires c.give-given.ensures.ok c.give-given.ensures.gone c.wants_memory-stands.ensures c.end_copies_unless.ensures.stand c.end_copies_unless.ensures.end

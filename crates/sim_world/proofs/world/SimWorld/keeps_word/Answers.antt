use Rattle.std.proofs.Common.{subst}
use Rattle.outside.specs.InOrder.{InOrder}
use Rattle.sim_world.specs.World.{WorldData, seen_of}
use Rattle.sim_world.specs.laws.StandingLaws.{in_order}
use Rattle.sim_world.proofs.world.SimWorld.keeps_word.Goals as goal

pub returns-clause-word : goal.returns-clause-word
returns-clause-word c = subst (λ (w : WorldData). InOrder (seen_of w)) c.self.view_is (in_order c.self.inside.parts c.self.invariant)

use Rattle.std.proofs.Common.{subst}
use Rattle.outside.specs.Calls.{Gives}
use Rattle.sim_world.specs.World.{WorldData, seen_of}
use Rattle.sim_world.specs.laws.DoingLaws.{Gives_by}
use Rattle.sim_world.specs.laws.KeepingLaws.{keeps_give}
use Rattle.sim_world.proofs.world.SimWorldWorld.give.Goals as goal

pub invariant_of-self : goal.invariant_of-self
invariant_of-self c = keeps_give c.args.app c.args.bytes.now c.self.inside.parts c.give.new.self c.give.result c.self.invariant c.give.ensures.does c.give.ensures.scripted

pub returns-clause-seen : goal.returns-clause-seen
returns-clause-seen c = subst (λ (w : WorldData). Gives (Unit {0}) c.args.app c.args.bytes.now (seen_of w) (seen_of c.give.new.self) c.give.result) c.self.view_is (Gives_by c.args.app c.args.bytes.now c.self.inside.parts c.give.new.self c.give.result c.self.invariant.stands c.give.ensures.does)

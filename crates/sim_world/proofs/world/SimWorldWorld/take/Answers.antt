use Rattle.std.proofs.Common.{subst}
use Rattle.outside.specs.Calls.{Takes}
use Rattle.sim_world.specs.World.{WorldData, seen_of}
use Rattle.sim_world.specs.laws.DoingLaws.{Takes_by}
use Rattle.sim_world.specs.laws.KeepingLaws.{keeps_take}
use Rattle.sim_world.proofs.world.SimWorldWorld.take.Goals as goal

pub invariant_of-self : goal.invariant_of-self
invariant_of-self c = keeps_take c.args.app c.self.inside.parts c.take.new.self c.take.result c.take.new.buf c.self.invariant c.take.ensures.does c.take.ensures.scripted

pub returns-clause-seen : goal.returns-clause-seen
returns-clause-seen c = subst (λ (w : WorldData). Takes (Unit {0}) c.args.app (seen_of w) (seen_of c.take.new.self) c.take.result c.take.new.buf) c.self.view_is (Takes_by c.args.app c.self.inside.parts c.take.new.self c.take.result c.take.new.buf c.self.invariant.stands c.take.ensures.does)

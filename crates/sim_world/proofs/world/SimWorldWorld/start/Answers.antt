use Rattle.std.proofs.Common.{subst}
use Rattle.outside.specs.Calls.{Starts}
use Rattle.sim_world.specs.World.{WorldData, seen_of}
use Rattle.sim_world.specs.laws.DoingLaws.{Starts_by}
use Rattle.sim_world.specs.laws.KeepingLaws.{keeps_start}
use Rattle.sim_world.proofs.world.SimWorldWorld.start.Goals as goal

pub invariant_of-self : goal.invariant_of-self
invariant_of-self c = keeps_start c.args.app c.self.inside.parts c.start.new.self c.start.result c.self.invariant c.start.ensures.does c.start.ensures.scripted

pub returns-clause-seen : goal.returns-clause-seen
returns-clause-seen c = subst (λ (w : WorldData). Starts (Unit {0}) c.args.app (seen_of w) (seen_of c.start.new.self) c.start.result) c.self.view_is (Starts_by c.args.app c.self.inside.parts c.start.new.self c.start.result c.self.invariant.stands c.start.ensures.does)

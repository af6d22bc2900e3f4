use Rattle.std.proofs.Common.{subst}
use Rattle.outside.specs.Calls.{Opens}
use Rattle.sim_world.specs.World.{WorldData, seen_of}
use Rattle.sim_world.specs.laws.DoingLaws.{Opens_by}
use Rattle.sim_world.specs.laws.KeepingLaws.{keeps_open}
use Rattle.sim_world.proofs.world.SimWorldWorld.open.Goals as goal

pub invariant_of-self : goal.invariant_of-self
invariant_of-self c = keeps_open c.self.inside.parts c.open.new.self c.open.result c.self.invariant c.open.ensures.does c.open.ensures.told

pub returns-clause-seen : goal.returns-clause-seen
returns-clause-seen c = subst (λ (w : WorldData). Opens (Unit {0}) (seen_of w) (seen_of c.open.new.self) c.open.result) c.self.view_is (Opens_by c.self.inside.parts c.open.new.self c.open.result c.self.invariant.stands c.open.ensures.does)

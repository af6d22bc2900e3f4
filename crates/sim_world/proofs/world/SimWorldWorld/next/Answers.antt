use Rattle.std.proofs.Common.{subst}
use Rattle.outside.specs.Calls.{Nexts}
use Rattle.sim_world.specs.World.{WorldData, seen_of}
use Rattle.sim_world.specs.laws.DoingLaws.{Nexts_by}
use Rattle.sim_world.specs.laws.KeepingLaws.{keeps_next}
use Rattle.sim_world.proofs.world.SimWorldWorld.next.Goals as goal

pub invariant_of-self : goal.invariant_of-self
invariant_of-self c = keeps_next c.self.inside.parts c.next.new.self c.next.result c.next.new.buf c.self.invariant c.next.ensures.does

pub returns-clause-seen : goal.returns-clause-seen
returns-clause-seen c = subst (λ (w : WorldData). Nexts (Unit {0}) (seen_of w) (seen_of c.next.new.self) c.next.result c.next.new.buf) c.self.view_is (Nexts_by c.self.inside.parts c.next.new.self c.next.result c.next.new.buf c.self.invariant.stands c.next.ensures.does)

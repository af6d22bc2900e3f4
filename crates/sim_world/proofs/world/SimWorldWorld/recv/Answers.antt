use Rattle.std.proofs.Common.{subst}
use Rattle.outside.specs.Calls.{Receives}
use Rattle.sim_world.specs.World.{WorldData, seen_of}
use Rattle.sim_world.specs.laws.DoingLaws.{Receives_by}
use Rattle.sim_world.specs.laws.KeepingLaws.{keeps_recv}
use Rattle.sim_world.proofs.world.SimWorldWorld.recv.Goals as goal

pub invariant_of-self : goal.invariant_of-self
invariant_of-self c = keeps_recv c.args.dpid c.self.inside.parts c.recv.new.self c.recv.result c.recv.new.buf c.self.invariant c.recv.ensures.does c.recv.ensures.word c.recv.ensures.told

pub returns-clause-seen : goal.returns-clause-seen
returns-clause-seen c = subst (λ (w : WorldData). Receives (Unit {0}) c.args.dpid (seen_of w) (seen_of c.recv.new.self) c.recv.result c.recv.new.buf) c.self.view_is (Receives_by c.args.dpid c.self.inside.parts c.recv.new.self c.recv.result c.recv.new.buf c.self.invariant.stands c.recv.ensures.does)

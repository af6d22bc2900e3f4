use Rattle.std.proofs.Common.{subst}
use Rattle.outside.specs.Calls.{Sends}
use Rattle.sim_world.specs.World.{WorldData, seen_of}
use Rattle.sim_world.specs.laws.DoingLaws.{Sends_by}
use Rattle.sim_world.specs.laws.KeepingLaws.{keeps_send}
use Rattle.sim_world.proofs.world.SimWorldWorld.send.Goals as goal

pub invariant_of-self : goal.invariant_of-self
invariant_of-self c = keeps_send c.args.dpid c.args.frame.now c.self.inside.parts c.send.new.self c.send.result c.self.invariant c.send.ensures.does c.send.ensures.word c.send.ensures.told

pub returns-clause-seen : goal.returns-clause-seen
returns-clause-seen c = subst (λ (w : WorldData). Sends (Unit {0}) c.args.dpid c.args.frame.now (seen_of w) (seen_of c.send.new.self) c.send.result) c.self.view_is (Sends_by c.args.dpid c.args.frame.now c.self.inside.parts c.send.new.self c.send.result c.self.invariant.stands c.send.ensures.does)

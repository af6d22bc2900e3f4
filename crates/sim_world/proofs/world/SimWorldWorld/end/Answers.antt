use Rattle.std.proofs.Common.{subst}
use Rattle.outside.specs.Calls.{Ends}
use Rattle.sim_world.specs.World.{WorldData, seen_of}
use Rattle.sim_world.specs.laws.DoingLaws.{Ends_by}
use Rattle.sim_world.specs.laws.KeepingLaws.{keeps_end}
use Rattle.sim_world.proofs.world.SimWorldWorld.end.Goals as goal

pub invariant_of-self : goal.invariant_of-self
invariant_of-self c = keeps_end c.args.app c.self.inside.parts c.end.new.self c.self.invariant c.end.ensures.moves c.end.ensures.scripted

pub returns-clause-seen : goal.returns-clause-seen
returns-clause-seen c = subst (λ (w : WorldData). Ends (Unit {0}) c.args.app (seen_of w) (seen_of c.end.new.self)) c.self.view_is (Ends_by c.args.app c.self.inside.parts c.end.new.self c.self.invariant.stands c.end.ensures.moves)

use Rattle.std.proofs.Common.{sym, subst}
use Rattle.sim_world.specs.Building.{MayBeGiven, nothing_given}
use Rattle.sim_world.specs.laws.BuildingLaws.{Keeps-new, MayBeGiven-nothing, Begins-given}
use Rattle.sim_world.proofs.world.SimWorld.new.Goals as goal

pub invariant_of-result : goal.invariant_of-result
invariant_of-result c = Keeps-new c.in_ok-new.field-0 c.in_ok-new.ensures.new (subst MayBeGiven (sym c.in_ok-new.ensures.given) MayBeGiven-nothing)

pub returns-clause-seen : goal.returns-clause-seen
returns-clause-seen c = Begins-given c.in_ok-new.field-0 nothing_given c.in_ok-new.ensures.new c.in_ok-new.ensures.given

use Rattle.std.proofs.Common.{subst}
use Rattle.outside.specs.declared.call.FailCall.{FailCall}
use Rattle.sim_world.specs.World.{Stands, given_of}
use Rattle.sim_world.specs.Keeping.{Keeps}
use Rattle.sim_world.specs.Building.{with_fail}
use Rattle.sim_world.specs.laws.BuildingLaws.{Keeps-new, MayBeGiven-stands, MayBeGiven-fail, built, begins}
use Rattle.sim_world.proofs.world.SimWorld.fail_call.Goals as goal

pub invariant_of-self : goal.invariant_of-self
invariant_of-self c =
    let now = c.args.self.now in
    let fail : FailCall = record { kind = c.args.kind; of = c.args.of; number = c.args.number } in
    let may = MayBeGiven-stands now c.requires.new (subst Stands c.self.view_is c.self.invariant.stands) in
    built Keeps c.fail_call.result (with_fail fail) now c.self.inside.parts c.fail_call.new.self c.self.view_is Keeps-new c.self.invariant
    (MayBeGiven-fail (given_of now) fail may)
    c.fail_call.ensures.ok c.fail_call.ensures.err

pub returns-clause-seen : goal.returns-clause-seen
returns-clause-seen c =
    let fail : FailCall = record { kind = c.args.kind; of = c.args.of; number = c.args.number } in
    begins c.fail_call.result (with_fail fail) c.args.self.now c.self.inside.parts c.fail_call.new.self c.self.view_is c.fail_call.ensures.ok

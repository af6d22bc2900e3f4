use Rattle.std.proofs.Common.{subst, arith}
use Rattle.flow_table.specs.Switch.{Declared}
use Rattle.outside.specs.Conforming.{MayDeclare}
use Rattle.sim_world.specs.World.{Stands, given_of}
use Rattle.sim_world.specs.Keeping.{Keeps}
use Rattle.sim_world.specs.Building.{with_switch}
use Rattle.sim_world.specs.laws.BuildingLaws.{Keeps-new, MayBeGiven-stands, MayBeGiven-switch, built, begins}
use Rattle.sim_world.proofs.world.SimWorld.add_switch.Goals as goal

pub invariant_of-self : goal.invariant_of-self
invariant_of-self c =
    let now = c.args.self.now in
    let d : Declared = record { dpid = c.args.dpid; cap = c.args.cap; ports = c.args.ports.now } in
    let one : MayDeclare d = record { number = omega arith; ports = c.requires.ports_is; few = c.requires.ports } in
    let may = MayBeGiven-stands now c.requires.new (subst Stands c.self.view_is c.self.invariant.stands) in
    built Keeps c.add_switch.result (with_switch d) now c.self.inside.parts c.add_switch.new.self c.self.view_is Keeps-new c.self.invariant
    (MayBeGiven-switch (given_of now) d may c.requires.number c.requires.cap one c.requires.absent)
    c.add_switch.ensures.ok c.add_switch.ensures.err

pub returns-clause-seen : goal.returns-clause-seen
returns-clause-seen c =
    let d : Declared = record { dpid = c.args.dpid; cap = c.args.cap; ports = c.args.ports.now } in
    begins c.add_switch.result (with_switch d) c.args.self.now c.self.inside.parts c.add_switch.new.self c.self.view_is c.add_switch.ensures.ok

use Rattle.std.proofs.Common.{subst}
use Rattle.sim_world.specs.World.{Stands, given_of}
use Rattle.sim_world.specs.Keeping.{Keeps}
use Rattle.sim_world.specs.Building.{with_stimulus}
use Rattle.sim_world.specs.laws.BuildingLaws.{Keeps-new, MayBeGiven-stands, MayBeGiven-stimulus, built, begins}
use Rattle.sim_world.proofs.world.SimWorld.add_stimulus.Goals as goal

pub invariant_of-self : goal.invariant_of-self
invariant_of-self c =
    let now = c.args.self.now in
    let may = MayBeGiven-stands now c.requires.new (subst Stands c.self.view_is c.self.invariant.stands) in
    built Keeps c.add_stimulus.result (with_stimulus c.args.x) now c.self.inside.parts c.add_stimulus.new.self c.self.view_is Keeps-new c.self.invariant
    (MayBeGiven-stimulus (given_of now) c.args.x may c.requires.stimulus)
    c.add_stimulus.ensures.ok c.add_stimulus.ensures.err

pub returns-clause-seen : goal.returns-clause-seen
returns-clause-seen c =
    begins c.add_stimulus.result (with_stimulus c.args.x) c.args.self.now c.self.inside.parts c.add_stimulus.new.self c.self.view_is c.add_stimulus.ensures.ok

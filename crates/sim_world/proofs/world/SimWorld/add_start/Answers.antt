use Rattle.std.proofs.Common.{subst}
use Rattle.sim_world.specs.World.{Stands, given_of}
use Rattle.sim_world.specs.Keeping.{Keeps}
use Rattle.sim_world.specs.Building.{with_start}
use Rattle.sim_world.specs.laws.BuildingLaws.{Keeps-new, MayBeGiven-stands, MayBeGiven-start, built, begins}
use Rattle.sim_world.proofs.world.SimWorld.add_start.Goals as goal

pub invariant_of-self : goal.invariant_of-self
invariant_of-self c =
    let now = c.args.self.now in
    let may = MayBeGiven-stands now c.requires.new (subst Stands c.self.view_is c.self.invariant.stands) in
    built Keeps c.add_start.result (with_start c.args.app c.args.start) now c.self.inside.parts c.add_start.new.self c.self.view_is Keeps-new c.self.invariant
    (MayBeGiven-start (given_of now) c.args.app c.args.start may)
    c.add_start.ensures.ok c.add_start.ensures.err

pub returns-clause-seen : goal.returns-clause-seen
returns-clause-seen c =
    begins c.add_start.result (with_start c.args.app c.args.start) c.args.self.now c.self.inside.parts c.add_start.new.self c.self.view_is c.add_start.ensures.ok

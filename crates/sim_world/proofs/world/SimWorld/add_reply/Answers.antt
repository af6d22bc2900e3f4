use Rattle.std.proofs.Common.{subst}
use Rattle.sim_world.specs.World.{Stands, given_of}
use Rattle.sim_world.specs.Keeping.{Keeps}
use Rattle.sim_world.specs.Building.{with_reply}
use Rattle.sim_world.specs.laws.BuildingLaws.{Keeps-new, MayBeGiven-stands, MayBeGiven-reply, built, begins}
use Rattle.sim_world.proofs.world.SimWorld.add_reply.Goals as goal

pub invariant_of-self : goal.invariant_of-self
invariant_of-self c =
    let now = c.args.self.now in
    let may = MayBeGiven-stands now c.requires.new (subst Stands c.self.view_is c.self.invariant.stands) in
    built Keeps c.add_reply.result (with_reply c.args.app c.args.reply) now c.self.inside.parts c.add_reply.new.self c.self.view_is Keeps-new c.self.invariant
    (MayBeGiven-reply (given_of now) c.args.app c.args.reply may)
    c.add_reply.ensures.ok c.add_reply.ensures.err

pub returns-clause-seen : goal.returns-clause-seen
returns-clause-seen c =
    begins c.add_reply.result (with_reply c.args.app c.args.reply) c.args.self.now c.self.inside.parts c.add_reply.new.self c.self.view_is c.add_reply.ensures.ok

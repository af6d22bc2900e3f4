use Rattle.std.proofs.Common.{subst}
use Rattle.sim_world.specs.World.{Stands, given_of}
use Rattle.sim_world.specs.Keeping.{Keeps}
use Rattle.sim_world.specs.Building.{with_replies}
use Rattle.sim_world.specs.laws.BuildingLaws.{Keeps-new, MayBeGiven-stands, MayBeGiven-replies, built_whole}
use Rattle.sim_world.proofs.world.SimWorld.add_replies.Goals as goal

pub invariant_of-self : goal.invariant_of-self
invariant_of-self c =
    let now = c.args.self.now in
    let may = MayBeGiven-stands now c.requires.new (subst Stands c.self.view_is c.self.invariant.stands) in
    built_whole Keeps (with_replies c.args.replies) now c.self.inside.parts c.add_replies.new.self c.self.view_is Keeps-new
    (MayBeGiven-replies (given_of now) c.args.replies may) c.add_replies.ensures

use Rattle.std.proofs.Common.{subst}
use Rattle.sim_world.specs.World.{Stands, given_of}
use Rattle.sim_world.specs.Keeping.{Keeps}
use Rattle.sim_world.specs.Building.{with_stimuli}
use Rattle.sim_world.specs.laws.BuildingLaws.{Keeps-new, MayBeGiven-stands, MayBeGiven-stimuli, built_whole}
use Rattle.sim_world.proofs.world.SimWorld.add_stimuli.Goals as goal

pub invariant_of-self : goal.invariant_of-self
invariant_of-self c =
    let now = c.args.self.now in
    let may = MayBeGiven-stands now c.requires.new (subst Stands c.self.view_is c.self.invariant.stands) in
    built_whole Keeps (with_stimuli c.args.stimuli) now c.self.inside.parts c.add_stimuli.new.self c.self.view_is Keeps-new
    (MayBeGiven-stimuli (given_of now) c.args.stimuli may c.requires.none c.requires.may) c.add_stimuli.ensures

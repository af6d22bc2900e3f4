use Rattle.std.proofs.Common.{ap}
use Rattle.sim_world.specs.laws.BuildingLaws.{Gets-same, Gets-stimuli, stimuli_all}
use Rattle.sim_world.proofs.parts.Parts.add_stimuli.Goals as goal

pub returns : goal.returns
returns c =
    Gets-same _ _ _ _ (ap (λ w. stimuli_all c.args.stimuli w) c.self.view_is) (Gets-stimuli c.args.stimuli c.args.self.now c.requires.none c.requires.new)

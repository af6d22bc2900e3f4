use Rattle.sim_world.specs.laws.LinkLaws.{IsPossible-stimulus, IsShortIfRaw-stimulus}
use Rattle.sim_world.proofs.link.happen.Goals as goal

pub stimulus-requires : goal.stimulus-requires
stimulus-requires c = IsPossible-stimulus c.args.x.now _ c.requires

pub returns-in-Some-clause-short : goal.returns-in-Some-clause-short
returns-in-Some-clause-short c = c.stimulus.ensures.short (IsShortIfRaw-stimulus c.args.x.now c.requires)

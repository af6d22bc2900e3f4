use Rattle.switch_laws.specs.laws.ReleaseLaws.{release-shown, release-moves}
use Rattle.switch_laws.proofs.release.packets_are_shown.Goals as goal

pub returns-clause-shown : goal.returns-clause-shown
returns-clause-shown g c = release-shown g.W.World.Tells

pub returns-clause-moved : goal.returns-clause-moved
returns-clause-moved g c = release-moves g.W.World.Tells

use Rattle.turn_laws.specs.laws.FaultLaws.{commit-left}
use Rattle.turn_laws.proofs.turns.releases_leave.Goals as goal

pub returns : goal.returns
returns g c = commit-left g.W.World.Tells

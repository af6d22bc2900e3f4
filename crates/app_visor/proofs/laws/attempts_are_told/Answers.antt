use Rattle.app_visor.specs.laws.ReadTryLaws.{tries_told}
use Rattle.app_visor.proofs.laws.attempts_are_told.Goals as goal

pub returns : goal.returns
returns g c = tries_told g.W.World.Tells

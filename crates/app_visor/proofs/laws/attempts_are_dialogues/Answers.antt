use Rattle.app_visor.specs.laws.TryLaws.{tries_speak}
use Rattle.app_visor.proofs.laws.attempts_are_dialogues.Goals as goal

pub returns : goal.returns
returns g c = tries_speak g.W.World.Tells

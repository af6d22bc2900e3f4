use Rattle.turn_laws.specs.laws.ChainLaws.{turn-shown}
use Rattle.turn_laws.proofs.turns.turns_are_shown.Goals as goal

pub returns : goal.returns
returns g c = turn-shown g.W.World.Tells

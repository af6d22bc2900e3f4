use Rattle.run_laws.specs.laws.TurnMoveLaws.{turn_moves}
use Rattle.run_laws.proofs.events.turns_move.Goals as goal

pub returns : goal.returns
returns g c = turn_moves g.W.World.Tells

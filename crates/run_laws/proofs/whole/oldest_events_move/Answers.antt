use Rattle.run_laws.specs.laws.EventLaws.{next-shown}
use Rattle.run_laws.proofs.whole.oldest_events_move.Goals as goal

pub returns : goal.returns
returns g c = next-shown g.W.World.Tells

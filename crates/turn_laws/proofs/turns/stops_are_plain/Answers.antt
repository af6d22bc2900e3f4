use Rattle.turn_laws.specs.laws.StopLaws.{stop-plain, commit-plain}
use Rattle.turn_laws.proofs.turns.stops_are_plain.Goals as goal

pub returns-clause-turn : goal.returns-clause-turn
returns-clause-turn g c = stop-plain g.W.World.Tells

pub returns-clause-release : goal.returns-clause-release
returns-clause-release g c = commit-plain g.W.World.Tells

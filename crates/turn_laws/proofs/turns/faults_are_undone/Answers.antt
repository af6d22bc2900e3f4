use Rattle.turn_laws.specs.laws.FaultLaws.{stop-undone, turn-undone}
use Rattle.turn_laws.proofs.turns.faults_are_undone.Goals as goal

pub returns-clause-stopped : goal.returns-clause-stopped
returns-clause-stopped g c = stop-undone g.W.World.Tells

pub returns-clause-ended : goal.returns-clause-ended
returns-clause-ended g c = turn-undone g.W.World.Tells

use Rattle.run_laws.specs.laws.DispatchLaws.{dispatch-count, none-moves}
use Rattle.run_laws.specs.laws.EventLaws.{dispatch-moved, partly-moved}
use Rattle.run_laws.proofs.events.events_move.Goals as goal

pub returns-clause-dispatched : goal.returns-clause-dispatched
returns-clause-dispatched g c = dispatch-moved g.W.World.Tells

pub returns-clause-partly : goal.returns-clause-partly
returns-clause-partly g c = partly-moved g.W.World.Tells

pub returns-clause-counted : goal.returns-clause-counted
returns-clause-counted g c = dispatch-count g.W.World.Tells

pub returns-clause-rests : goal.returns-clause-rests
returns-clause-rests g c = none-moves

use Rattle.switch_laws.specs.laws.ShownUndoLaws.{undo-shown, undo-ready}
use Rattle.switch_laws.proofs.transaction.undos_are_shown.Goals as goal

pub returns-clause-shown : goal.returns-clause-shown
returns-clause-shown g c = undo-shown g.W.World.Tells

pub returns-clause-ready : goal.returns-clause-ready
returns-clause-ready g c = undo-ready g.W.World.Tells

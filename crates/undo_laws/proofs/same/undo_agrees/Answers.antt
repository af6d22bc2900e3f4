use Rattle.undo_laws.specs.laws.SameLaws.{same-undo}
use Rattle.undo_laws.specs.laws.RestoredLaws.{undo-agrees, Stands-restored}
use Rattle.undo_laws.proofs.same.undo_agrees.Goals as goal

pub returns-clause-undo : goal.returns-clause-undo
returns-clause-undo c = same-undo

pub returns-clause-restored : goal.returns-clause-restored
returns-clause-restored c = undo-agrees

pub returns-clause-stands : goal.returns-clause-stands
returns-clause-stands c = Stands-restored

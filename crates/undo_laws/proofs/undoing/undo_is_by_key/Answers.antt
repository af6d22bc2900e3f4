use Rattle.undo_laws.specs.laws.LogLaws.{undo-image, IsSerialed-undo}
use Rattle.undo_laws.proofs.undoing.undo_is_by_key.Goals as goal

pub returns-clause-image : goal.returns-clause-image
returns-clause-image c = undo-image

pub returns-clause-serials : goal.returns-clause-serials
returns-clause-serials c = IsSerialed-undo

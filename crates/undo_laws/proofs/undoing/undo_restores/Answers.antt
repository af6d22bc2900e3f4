use Rattle.undo_laws.specs.laws.StandsLaws.{undo-restores}
use Rattle.undo_laws.proofs.undoing.undo_restores.Goals as goal

pub returns : goal.returns
returns c = undo-restores

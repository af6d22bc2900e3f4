use Rattle.undo_laws.specs.laws.LogLaws.{image_of-append, given_back-merge, undo-append}
use Rattle.undo_laws.proofs.undoing.longer_logs.Goals as goal

pub returns-clause-image : goal.returns-clause-image
returns-clause-image c = image_of-append

pub returns-clause-given : goal.returns-clause-given
returns-clause-given c = given_back-merge

pub returns-clause-undo : goal.returns-clause-undo
returns-clause-undo c = undo-append

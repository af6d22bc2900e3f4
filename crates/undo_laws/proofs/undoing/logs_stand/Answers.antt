use Rattle.undo_laws.specs.laws.StandsLaws.{Stands-nothing, Stands-changed, Stands-change, refused-stays, Stands-undone, Stands-images}
use Rattle.undo_laws.proofs.undoing.logs_stand.Goals as goal

pub returns-clause-nothing : goal.returns-clause-nothing
returns-clause-nothing c = Stands-nothing

pub returns-clause-changed : goal.returns-clause-changed
returns-clause-changed c = Stands-changed

pub returns-clause-change : goal.returns-clause-change
returns-clause-change c = Stands-change

pub returns-clause-refused : goal.returns-clause-refused
returns-clause-refused c = refused-stays

pub returns-clause-undone : goal.returns-clause-undone
returns-clause-undone c = Stands-undone

pub returns-clause-images : goal.returns-clause-images
returns-clause-images c = Stands-images

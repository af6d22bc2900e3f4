use Rattle.undo_laws.specs.laws.RevertingLaws.{CanRevert-nothing, CanRevert-changed, CanRevert-change, CanRevert-undone, CanRevert-same_keys}
use Rattle.undo_laws.proofs.reverting.logs_can_be_reverted.Goals as goal

pub returns-clause-nothing : goal.returns-clause-nothing
returns-clause-nothing c = CanRevert-nothing

pub returns-clause-changed : goal.returns-clause-changed
returns-clause-changed c = CanRevert-changed

pub returns-clause-change : goal.returns-clause-change
returns-clause-change c = CanRevert-change

pub returns-clause-undone : goal.returns-clause-undone
returns-clause-undone c = CanRevert-undone

pub returns-clause-same_keys : goal.returns-clause-same_keys
returns-clause-same_keys c = CanRevert-same_keys

use Rattle.undo_laws.specs.laws.RevertingLaws.{removal-reverts, modification-reverts, addition-reverts, new_entry-back, deadline-back, no_notice-addition, no_notice-modification}
use Rattle.undo_laws.proofs.reverting.messages_revert.Goals as goal

pub returns-clause-removal : goal.returns-clause-removal
returns-clause-removal c = removal-reverts

pub returns-clause-actions : goal.returns-clause-actions
returns-clause-actions c = modification-reverts

pub returns-clause-addition : goal.returns-clause-addition
returns-clause-addition c = addition-reverts

pub returns-clause-entry : goal.returns-clause-entry
returns-clause-entry c = new_entry-back

pub returns-clause-deadline : goal.returns-clause-deadline
returns-clause-deadline c = deadline-back

pub returns-clause-no_notice_addition : goal.returns-clause-no_notice_addition
returns-clause-no_notice_addition c = no_notice-addition

pub returns-clause-no_notice_actions : goal.returns-clause-no_notice_actions
returns-clause-no_notice_actions c = no_notice-modification

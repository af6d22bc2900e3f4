use Rattle.netlog_inverse.specs.laws.MessageLaws.{removal-reverts, modification-reverts, addition-reverts, shown-addition, end-hard_left}
use Rattle.netlog_inverse.proofs.laws.messages_put_back.Goals as goal

pub returns-clause-removal : goal.returns-clause-removal
returns-clause-removal c = removal-reverts

pub returns-clause-modification : goal.returns-clause-modification
returns-clause-modification c = modification-reverts

pub returns-clause-addition : goal.returns-clause-addition
returns-clause-addition c = addition-reverts

pub returns-clause-shown : goal.returns-clause-shown
returns-clause-shown c = shown-addition

pub returns-clause-hard : goal.returns-clause-hard
returns-clause-hard c = end-hard_left

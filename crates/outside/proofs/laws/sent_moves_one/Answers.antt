use Rattle.outside.specs.laws.LinkLaws.{switch_of-sent, waits_of-sent, switch_of-sent_other, waits_of-sent_other}
use Rattle.outside.proofs.laws.sent_moves_one.Goals as goal

pub returns-clause-moved : goal.returns-clause-moved
returns-clause-moved c = switch_of-sent

pub returns-clause-waits : goal.returns-clause-waits
returns-clause-waits c = waits_of-sent

pub returns-clause-others : goal.returns-clause-others
returns-clause-others c = switch_of-sent_other

pub returns-clause-others_wait : goal.returns-clause-others_wait
returns-clause-others_wait c = waits_of-sent_other

use Rattle.outside.specs.laws.LinkLaws.{switch_of-got, waits_of-got, switch_of-got_other, waits_of-got_other}
use Rattle.outside.proofs.laws.taken_moves_none.Goals as goal

pub returns-clause-waits : goal.returns-clause-waits
returns-clause-waits c = waits_of-got

pub returns-clause-stays : goal.returns-clause-stays
returns-clause-stays c = switch_of-got

pub returns-clause-others : goal.returns-clause-others
returns-clause-others c = switch_of-got_other

pub returns-clause-others_wait : goal.returns-clause-others_wait
returns-clause-others_wait c = waits_of-got_other

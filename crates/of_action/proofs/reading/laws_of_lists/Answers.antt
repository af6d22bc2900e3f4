use Rattle.of_action.specs.laws.ActionLaws.{Spell-list_bytes, actions_of-list_bytes, same_from_Spell, SameButPads-list_bytes}
use Rattle.of_action.proofs.reading.laws_of_lists.Goals as goal

pub returns-clause-written : goal.returns-clause-written
returns-clause-written c = Spell-list_bytes

pub returns-clause-again : goal.returns-clause-again
returns-clause-again c = actions_of-list_bytes

pub returns-clause-one_reading : goal.returns-clause-one_reading
returns-clause-one_reading c = same_from_Spell

pub returns-clause-rewritten : goal.returns-clause-rewritten
returns-clause-rewritten c = SameButPads-list_bytes

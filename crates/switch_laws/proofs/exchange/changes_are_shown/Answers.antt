use Rattle.switch_laws.specs.laws.ShownChangeLaws.{taken-shown, refused-shown}
use Rattle.switch_laws.specs.laws.ShownExchangeLaws.{answer-shown}
use Rattle.switch_laws.proofs.exchange.changes_are_shown.Goals as goal

pub returns-clause-answer : goal.returns-clause-answer
returns-clause-answer c = answer-shown

pub returns-clause-taken : goal.returns-clause-taken
returns-clause-taken c = taken-shown

pub returns-clause-refused : goal.returns-clause-refused
returns-clause-refused c = refused-shown

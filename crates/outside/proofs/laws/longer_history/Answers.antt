use Rattle.outside.specs.laws.SeenLaws.{journal-append}
use Rattle.outside.specs.laws.StateLaws.{after_steps-append}
use Rattle.outside.proofs.laws.longer_history.Goals as goal

pub returns-clause-journal : goal.returns-clause-journal
returns-clause-journal c = journal-append

pub returns-clause-state : goal.returns-clause-state
returns-clause-state c = after_steps-append

use Rattle.journal_laws.specs.laws.ReadingLaws.{attempt_read}
use Rattle.journal_laws.proofs.readings.attempts_are_read.Goals as goal

pub returns : goal.returns
returns c = attempt_read

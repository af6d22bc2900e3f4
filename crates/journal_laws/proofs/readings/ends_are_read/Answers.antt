use Rattle.journal_laws.specs.laws.ReadingLaws.{end_read}
use Rattle.journal_laws.proofs.readings.ends_are_read.Goals as goal

pub returns : goal.returns
returns c = end_read

use Rattle.journal_laws.specs.laws.AtOnceLaws.{fine_reached}
use Rattle.journal_laws.proofs.readings.fine_changes_have_reached.Goals as goal

pub returns : goal.returns
returns c = fine_reached

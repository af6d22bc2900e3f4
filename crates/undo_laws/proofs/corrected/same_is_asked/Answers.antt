use Rattle.undo_laws.specs.laws.CorrectedLaws.{refusal-asked, logged-asked}
use Rattle.undo_laws.proofs.corrected.same_is_asked.Goals as goal

pub returns-clause-refusal : goal.returns-clause-refusal
returns-clause-refusal c = refusal-asked

pub returns-clause-logged : goal.returns-clause-logged
returns-clause-logged c = logged-asked

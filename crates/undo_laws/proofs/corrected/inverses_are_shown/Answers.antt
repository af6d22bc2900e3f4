use Rattle.undo_laws.specs.laws.CorrectedLaws.{remove-corrected, give-corrected, put_back-corrected}
use Rattle.undo_laws.proofs.corrected.inverses_are_shown.Goals as goal

pub returns-clause-removal : goal.returns-clause-removal
returns-clause-removal c = remove-corrected

pub returns-clause-actions : goal.returns-clause-actions
returns-clause-actions c = give-corrected

pub returns-clause-put_back : goal.returns-clause-put_back
returns-clause-put_back c = put_back-corrected

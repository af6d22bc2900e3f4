use Rattle.undo_laws.specs.laws.CorrectedLaws.{IsSerialed-corrected, refusal-corrected, adds-corrected, removed-corrected, kept-corrected, addition-corrected}
use Rattle.undo_laws.proofs.corrected.changes_are_shown.Goals as goal

pub returns-clause-serials : goal.returns-clause-serials
returns-clause-serials c = IsSerialed-corrected

pub returns-clause-refusal : goal.returns-clause-refusal
returns-clause-refusal c = refusal-corrected

pub returns-clause-adds : goal.returns-clause-adds
returns-clause-adds c = adds-corrected

pub returns-clause-removed : goal.returns-clause-removed
returns-clause-removed c = removed-corrected

pub returns-clause-kept : goal.returns-clause-kept
returns-clause-kept c = kept-corrected

pub returns-clause-added : goal.returns-clause-added
returns-clause-added c = addition-corrected

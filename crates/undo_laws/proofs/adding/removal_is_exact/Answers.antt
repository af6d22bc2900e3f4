use Rattle.undo_laws.specs.laws.RemovalLaws.{removal-refusal, removal-changed, removal-change, entry_at-without-same, entry_at-without-other, removal-notices}
use Rattle.undo_laws.proofs.adding.removal_is_exact.Goals as goal

pub returns-clause-taken : goal.returns-clause-taken
returns-clause-taken c = removal-refusal

pub returns-clause-table : goal.returns-clause-table
returns-clause-table c = removal-changed

pub returns-clause-change : goal.returns-clause-change
returns-clause-change c = removal-change

pub returns-clause-goes : goal.returns-clause-goes
returns-clause-goes c = entry_at-without-same

pub returns-clause-others : goal.returns-clause-others
returns-clause-others c = entry_at-without-other

pub returns-clause-notices : goal.returns-clause-notices
returns-clause-notices c = removal-notices

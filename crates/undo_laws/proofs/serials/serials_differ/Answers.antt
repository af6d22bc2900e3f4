use Rattle.undo_laws.specs.laws.SerialsLaws.{IsSerialed-empty, IsSerialed-changed, IsSerialed-change, IsSerialed-expire, IsSerialed-hit, IsSerialed-with_counts}
use Rattle.undo_laws.specs.laws.RestoredLaws.{IsSerialed-undone}
use Rattle.undo_laws.proofs.serials.serials_differ.Goals as goal

pub returns-clause-empty : goal.returns-clause-empty
returns-clause-empty c = IsSerialed-empty

pub returns-clause-changed : goal.returns-clause-changed
returns-clause-changed c = IsSerialed-changed

pub returns-clause-change : goal.returns-clause-change
returns-clause-change c = IsSerialed-change

pub returns-clause-expire : goal.returns-clause-expire
returns-clause-expire c = IsSerialed-expire

pub returns-clause-hit : goal.returns-clause-hit
returns-clause-hit c = IsSerialed-hit

pub returns-clause-counts : goal.returns-clause-counts
returns-clause-counts c = IsSerialed-with_counts

pub returns-clause-undone : goal.returns-clause-undone
returns-clause-undone c = IsSerialed-undone

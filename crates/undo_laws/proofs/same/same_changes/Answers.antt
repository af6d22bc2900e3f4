use Rattle.undo_laws.specs.laws.SameLaws.{same-adds, same-refusal, same-after, same-notices}
use Rattle.undo_laws.specs.laws.RestoredLaws.{same-logged, SameKeys-same}
use Rattle.undo_laws.proofs.same.same_changes.Goals as goal

pub returns-clause-adds : goal.returns-clause-adds
returns-clause-adds c = same-adds

pub returns-clause-refusal : goal.returns-clause-refusal
returns-clause-refusal c = same-refusal

pub returns-clause-logged : goal.returns-clause-logged
returns-clause-logged c = same-logged

pub returns-clause-after : goal.returns-clause-after
returns-clause-after c = same-after

pub returns-clause-notices : goal.returns-clause-notices
returns-clause-notices c = same-notices

pub returns-clause-keys : goal.returns-clause-keys
returns-clause-keys c = SameKeys-same

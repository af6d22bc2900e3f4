use Rattle.netlog_inverse.specs.laws.InnerLaws.{Stands-left, left-restore}
use Rattle.netlog_inverse.proofs.laws.inner_undo_leaves_marks.Goals as goal

pub returns-clause-stands : goal.returns-clause-stands
returns-clause-stands c = Stands-left

pub returns-clause-restores : goal.returns-clause-restores
returns-clause-restores c = left-restore

use Rattle.netlog_inverse.specs.Log.{mended}
use Rattle.netlog_inverse.specs.laws.PlannedLaws.{drop-changed-before, drop-changed-behind, right-later}
use Rattle.netlog_inverse.proofs.laws.mends_reach_marks.Goals as goal

pub returns-clause-before : goal.returns-clause-before
returns-clause-before c mark at hard lost stands = drop-changed-before mark at (mended lost hard stands)

pub returns-clause-behind : goal.returns-clause-behind
returns-clause-behind c mark at hard lost stands = drop-changed-behind mark at (mended lost hard stands)

pub returns-clause-later : goal.returns-clause-later
returns-clause-later c = right-later

use Rattle.undo_laws.specs.laws.SameLaws.{same-best, same-hit, same-counts, same-expire, same-expiry_notices, same-selected}
use Rattle.undo_laws.proofs.same.same_events.Goals as goal

pub returns-clause-best : goal.returns-clause-best
returns-clause-best c = same-best

pub returns-clause-hit : goal.returns-clause-hit
returns-clause-hit c = same-hit

pub returns-clause-counts : goal.returns-clause-counts
returns-clause-counts c = same-counts

pub returns-clause-expire : goal.returns-clause-expire
returns-clause-expire c = same-expire

pub returns-clause-notices : goal.returns-clause-notices
returns-clause-notices c = same-expiry_notices

pub returns-clause-rows : goal.returns-clause-rows
returns-clause-rows c = same-selected

use Rattle.netlog_inverse.specs.laws.PlannedLaws.{full-refused, full-first}
use Rattle.netlog_inverse.proofs.laws.full_tables_want_removals_first.Goals as goal

pub returns-clause-refused : goal.returns-clause-refused
returns-clause-refused c = full-refused

pub returns-clause-first : goal.returns-clause-first
returns-clause-first c = full-first

use Rattle.of_stats.specs.laws.FlowLaws.{SpellRows-rows_bytes, rows_of-rows_bytes, same_from_SpellRows}
use Rattle.of_stats.proofs.laws.laws_of_rows.Goals as goal

pub returns-clause-written : goal.returns-clause-written
returns-clause-written c = SpellRows-rows_bytes

pub returns-clause-again : goal.returns-clause-again
returns-clause-again c = rows_of-rows_bytes

pub returns-clause-one_reading : goal.returns-clause-one_reading
returns-clause-one_reading c = same_from_SpellRows

use Rattle.of_stats.specs.laws.LayoutLaws.{sum_again, table_again, port_again}
use Rattle.of_stats.proofs.laws.laws_of_layouts.Goals as goal

pub returns-clause-sums : goal.returns-clause-sums
returns-clause-sums c = sum_again

pub returns-clause-tables : goal.returns-clause-tables
returns-clause-tables c = table_again

pub returns-clause-ports : goal.returns-clause-ports
returns-clause-ports c = port_again

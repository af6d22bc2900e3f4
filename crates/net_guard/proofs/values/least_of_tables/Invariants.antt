use Rattle.std.proofs.Common.{◌≡◌, drop}
use Rattle.std.specs.Prelude.{fold}
use Rattle.flow_table.specs.View.{plains}
use Rattle.net_guard.specs.Values.{lower, named_in}
use Rattle.net_guard.proofs.values.least_of_tables.Given as goal

abbrev pub invariant-loop-table : goal.invariant-loop-table
invariant-loop-table l = fold (lower l.from) l.least (named_in l.field (plains (drop l.table-index l.tables))) ≡ fold (lower l.from) l.fn.best (named_in l.field (plains l.tables))

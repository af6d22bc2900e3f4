use Rattle.std.proofs.Common.{◌≡◌, drop}
use Rattle.flow_table.specs.View.{plains}
use Rattle.net_guard.specs.Found.{first_edit}
use Rattle.net_guard.proofs.edits.first_edit.Given as goal

abbrev pub invariant-loop-table : goal.invariant-loop-table
invariant-loop-table l = first_edit l.hops (plains (drop l.table-index l.tables)) ≡ first_edit l.hops (plains l.tables)

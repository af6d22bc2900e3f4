use Rattle.std.proofs.Common.{◌≡◌, drop}
use Rattle.flow_table.specs.View.{plains}
use Rattle.net_guard.specs.Refusing.{first_crowded}
use Rattle.net_guard.proofs.quota.first_crowded.Given as goal

abbrev pub invariant-loop-table : goal.invariant-loop-table
invariant-loop-table l = first_crowded l.most (plains (drop l.table-index l.tables)) ≡ first_crowded l.most (plains l.tables)

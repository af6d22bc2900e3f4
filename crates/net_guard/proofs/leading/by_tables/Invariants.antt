use Rattle.std.proofs.Common.{drop}
use Rattle.std.specs.List.{list_any}
use Rattle.flow_table.specs.View.{plains}
use Rattle.net_guard.specs.Leading.{table_over}
use Rattle.net_guard.proofs.Marking.{Leaves}
use Rattle.net_guard.proofs.leading.by_tables.Given as goal

abbrev pub invariant-loop-table : goal.invariant-loop-table
invariant-loop-table l =
    Leaves l.set l.hops (λ h. list_any (table_over (record { field = l.field; hops = l.hops }) l.scope l.place h) (plains (drop l.table-index l.tables))) (λ h. list_any (table_over (record { field = l.field; hops = l.hops }) l.scope l.place h) (plains l.tables))

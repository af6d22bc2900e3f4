use Rattle.std.proofs.Common.{◌≡◌, drop}
use Rattle.flow_table.specs.View.{plains}
use Rattle.net_txn.specs.Views.{rows_at}
use Rattle.event_dispatch.proofs.last.rows_of.Given as goal

abbrev pub invariant-loop-view : goal.invariant-loop-view
invariant-loop-view l = rows_at l.dpid (plains (drop l.view-index l.views)) ≡ rows_at l.dpid (plains l.views)

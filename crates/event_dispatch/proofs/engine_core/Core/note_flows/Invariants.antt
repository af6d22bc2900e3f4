use Rattle.std.proofs.Common.{◌≡◌, List, Some}
use Rattle.flow_table.specs.declared.view.ViewRow.{ViewRow}
use Rattle.net_txn.specs.Views.{rows_at}
use Rattle.run_laws.specs.LastReport.{SameKeys}
use Rattle.event_dispatch.specs.Runs.{Waits}
use Rattle.event_dispatch.specs.ReportEnd.{FlowsSoFar}
use Rattle.event_dispatch.proofs.engine_core.Core.note_flows.Given as goal

abbrev pub invariant-loop-row : goal.invariant-loop-row
invariant-loop-row l = record {
  waits : Waits l.fn.self l.self;
  net : l.self.net ≡ l.fn.self.net;
  said : (vs : List ViewRow) → rows_at l.dpid l.fn.self.net.views ≡ Some vs → SameKeys l.rows vs → FlowsSoFar l.rows vs l.row-index l.from l.fn.self l.self;
}

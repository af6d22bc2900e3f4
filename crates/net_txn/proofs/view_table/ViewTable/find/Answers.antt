use Rattle.flow_table.specs.View.{plains}
use Rattle.net_txn.proofs.ViewPositions.{found_order}
use Rattle.net_txn.proofs.view_table.ViewTable.find.Goals as goal

pub returns-clause-order : goal.returns-clause-order
returns-clause-order c = found_order c.args.dpid (λ v. v.now.rows.rows) (plains c.deref.result.now) c.find.result (rw c.deref.ensures.value c.self.invariant) c.find.ensures

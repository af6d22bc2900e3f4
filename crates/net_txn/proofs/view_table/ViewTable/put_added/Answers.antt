use Rattle.flow_table.specs.View.{plains}
use Rattle.net_txn.specs.Views.{with_rows, with_added}
use Rattle.net_txn.specs.laws.ViewLaws.{AreInKeyOrder-with_rows, AreRows-with_added}
use Rattle.net_txn.proofs.ViewPositions.{order_kept}
use Rattle.net_txn.proofs.view_table.ViewTable.put_added.Goals as goal

pub invariant_of-self : goal.invariant_of-self
invariant_of-self c =
    let old = plains c.self.inside.views.items in
    let change = with_added c.args.row in
    order_kept c.put_added.result old (with_rows c.args.dpid change old) _ c.self.invariant (AreInKeyOrder-with_rows c.args.dpid change old (AreRows-with_added c.args.row) c.self.invariant) c.put_added.ensures.ok c.put_added.ensures.err

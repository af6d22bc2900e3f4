use Rattle.flow_table.specs.View.{plains}
use Rattle.net_txn.specs.Joining.{with_view}
use Rattle.net_txn.specs.laws.ViewLaws.{AreInKeyOrder-with_view}
use Rattle.net_txn.proofs.ViewPositions.{order_kept}
use Rattle.net_txn.proofs.view_table.ViewTable.put_view.Goals as goal

pub invariant_of-self : goal.invariant_of-self
invariant_of-self c =
    let old = plains c.self.inside.views.items in
    order_kept c.put_view.result old (with_view c.args.dpid old) _ c.self.invariant (AreInKeyOrder-with_view c.args.dpid old c.self.invariant) c.put_view.ensures.ok c.put_view.ensures.err

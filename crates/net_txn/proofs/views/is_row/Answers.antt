use Rattle.flow_table.specs.View.{plains}
use Rattle.net_txn.specs.laws.ViewLaws.{AreInKeyOrder-at}
use Rattle.net_txn.proofs.views.is_row.Goals as goal

pub has_key-requires : goal.has_key-requires
has_key-requires c = rw c.as_slice.ensures (AreInKeyOrder-at c.args.dpid (plains c.args.views.now) _ c.requires c.in-Some.ensures)

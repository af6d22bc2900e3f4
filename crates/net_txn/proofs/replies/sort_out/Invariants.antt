use Rattle.std.proofs.Common.{◌≡◌, ◌++◌}
use Rattle.std.specs.Vec.Iter.{into_iter_items}
use Rattle.lego_model.specs.FlowQueries.{others_in}
use Rattle.lego_model.specs.FlowQueries.{parts_in, refusals_in}
use Rattle.net_txn.proofs.replies.sort_out.Given as goal

abbrev pub invariant-loop-dpid : goal.invariant-loop-dpid
invariant-loop-dpid l =
    (l.fn.came ≡ l.yielded ++ into_iter_items l.dpid-iterator)
    × (l.replies.parts.items ≡ parts_in l.xid l.yielded) × (l.replies.refusals.items ≡ refusals_in l.xid l.yielded) × (l.kept ≡ l.fn.kept ++ others_in l.xid l.yielded)

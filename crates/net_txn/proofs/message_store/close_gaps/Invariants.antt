use Rattle.std.proofs.Common.{◌≤◌, vec_capacity}
use Rattle.net_txn.proofs.StoreGaps.{Closed}
use Rattle.net_txn.proofs.message_store.close_gaps.Given as goal

abbrev pub invariant-loop-of : goal.invariant-loop-of
invariant-loop-of l = Closed l.dpid l.entries l.fn.bytes.items l.bytes.items l.at l.to l.of-index × (vec_capacity l.fn.bytes ≤ vec_capacity l.bytes)

use Rattle.net_txn.proofs.MessageStoreSteps.{Copied}
use Rattle.net_txn.proofs.message_store.copies_of.Given as goal

abbrev pub invariant-loop-dpid : goal.invariant-loop-dpid
invariant-loop-dpid l = Copied l.entries l.bytes l.copies.items l.at l.dpid-index

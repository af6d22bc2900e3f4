use Rattle.std.proofs.Common.{arith}
use Rattle.net_txn.proofs.MessageStoreSteps.{none_copied, one_copied, all_copied}
use Rattle.net_txn.proofs.message_store.copies_of.Goals as goal

pub loop-dpid-init : goal.loop-dpid-init
loop-dpid-init c = rw c.new-copies.ensures.items (none_copied c.args.entries.now c.args.bytes.now c.requires)

pub loop-dpid-preserved : goal.loop-dpid-preserved
loop-dpid-preserved c =
    rw c.in_ok-push_back.ensures.items (one_copied c.args.entries.now c.args.bytes.now c.loop-dpid.copies.items c.loop-dpid.at c.loop-dpid.dpid-index c.in_ok-message.message c.loop-dpid.invariant c.loop-dpid-test.true c.in_ok-message.ensures)

pub returns : goal.returns
returns c = all_copied c.args.entries.now c.args.bytes.now c.loop-dpid.copies.items c.loop-dpid.at c.loop-dpid.dpid-index c.loop-dpid.invariant (omega (arith, c.loop-dpid-test.false))

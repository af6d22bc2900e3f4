use Rattle.net_txn.proofs.StoreGaps.{forgotten}
use Rattle.net_txn.proofs.queue.MessageQueue.forget.Goals as goal

pub returns : goal.returns
returns c = forgotten c.args.dpid c.self.inside.messages.items c.self.inside.store _ _ c.args.self.now c.self.view_is c.forget_of.ensures c.forget.ensures

use Rattle.net_txn.specs.laws.MessageStoreLaws.{where_fit_one}
use Rattle.net_txn.proofs.MessageStoreSteps.{put_last}
use Rattle.net_txn.proofs.queue.MessageQueue.keep_or_drop.Goals as goal

pub returns : goal.returns
returns c =
    let p = put_last c.self.inside.messages.items c.self.inside.store c.keep_or_drop.new.self c.args.self.now c.args.dpid c.args.message.now c.self.view_is c.keep_or_drop.ensures in
    where_fit_one (c.args.dpid, c.args.message.now) c.args.self.now _ p.one_or_none p.one

use Rattle.std.proofs.Common.{Some, refl}
use Rattle.net_txn.specs.NetUndos.{ports_in}
use Rattle.net_txn.specs.laws.NetUndoLaws.{over_views}
use Rattle.net_txn.proofs.undo.undo.Goals as goal

pub returns-in-Some-clause-undoing : goal.returns-in-Some-clause-undoing
returns-in-Some-clause-undoing g c =
    let net = c.args.net.now in
    let all = c.await_all.ensures.undoing (g.W.World.seen c.args.world.now) net.kept (ports_in net) net.xid c.revert_all.ensures.undoing in
    (Some c.in-Some.fault, refl, rw c.in-Some.is at (over_views c.revert_all.ensures.stays c.await_all.ensures.stays all))

pub returns-in-Some-clause-parted : goal.returns-in-Some-clause-parted
returns-in-Some-clause-parted g c = λ can. rw c.in-Some.is at (c.await_all.ensures.parted can (c.revert_all.ensures.parted can tt))

use Rattle.std.proofs.Common.{◌≡◌, ◌++◌, []}
use Rattle.std.specs.Vec.Iter.{into_iter_items}
use Rattle.net_txn.specs.Releases.{takes_all}
use Rattle.net_txn.specs.ReleaseSteps.{StaysSo}
use Rattle.net_txn.proofs.release.take_all.Given as goal

abbrev pub invariant-loop-dpid : goal.invariant-loop-dpid
invariant-loop-dpid l =
    (l.fn.came.items ≡ l.yielded ++ into_iter_items l.dpid-iterator) × ((l.net, l.queue) ≡ takes_all l.yielded (l.fn.net, l.fn.queue)) × StaysSo [] l.fn.net l.net

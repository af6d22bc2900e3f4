use Rattle.std.proofs.Common.{◌≡◌, ◌++◌, ◌+◌, ◌≤◌, length, vec_capacity}
use Rattle.std.specs.Vec.Iter.{into_iter_items}
use Rattle.net_txn.specs.ReleaseSteps.{ReleasedFront}
use Rattle.net_txn.proofs.release.release_all.Given as goal

abbrev pub invariant-loop-dpid : goal.invariant-loop-dpid
invariant-loop-dpid g l =
    (l.fn.held.items ≡ l.yielded ++ into_iter_items l.dpid-iterator)
    × (length l.sent.items + length (into_iter_items l.dpid-iterator) ≤ vec_capacity l.sent)
    × ReleasedFront g.W.World.Tells l.yielded (g.W.World.seen l.fn.world) (g.W.World.seen l.world) l.fn.net l.net l.fn.queue l.queue l.sent.items

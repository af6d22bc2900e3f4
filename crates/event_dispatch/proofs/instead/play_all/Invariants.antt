use Rattle.std.proofs.Common.{◌≡◌}
use Rattle.event_dispatch.specs.GroupParts.{pending_of, TurnsKeep, PlaysSoFar}
use Rattle.event_dispatch.proofs.instead.play_all.Given as goal

abbrev pub invariant-loop-at : goal.invariant-loop-at
invariant-loop-at g l = record {
  same_reference : l.txn.net.ghost_name ≡ l.fn.txn.net.ghost_name;
  start : l.txn.start ≡ l.fn.txn.start;
  keeps : TurnsKeep g.W.World.Tells l.fn.number (g.W.World.seen l.fn.world) (g.W.World.seen l.world) l.fn.txn.net.now l.txn.net.now l.fn.store l.store l.fn.app l.app;
  goes : PlaysSoFar g.W.World.Tells (g.J.Judge.accepts l.fn.judge) l.fn.app.index l.fn.rule l.fn.number l.fn.events l.at (g.W.World.seen l.fn.world) (g.W.World.seen l.world)
      l.fn.txn.net.now l.txn.net.now l.fn.app.rest l.app.rest (pending_of l.fn.app.index l.fn.store) (pending_of l.fn.app.index l.store) l.played;
}

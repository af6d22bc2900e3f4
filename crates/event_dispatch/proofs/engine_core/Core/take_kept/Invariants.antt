use Rattle.std.proofs.Common.{◌≡◌, [], length}
use Rattle.event_dispatch.specs.Runs.{AreRead, Waits}
use Rattle.event_dispatch.specs.Batch.{KeptSoFar}
use Rattle.event_dispatch.specs.Taking.{OnLinksSoFar}
use Rattle.event_dispatch.proofs.engine_core.Core.take_kept.Given as goal

abbrev pub invariant-loop-taken : goal.invariant-loop-taken
invariant-loop-taken g l = record {
  waits : Waits l.fn.self l.self;
  lines : l.self.lines.items ≡ l.fn.self.lines.items;
  left : l.self.net.left ≡ [];
  read : AreRead l.self.net.kept;
  kept : KeptSoFar g.W.World.Tells l.taken (g.W.World.seen l.fn.world) (g.W.World.seen l.world) l.fn.self l.self;
  passes : OnLinksSoFar g.W.World.Tells (length l.fn.self.store) (g.W.World.seen l.fn.world) (g.W.World.seen l.world) l.fn.self.net l.self.net;
}

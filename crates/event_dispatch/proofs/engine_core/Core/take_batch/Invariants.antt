use Rattle.std.proofs.Common.{◌≡◌, [], length}
use Rattle.event_dispatch.specs.Talking.{KeepsTalking}
use Rattle.event_dispatch.specs.Passes.{PassesSoFar}
use Rattle.event_dispatch.specs.Told.{BatchPoint}
use Rattle.event_dispatch.specs.Runs.{AreRead, Waits}
use Rattle.run_laws.specs.Course.{BatchTaken}
use Rattle.event_dispatch.specs.Serves.{stand}
use Rattle.event_dispatch.specs.Batch.{BatchGoes}
use Rattle.event_dispatch.proofs.engine_core.Core.take_batch.Given as goal

abbrev pub invariant-loop-item : goal.invariant-loop-item
invariant-loop-item g l = record {
  waits : Waits l.fn.self l.self;
  left : l.self.net.left ≡ [];
  read : AreRead l.self.net.kept;
  goes : BatchGoes g.W.World.Tells l._item (g.W.World.seen l.fn.world) (g.W.World.seen l.world) l.fn.self l.self;
  first : BatchTaken g.W.World.Tells (stand (g.W.World.seen l.fn.world) l.fn.self) (stand (g.W.World.seen l.world) l.self);
  buffer : length l.buf ≡ length l.fn.buf;
  passes : PassesSoFar g.W.World.Tells (length l.fn.self.store) (g.W.World.seen l.fn.world) (g.W.World.seen l.world) l.fn.self.net l.self.net;
  talks : KeepsTalking g.W.World.Tells (g.W.World.seen l.fn.world) (g.W.World.seen l.world);
  here : BatchPoint g.W.World.Tells (length l.fn.self.store) (g.W.World.seen l.fn.world) (g.W.World.seen l.world) l.fn.self.net;
}

use Rattle.std.proofs.Common.{◌≡◌, ◌+◌, ◌≤◌, length}
use Rattle.lego_io.specs.Count.{NeverFell}
use Rattle.event_dispatch.specs.Runs.{Going}
use Rattle.event_dispatch.specs.Passes.{PassesSoFar}
use Rattle.event_dispatch.specs.Serves.{DispatchesSome}
use Rattle.event_dispatch.proofs.run.Run.dispatch_waiting.Given as goal

abbrev pub invariant-loop-event : goal.invariant-loop-event
invariant-loop-event g l = record {
  going : Going l.self;
  events : l.self.core.events ≤ l.fn.self.core.events + l._event;
  number : length l.self.core.store ≡ length l.fn.self.core.store;
  passes : PassesSoFar g.W.World.Tells (length l.fn.self.core.store) (g.W.World.seen l.fn.world) (g.W.World.seen l.world) l.fn.self.core.net l.self.core.net;
  dispatches : DispatchesSome g.W.World.Tells (g.J.Judge.accepts l.fn.judge) l._event (g.K.Sink.contents l.fn.sink) (g.K.Sink.contents l.sink) (g.W.World.seen l.fn.world) (g.W.World.seen l.world) l.fn.self l.self;
  never_fell : NeverFell (g.K.Sink.faults l.fn.sink) (g.K.Sink.faults l.sink);
}

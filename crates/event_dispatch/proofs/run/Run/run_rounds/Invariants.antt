use Rattle.std.proofs.Common.{◌≡◌, ◌*◌, ◌≤◌, length, Ok}
use Rattle.event_dispatch.specs.declared.fault.Fault.{Fault}
use Rattle.event_dispatch.specs.Runs.{Going}
use Rattle.event_dispatch.specs.Parts.{PassesOn}
use Rattle.event_dispatch.specs.Serves.{GoesRounds}
use Rattle.event_dispatch.proofs.run.Run.run_rounds.Given as goal

abbrev pub invariant-loop-round : goal.invariant-loop-round
invariant-loop-round g l = record {
  buffer : length l.buf ≡ length l.fn.buf;
  going : Going l.self;
  at_most : l._round ≤ l.fn.rounds;
  events : l.self.core.events ≤ 1000 * l._round;
  number : length l.self.core.store ≡ length l.fn.self.core.store;
  passes : PassesOn {T = Unit {0}} {E = Fault} g.W.World.Tells (length l.fn.self.core.store) (g.W.World.seen l.fn.world) (g.W.World.seen l.world) l.fn.self.core.net l.self.core.net (g.K.Sink.faults l.fn.sink) (g.K.Sink.faults l.sink) (Ok tt);
  rounds : GoesRounds g.W.World.Tells (g.J.Judge.accepts l.fn.judge) l._round (g.K.Sink.contents l.fn.sink) (g.K.Sink.contents l.sink) (g.W.World.seen l.fn.world) (g.W.World.seen l.world) l.fn.self l.self;
}

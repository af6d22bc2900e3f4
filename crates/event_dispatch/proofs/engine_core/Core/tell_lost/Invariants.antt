use Rattle.std.proofs.Common.{length}
use Rattle.event_dispatch.specs.Runs.{Waits}
use Rattle.event_dispatch.specs.Shows.{TellsOn}
use Rattle.event_dispatch.proofs.engine_core.Core.tell_lost.Given as goal

abbrev pub invariant-loop-event : goal.invariant-loop-event
invariant-loop-event l = record {
  waits : Waits l.fn.self l.self;
  tells : TellsOn l.fn.self l.self;
}

abbrev pub decreases-loop-event : goal.decreases-loop-event
decreases-loop-event l = length l.self.net.left

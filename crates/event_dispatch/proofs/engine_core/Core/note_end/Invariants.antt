use Rattle.std.proofs.Common.{map, take}
use Rattle.run_laws.specs.LastReport.{app_lines}
use Rattle.event_dispatch.specs.Runs.{Waits}
use Rattle.event_dispatch.specs.Shows.{application_of, Adds}
use Rattle.event_dispatch.proofs.engine_core.Core.note_end.Given as goal

abbrev pub invariant-loop-app : goal.invariant-loop-app
invariant-loop-app l = record {
  waits : Waits l.fn.self l.self;
  adds : Adds (app_lines (map (application_of l.fn.self.store) (take l.app-index l.apps))) l.fn.self l.self;
}

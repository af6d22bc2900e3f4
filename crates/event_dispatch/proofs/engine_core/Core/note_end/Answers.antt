use Rattle.event_dispatch.specs.laws.WhyLaws.{waits_then}
use Rattle.event_dispatch.specs.laws.LastLaws.{lines_next}
use Rattle.event_dispatch.proofs.engine_core.Core.note_end.Goals as goal

pub loop-app-preserved : goal.loop-app-preserved
loop-app-preserved c = record {
  waits = waits_then c.args.self.now c.loop-app.self c.note_app.new.self c.loop-app.invariant.waits c.in_ok-note_app.ensures.waits;
  adds = lines_next c.args.self.now c.loop-app.self c.note_app.new.self c.args.apps.now c.loop-app.app-index c.app-item.result c.loop-app-test.true c.app-item.is c.loop-app.invariant.adds c.in_ok-note_app.ensures.adds;
}

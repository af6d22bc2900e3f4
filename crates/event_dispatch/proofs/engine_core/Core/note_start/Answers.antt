use Rattle.lego_model.specs.RunReport.{start_line}
use Rattle.event_dispatch.specs.laws.NotesLaws.{notes_none, notes_next}
use Rattle.event_dispatch.proofs.engine_core.Core.note_start.Goals as goal

pub loop-tried-init : goal.loop-tried-init
loop-tried-init c = notes_none c.args.self.now

pub loop-tried-preserved : goal.loop-tried-preserved
loop-tried-preserved c =
    notes_next (start_line c.args.name.now) c.deref-tried-items.result.now c.loop-tried.tried-index _ c.loop-tried-test.true c.in_ok-line.ensures
    c.loop-tried.invariant c.in_ok-note.ensures

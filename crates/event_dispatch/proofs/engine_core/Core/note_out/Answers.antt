use Rattle.lego_model.specs.RunReport.{out_line}
use Rattle.event_dispatch.specs.laws.NotesLaws.{notes_none, notes_next}
use Rattle.event_dispatch.proofs.engine_core.Core.note_out.Goals as goal

pub loop-dpid-init : goal.loop-dpid-init
loop-dpid-init c = notes_none c.args.self.now

pub loop-dpid-preserved : goal.loop-dpid-preserved
loop-dpid-preserved c = notes_next (λ p. out_line p.0 p.1) c.args.out.now c.loop-dpid.dpid-index (0, 0) c.loop-dpid-test.true c.in_ok-line.ensures
    c.loop-dpid.invariant c.in_ok-note.ensures

use Rattle.std.proofs.Common.{[], Some, refl, sym}
use Rattle.legosdn.specs.Input.{drawn}
use Rattle.legosdn.specs.Headline.{streams}
use Rattle.session_gen.specs.Summary.{summary_line}
use Rattle.legosdn.proofs.Promises.{new_always}
use Rattle.legosdn.proofs.Generated.{generates_none, generates_whole, generates_stopped, of_store, cut_early, stops_early}
use Rattle.legosdn.proofs.drawn.run_drawn.Goals as goal

pub returns-in_err-report-clause-generates : goal.returns-in_err-report-clause-generates
returns-in_err-report-clause-generates g c = λ told faults.
    generates_none c.args.start c.args.count told (g.K.Sink.contents c.args.sink.now) faults (g.K.Sink.faults c.args.sink.now) c.args.sim.now c.from_residual.result c.requires.new c.from_residual.ensures.1

pub returns-in-Ok-clause-generates : goal.returns-in-Ok-clause-generates
returns-in-Ok-clause-generates g c = λ told faults.
    generates_whole c.args.start c.args.count (streams told (g.K.Sink.contents c.args.sink.now) faults (g.K.Sink.faults c.args.sink.now))
    (streams told (g.K.Sink.contents c.write_summary.new.sink) faults (g.K.Sink.faults c.write_summary.new.sink)) c.args.sim.now c.replay_drawn.new.sim c.replay_drawn.new.sink.taken c.replay_drawn.new.sink.faults c.write_summary.result
    (of_store c.args.start c.args.count _ c.args.sim.now c.replay_drawn.new.sim _ _ c.in_ok-report.report c.replay_drawn.new.sink c.in_ok-report.ensures c.in-Ok.ensures.replays) (rw (sym c.bytes.ensures) c.write_summary.ensures.all) (rw (sym c.bytes.ensures) (c.write_summary.ensures.cut told faults))

pub returns-clause-generates : goal.returns-clause-generates
returns-clause-generates g c = λ told faults.
    generates_stopped c.args.start c.args.count (streams told (g.K.Sink.contents c.args.sink.now) faults (g.K.Sink.faults c.args.sink.now)) c.args.sim.now c.replay_drawn.new.sim c.replay_drawn.new.sink.taken c.replay_drawn.new.sink.faults
    c.in-Err.stop c.stop_of_replay.result _ refl
    (of_store c.args.start c.args.count _ c.args.sim.now c.replay_drawn.new.sim _ _ c.in_ok-report.report c.replay_drawn.new.sink c.in_ok-report.ensures c.in-Err.ensures.replays) c.stop_of_replay.ensures

pub returns-in_err-report-clause-always : goal.returns-in_err-report-clause-always
returns-in_err-report-clause-always g c = new_always (drawn c.args.start c.args.count) (Some []) (Some []) c.args.sim.now c.requires.new

pub returns-in-Ok-clause-early : goal.returns-in-Ok-clause-early
returns-in-Ok-clause-early g c = cut_early _ (summary_line c.args.start c.args.count c.bytes.result.now) _ _ c.write_summary.result (c.write_summary.ensures.cut (Some []) 0)

pub returns-clause-early : goal.returns-clause-early
returns-clause-early g c = stops_early _ c.in-Err.stop c.stop_of_replay.result c.stop_of_replay.ensures (λ early. ((c.in-Err.ensures.replays.early early).0, refl))

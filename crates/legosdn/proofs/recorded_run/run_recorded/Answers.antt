use Rattle.std.proofs.Common.{None, Ok, Err, refl}
use Rattle.std.proofs.lemmas.Result.{err_from_is_err_and}
use Rattle.legosdn.specs.Input.{program_value}
use Rattle.legosdn.specs.Headline.{streams}
use Rattle.legosdn.proofs.CommandEnds.{serves_ok, serves_err}
use Rattle.legosdn.proofs.Promises.{idle_always}
use Rattle.legosdn.proofs.Generated.{stops_early}
use Rattle.legosdn.proofs.Recordings.{records_none, records_whole, records_stopped, of_store, short_early, short_of_none, stops_of_none}
use Rattle.legosdn.proofs.recorded_run.run_recorded.Goals as goal

pub returns-in_err-report-clause-records : goal.returns-in_err-report-clause-records
returns-in_err-report-clause-records g c =
    records_none g.W.World.Tells c.args.rounds (g.S.Source.remaining c.args.source.now) (g.K.Sink.contents c.args.sink.now) (g.S.Source.faults c.args.source.now) (g.K.Sink.faults c.args.sink.now) (g.W.World.seen c.args.live.now) (g.W.Recorded.kept c.args.live.now)
    _ c.from_residual.result refl c.from_residual.ensures.1

pub returns-in-Ok-clause-records : goal.returns-in-Ok-clause-records
returns-in-Ok-clause-records g c =
    records_whole g.W.World.Tells c.args.rounds (streams (g.S.Source.remaining c.args.source.now) (g.K.Sink.contents c.args.sink.now) (g.S.Source.faults c.args.source.now) (g.K.Sink.faults c.args.sink.now))
    (streams (g.S.Source.remaining c.run_policy.new.source) (g.K.Sink.contents c.write_recorded.new.sink) (g.S.Source.faults c.run_policy.new.source) (g.K.Sink.faults c.write_recorded.new.sink)) (g.W.World.seen c.args.live.now) (g.W.World.seen c.run_policy.new.live)
    (g.W.Recorded.kept c.run_policy.new.live) _ c.run_policy.new.sink.taken c.run_policy.new.sink.faults (program_value c.in-Ok.read.program) c.in-Ok.read.text.items c.write_recorded.result
    (of_store g.W.World.Tells c.args.rounds (g.S.Source.remaining c.args.source.now) (g.S.Source.remaining c.run_policy.new.source) (g.S.Source.faults c.args.source.now) (g.S.Source.faults c.run_policy.new.source) (Ok tt) (g.W.World.seen c.args.live.now) (g.W.World.seen c.run_policy.new.live) _ _ _ c.in_ok-report.report c.run_policy.new.sink c.in_ok-report.ensures
    (serves_ok g.W.World.Tells c.args.rounds _ _ _ _ _ c.in-Ok.read c.in-Ok.ensures.serves))
    c.in-Ok.ensures.taken c.in-Ok.ensures.text c.write_recorded.ensures.all
    (c.write_recorded.ensures.cut (g.S.Source.remaining c.args.source.now) (g.S.Source.remaining c.run_policy.new.source) (g.S.Source.faults c.args.source.now) (g.S.Source.faults c.run_policy.new.source))

pub returns-clause-records : goal.returns-clause-records
returns-clause-records g c =
    records_stopped g.W.World.Tells c.args.rounds (g.S.Source.remaining c.args.source.now) (g.S.Source.remaining c.run_policy.new.source) (g.K.Sink.contents c.args.sink.now) (g.S.Source.faults c.args.source.now) (g.S.Source.faults c.run_policy.new.source) (g.K.Sink.faults c.args.sink.now)
    (g.W.World.seen c.args.live.now) (g.W.World.seen c.run_policy.new.live) (g.W.Recorded.kept c.run_policy.new.live) _ c.run_policy.new.sink.taken c.run_policy.new.sink.faults c.in-Err.stop c.stop_of_replay.result _ refl
    (of_store g.W.World.Tells c.args.rounds (g.S.Source.remaining c.args.source.now) (g.S.Source.remaining c.run_policy.new.source) (g.S.Source.faults c.args.source.now) (g.S.Source.faults c.run_policy.new.source) (Err c.in-Err.stop) (g.W.World.seen c.args.live.now) (g.W.World.seen c.run_policy.new.live) _ _ _ c.in_ok-report.report c.run_policy.new.sink c.in_ok-report.ensures
    (serves_err g.W.World.Tells c.args.rounds _ _ _ _ _ c.in-Err.stop c.in-Err.ensures.serves))
    c.stop_of_replay.ensures

pub returns-in_err-report-clause-always : goal.returns-in_err-report-clause-always
returns-in_err-report-clause-always g c = idle_always g.W.World.Tells (g.W.World.seen c.args.live.now)

pub returns-in-Ok-clause-early : goal.returns-in-Ok-clause-early
returns-in-Ok-clause-early g c = short_early _ _ _ _ c.write_recorded.result (c.write_recorded.ensures.cut None None 0 0)

pub returns-clause-early : goal.returns-clause-early
returns-clause-early g c = stops_early _ c.in-Err.stop c.stop_of_replay.result c.stop_of_replay.ensures (λ early. ((c.in-Err.ensures.serves.early early).0, refl))

pub returns-in_err-report-clause-no_switch : goal.returns-in_err-report-clause-no_switch
returns-in_err-report-clause-no_switch g c =
    let p = err_from_is_err_and c.from_residual.result c.from_residual.ensures.1 in
    λ can. rw (p.1, p.2) tt

pub returns-in-Ok-clause-no_switch : goal.returns-in-Ok-clause-no_switch
returns-in-Ok-clause-no_switch g c = λ can. short_of_none _ _ _ c.write_recorded.result (c.write_recorded.ensures.cut None None 0 0)

pub returns-clause-no_switch : goal.returns-clause-no_switch
returns-clause-no_switch g c = λ can. stops_of_none c.in-Err.stop c.stop_of_replay.result c.stop_of_replay.ensures (c.in-Err.ensures.no_switch can)

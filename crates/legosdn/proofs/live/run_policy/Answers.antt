use Rattle.legosdn.specs.Input.{program_of}
use Rattle.std.proofs.Common.{Ok, Err, refl, sym, subst}
use Rattle.legosdn.specs.Headline.{streams, IsNoPolicy}
use Rattle.legosdn.specs.Live.{Taken}
use Rattle.legosdn.proofs.CommandEnds.{serves_unread, serves_taken}
use Rattle.legosdn.proofs.Promises.{idle_always}
use Rattle.std.proofs.lemmas.Result.{err_from_is_err_and}
use Rattle.legosdn.proofs.Statuses.{read_of_no_switch}
use Rattle.legosdn.proofs.live.run_policy.Goals as goal

pub returns-in_err-read-clause-serves : goal.returns-in_err-read-clause-serves
returns-in_err-read-clause-serves g c =
    serves_unread g.W.World.Tells c.args.rounds (g.S.Source.remaining c.args.source.now) (g.S.Source.remaining c.read_program.new.source) (g.S.Source.faults c.args.source.now) (g.S.Source.faults c.read_program.new.source)
    (g.K.Sink.faults c.args.sink.now) (g.W.World.seen c.args.live.now) (g.K.Sink.contents c.args.sink.now) _ c.in_err-read.field-0.0 c.from_residual.result c.from_residual.ensures.1 c.in_err-read.ensures.why (refl, refl)

pub returns-in-Ok-clause-serves : goal.returns-in-Ok-clause-serves
returns-in-Ok-clause-serves g c =
    serves_taken g.W.World.Tells c.args.rounds (streams (g.S.Source.remaining c.args.source.now) (g.K.Sink.contents c.args.sink.now) (g.S.Source.faults c.args.source.now) (g.K.Sink.faults c.args.sink.now))
    (streams (g.S.Source.remaining c.read_program.new.source) (g.K.Sink.contents c.run_world.new.sink) (g.S.Source.faults c.read_program.new.source) (g.K.Sink.faults c.run_world.new.sink)) (g.W.World.seen c.args.live.now) (g.W.World.seen c.run_world.new.world) _ (Ok c.in_ok-read.read)
    (program_of c.deref.result.now c.in_ok-read.read.program.judge)
    (subst (λ apps. Taken (program_of apps c.in_ok-read.read.program.judge) (g.S.Source.remaining c.args.source.now) (g.S.Source.remaining c.read_program.new.source)) (sym c.deref.ensures.value) c.in_ok-read.ensures.taken) c.in-Ok.ensures.runs c.in-Ok.ensures.course c.in-Ok.ensures.why

pub returns-in-Err-clause-serves : goal.returns-in-Err-clause-serves
returns-in-Err-clause-serves g c =
    serves_taken g.W.World.Tells c.args.rounds (streams (g.S.Source.remaining c.args.source.now) (g.K.Sink.contents c.args.sink.now) (g.S.Source.faults c.args.source.now) (g.K.Sink.faults c.args.sink.now))
    (streams (g.S.Source.remaining c.read_program.new.source) (g.K.Sink.contents c.run_world.new.sink) (g.S.Source.faults c.read_program.new.source) (g.K.Sink.faults c.run_world.new.sink)) (g.W.World.seen c.args.live.now) (g.W.World.seen c.run_world.new.world) _ (Err c.in-Err.stop)
    (program_of c.deref.result.now c.in_ok-read.read.program.judge)
    (subst (λ apps. Taken (program_of apps c.in_ok-read.read.program.judge) (g.S.Source.remaining c.args.source.now) (g.S.Source.remaining c.read_program.new.source)) (sym c.deref.ensures.value) c.in_ok-read.ensures.taken) c.in-Err.ensures.runs c.in-Err.ensures.course c.in-Err.ensures.why

pub returns-in_err-read-clause-always : goal.returns-in_err-read-clause-always
returns-in_err-read-clause-always g c = idle_always g.W.World.Tells (g.W.World.seen c.args.live.now)

pub returns-in-Ok-clause-always : goal.returns-in-Ok-clause-always
returns-in-Ok-clause-always g c = record {
  every_application_ended = c.run_world.ensures.ended;
  no_stray_call = c.run_world.ensures.strays;
  own_ids_ascend = λ tells. c.run_world.ensures.ids tells.told tells.untouched tells.order;
}

pub returns-in-Err-clause-always : goal.returns-in-Err-clause-always
returns-in-Err-clause-always g c = record {
  every_application_ended = c.run_world.ensures.ended;
  no_stray_call = c.run_world.ensures.strays;
  own_ids_ascend = λ tells. c.run_world.ensures.ids tells.told tells.untouched tells.order;
}

pub returns-in_err-read-clause-no_switch : goal.returns-in_err-read-clause-no_switch
returns-in_err-read-clause-no_switch g c =
    let p = err_from_is_err_and c.from_residual.result c.from_residual.ensures.1 in
    λ can. rw (p.1, p.2) (read_of_no_switch IsNoPolicy (g.S.Source.remaining c.args.source.now) (g.S.Source.faults c.args.source.now) (g.S.Source.faults c.read_program.new.source) c.in_err-read.field-0.0 c.in_err-read.ensures.why)

use Rattle.std.proofs.Common.{rules, refl}
use Rattle.event_dispatch.specs.laws.CutLaws.{finish_cut, if_err}
use Rattle.event_dispatch.specs.laws.PartsLaws.{served_left, served_fails, served_done, finish_fails}
use Rattle.event_dispatch.specs.laws.PlainLaws.{calm_anyway}
use Rattle.event_dispatch.specs.laws.WholeLaws.{some_left}
use Rattle.event_dispatch.specs.Plain.{IsPlainServed}
use Rattle.event_dispatch.specs.Why.{served_by}
use Rattle.event_dispatch.proofs.run.Run.finish.Goals as goal

pub returns-then-not-is_empty : goal.returns-then-not-is_empty
returns-then-not-is_empty g c = record {
  passes = served_left g.W.World.Tells (g.W.World.seen c.args.world.now) c.args.self.now.core.net (g.K.Sink.faults c.args.sink.now);
  done = record {
    finishes = (c.len.ensures, refl, refl);
    fails = record {
      cut = tt;
      why = some_left c.args.self.now.core.queue c.len.result c.is_empty.result c.is_empty.ensures c.if-not-is_empty.true
          c.len.ensures;
      plain = calm_anyway (g.W.World.seen c.args.world.now) (g.W.World.seen c.args.world.now) c.args.self.now.core.net _ tt;
    };
  };
  parted = λ can. tt;
}

pub returns-in_err-end_report : goal.returns-in_err-end_report
returns-in_err-end_report g c =
    let fault = c.in_err-end_report.field-0.0 in
    let fails = c.in_err-end_report.ensures.done in
    record {
      passes = served_fails fault c.from_residual.result c.end_report.ensures.passes c.from_residual.ensures.1;
      done = finish_fails (g.K.Sink.faults c.args.sink.now) (g.K.Sink.faults c.end_report.new.sink) c.args.self.now c.end_report.new.self fault
          c.from_residual.result c.from_residual.ensures.1 (record {
            cut = finish_cut g.W.World.Tells fault (g.K.Sink.contents c.args.sink.now) (g.K.Sink.contents c.end_report.new.sink)
                (g.W.World.seen c.args.world.now) (g.W.World.seen c.end_report.new.world) _ (search rules) fails.cut;
            why = fails.why;
            plain = fails.plain;
          });
      parted = λ can. if_err IsPlainServed (served_by fault) c.from_residual.result c.from_residual.ensures.1 (c.in_err-end_report.ensures.parted can);
    }

pub returns : goal.returns
returns g c = record {
  passes = served_done tt c.in_ok-end_report.ensures.passes;
  done = record {
    finishes = ((search rules), c.in_ok-end_report.ensures.done);
    fails = tt;
  };
  parted = λ can. tt;
}

use Rattle.event_dispatch.specs.declared.fault.Fault.TheVariants as faults
use Rattle.std.proofs.Common.{refl}
use Rattle.event_dispatch.specs.declared.fault.Fault.{Fault}
use Rattle.event_dispatch.specs.Why.{served_by}
use Rattle.event_dispatch.specs.laws.CutLaws.{still_is, end_stopped, end_unwritten, if_err}
use Rattle.event_dispatch.specs.laws.PassesLaws.{at_fault}
use Rattle.event_dispatch.specs.laws.PartsLaws.{on_still, on_fails, on_written}
use Rattle.event_dispatch.specs.laws.PlainLaws.{calm_anyway}
use Rattle.event_dispatch.specs.laws.WholeLaws.{ends_is}
use Rattle.event_dispatch.specs.laws.WhyLaws.{IsWhy-sink, same_fell}
use Rattle.event_dispatch.specs.Plain.{IsPlainEnd}
use Rattle.event_dispatch.proofs.run.Run.end_report.Goals as goal

pub returns-in_err-note_last : goal.returns-in_err-note_last
returns-in_err-note_last g c =
    let fault = c.in_err-note_last.field-0.0 in
    let fails = c.in_err-note_last.ensures.done in
    record {
      passes = on_fails _ _ (on_still (g.K.Sink.faults c.args.sink.now) c.note_last.ensures.passes.passes) c.from_residual.ensures.0;
      done = at_fault _ _ fault c.from_residual.result c.from_residual.ensures.1 (record {
        cut = end_stopped g.W.World.Tells fault (g.K.Sink.contents c.args.sink.now) (g.K.Sink.contents c.args.sink.now) (g.W.World.seen c.args.world.now)
            (g.W.World.seen c.note_last.new.world) c.args.self.now c.requires.going (still_is g.W.World.Tells (g.W.World.seen c.args.world.now)
            (g.W.World.seen c.note_last.new.world) fault (g.K.Sink.contents c.args.sink.now) (g.K.Sink.contents c.args.sink.now) fails.why refl)
            c.note_last.ensures.passes.talks c.note_last.ensures.passes.no_point;
        why = IsWhy-sink g.W.World.Tells (g.W.World.seen c.args.world.now) (g.W.World.seen c.note_last.new.world) (g.K.Sink.faults c.args.sink.now)
            (g.K.Sink.faults c.args.sink.now) (served_by fault) (same_fell (g.K.Sink.faults c.args.sink.now)) fails.why;
        plain = fails.plain;
      });
      parted = λ can. if_err IsPlainEnd c.in_err-note_last.field-0.0 c.from_residual.result c.from_residual.ensures.1 (c.in_err-note_last.ensures.parted can);
    }

pub returns-in_err-write : goal.returns-in_err-write
returns-in_err-write g c = record {
  passes = on_fails _ _ (on_written Fault c.in_ok-note_last.ensures.passes.passes c.write.ensures) c.from_residual-in_err-write.ensures.0;
  done = at_fault _ _ faults.Write c.from_residual-in_err-write.result c.from_residual-in_err-write.ensures.1 (record {
    cut = end_unwritten g.W.World.Tells (g.K.Sink.contents c.args.sink.now) (g.K.Sink.contents c.write.new.sink) (g.W.World.seen c.args.world.now)
        (g.W.World.seen c.note_last.new.world) c.args.self.now c.note_last.new.self c.requires.none_waits c.in_ok-note_last.ensures.done.shown
        c.in_ok-note_last.ensures.passes.passes.reads c.in_err-write.ensures.part;
    why = c.in_err-write.ensures.rose;
    plain = calm_anyway (g.W.World.seen c.args.world.now) (g.W.World.seen c.note_last.new.world) c.args.self.now.core.net (served_by faults.Write) tt;
  });
  parted = λ can. if_err IsPlainEnd faults.Write c.from_residual-in_err-write.result c.from_residual-in_err-write.ensures.1 tt;
}

pub returns : goal.returns
returns g c = record {
  passes = on_written Fault c.in_ok-note_last.ensures.passes.passes c.write.ensures;
  done = ends_is g.W.World.Tells (g.K.Sink.contents c.args.sink.now) (g.K.Sink.contents c.write.new.sink) (g.W.World.seen c.args.world.now)
      (g.W.World.seen c.note_last.new.world) c.args.self.now c.note_last.new.self c.write.new.self c.requires.none_waits c.in_ok-note_last.ensures.done.shown
      c.in_ok-note_last.ensures.done.waits.events c.in_ok-write.ensures.writes c.write.ensures.stays;
  parted = λ can. tt;
}

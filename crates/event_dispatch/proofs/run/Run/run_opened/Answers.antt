use Rattle.std.proofs.Common.{length, inl, ◌∙◌}
use Rattle.event_dispatch.specs.Why.{served_by}
use Rattle.event_dispatch.specs.Shows.{engine_of}
use Rattle.event_dispatch.specs.laws.CutLaws.{goes_cut, rounds_cut, if_err}
use Rattle.event_dispatch.specs.laws.PartsLaws.{on_then, on_number, served_fails, served_then, served_number, goes_fails, went_fails}
use Rattle.event_dispatch.specs.laws.PlainLaws.{run_anyway, whole_rounds}
use Rattle.event_dispatch.specs.laws.WholeLaws.{went_as, number_then}
use Rattle.event_dispatch.specs.laws.WhyLaws.{why_behind, fell_then}
use Rattle.event_dispatch.specs.Plain.{IsPlainServed}
use Rattle.event_dispatch.proofs.run.Run.run_opened.Goals as goal

pub returns-in_err-begin : goal.returns-in_err-begin
returns-in_err-begin g c =
    let fault = c.in_err-begin.field-0.0 in
    let fails = c.in_err-begin.ensures.done in
    record {
      passes = served_fails fault c.from_residual.result c.begin.ensures.passes c.from_residual.ensures.1;
      done = goes_fails (g.K.Sink.faults c.args.sink.now) (g.K.Sink.faults c.begin.new.sink) c.args.self.now c.begin.new.self fault c.from_residual.result
          c.from_residual.ensures.1 (record {
            cut = goes_cut g.W.World.Tells (g.J.Judge.accepts c.args.judge.now) c.args.rounds fault (g.K.Sink.contents c.args.sink.now)
                (g.K.Sink.contents c.begin.new.sink) (g.W.World.seen c.args.world.now) (g.W.World.seen c.begin.new.world) (engine_of c.args.self.now)
                c.begin.ensures.passes.passes.continues (inl fails.cut);
            why = fails.why;
            plain = run_anyway (g.W.World.seen c.args.world.now) (g.W.World.seen c.begin.new.world) (engine_of c.args.self.now) (served_by fault) fails.plain;
          });
      parted = λ can. if_err IsPlainServed (served_by fault) c.from_residual.result c.from_residual.ensures.1 fails.plain;
    }

pub returns-in_err-run_rounds : goal.returns-in_err-run_rounds
returns-in_err-run_rounds g c =
    let fault = c.in_err-run_rounds.field-0.0 in
    let first = c.in_ok-begin.ensures in
    let fails = c.in_err-run_rounds.ensures.done in
    let later = c.run_rounds.ensures.passes.passes.continues in
    record {
      passes = served_fails fault c.from_residual-in_err-run_rounds.result (on_then first.passes (on_number (length c.args.self.now.core.store)
          (length c.begin.new.self.core.store) first.done.number c.run_rounds.ensures.passes)) c.from_residual-in_err-run_rounds.ensures.1;
      done = goes_fails (g.K.Sink.faults c.args.sink.now) (g.K.Sink.faults c.run_rounds.new.sink) c.args.self.now c.run_rounds.new.self fault
          c.from_residual-in_err-run_rounds.result c.from_residual-in_err-run_rounds.ensures.1 (record {
            cut = rounds_cut g.W.World.Tells (g.J.Judge.accepts c.args.judge.now) c.args.rounds fault (g.K.Sink.contents c.args.sink.now)
                (g.K.Sink.contents c.begin.new.sink) (g.K.Sink.contents c.run_rounds.new.sink) (g.W.World.seen c.args.world.now)
                (g.W.World.seen c.begin.new.world) (g.W.World.seen c.run_rounds.new.world) c.args.self.now
                c.begin.new.self first.passes.passes.continues first.done.begins first.passes.passes.reads later fails.cut;
            why = why_behind (g.W.World.seen c.args.world.now) (g.W.World.seen c.begin.new.world) (g.W.World.seen c.run_rounds.new.world)
                (g.K.Sink.faults c.args.sink.now) (g.K.Sink.faults c.begin.new.sink) (g.K.Sink.faults c.run_rounds.new.sink)
                (served_by fault) first.passes.passes.continues first.passes.never_fell fails.why;
            plain = whole_rounds (g.W.World.seen c.args.world.now) (g.W.World.seen c.begin.new.world) (g.W.World.seen c.run_rounds.new.world) c.args.self.now
                c.begin.new.self (served_by fault) first.passes.passes.continues first.done.begins later fails.plain;
          });
      parted = λ can. if_err IsPlainServed (served_by fault) c.from_residual-in_err-run_rounds.result c.from_residual-in_err-run_rounds.ensures.1 (c.in_err-run_rounds.ensures.parted can);
    }

pub returns : goal.returns
returns g c =
    let first = c.in_ok-begin.ensures in
    let rounds = c.in_ok-run_rounds.ensures in
    let last = c.finish.ensures in
    let number = rounds.done.number ∙ first.done.number in
    record {
      passes = served_then (on_then first.passes (on_number (length c.args.self.now.core.store)
          (length c.begin.new.self.core.store) first.done.number rounds.passes)) (served_number (length c.args.self.now.core.store)
          (length c.run_rounds.new.self.core.store) number last.passes);
      done = record {
        goes = went_as g.W.World.Tells (g.J.Judge.accepts c.args.judge.now) c.args.rounds c.finish.result (g.K.Sink.contents c.args.sink.now)
            (g.K.Sink.contents c.begin.new.sink) (g.K.Sink.contents c.run_rounds.new.sink) (g.K.Sink.contents c.finish.new.sink)
            (g.W.World.seen c.args.world.now) (g.W.World.seen c.begin.new.world) (g.W.World.seen c.run_rounds.new.world) (g.W.World.seen c.finish.new.world)
            c.args.self.now c.begin.new.self c.run_rounds.new.self c.finish.new.self
            first.passes.passes.continues rounds.passes.passes.continues last.passes.continues (number_then c.args.self.now c.run_rounds.new.self
            c.requires.going rounds.done.going number) first.done.begins rounds.done.to_end last.done.finishes;
        fails = went_fails (g.J.Judge.accepts c.args.judge.now) c.args.rounds (g.K.Sink.contents c.args.sink.now) (g.K.Sink.contents c.begin.new.sink)
            (g.K.Sink.contents c.run_rounds.new.sink) (g.K.Sink.contents c.finish.new.sink) (g.K.Sink.faults c.args.sink.now)
            (g.K.Sink.faults c.run_rounds.new.sink) (g.K.Sink.faults c.finish.new.sink) (g.W.World.seen c.args.world.now) (g.W.World.seen c.begin.new.world)
            (g.W.World.seen c.run_rounds.new.world) (g.W.World.seen c.finish.new.world) c.args.self.now c.begin.new.self c.run_rounds.new.self c.finish.result
            (record {
              first = first.passes.passes.continues;
              begins = first.done.begins;
              starts_read = first.passes.passes.reads;
              on = rounds.passes.passes.continues;
              rounds = rounds.done.to_end;
              rounds_read = rounds.passes.passes.reads;
            }) last.passes.continues (fell_then (g.K.Sink.faults c.args.sink.now) (g.K.Sink.faults c.begin.new.sink)
            (g.K.Sink.faults c.run_rounds.new.sink) first.passes.never_fell rounds.passes.never_fell) last.done.fails;
      };
      parted = c.finish.ensures.parted;
    }

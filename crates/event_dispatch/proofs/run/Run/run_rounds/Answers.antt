use Rattle.std.proofs.Common.{rules, arith, refl, length, subst, ◌∙◌}
use Rattle.event_dispatch.specs.declared.batch.Rest.{Rest}
use Rattle.event_dispatch.specs.Serves.{GoesRound}
use Rattle.event_dispatch.specs.Why.{served_by}
use Rattle.event_dispatch.specs.laws.PassesLaws.{at_fault}
use Rattle.event_dispatch.specs.laws.PartsLaws.{on_none, on_then, on_done, on_fails, on_number}
use Rattle.event_dispatch.specs.laws.PlainLaws.{run_rounds}
use Rattle.event_dispatch.specs.laws.RoundLaws.{rounds_none, rounds_next, rounds_last, rounds_out}
use Rattle.event_dispatch.specs.laws.WhyLaws.{why_behind}
use Rattle.event_dispatch.specs.Plain.{IsPlainEnd}
use Rattle.event_dispatch.specs.laws.CutLaws.{if_err}
use Rattle.event_dispatch.proofs.run.Run.run_rounds.Goals as goal

pub loop-round-init : goal.loop-round-init
loop-round-init g c = record {
  buffer = (search rules);
  going = c.requires.going;
  at_most = omega arith;
  events = (search rules);
  number = refl;
  passes = on_none g.W.World.Tells (g.W.World.seen c.args.world.now) c.args.self.now.core.net (g.K.Sink.faults c.args.sink.now) _;
  rounds = rounds_none g.W.World.Tells (g.J.Judge.accepts c.args.judge.now) (g.K.Sink.contents c.args.sink.now) (g.W.World.seen c.args.world.now)
      c.args.self.now c.requires.none_waits;
}

pub run_round-requires-clause-none_waits : goal.run_round-requires-clause-none_waits
run_round-requires-clause-none_waits g c = c.loop-round.invariant.rounds.writes.none_waits

pub loop-round-preserved : goal.loop-round-preserved
loop-round-preserved g c = record {
  buffer = c.in_ok-run_round.ensures.passes.buffer ∙ c.loop-round.invariant.buffer;
  going = c.in_ok-run_round.ensures.done.going;
  at_most = omega (arith, c.loop-round-test.true);
  events = omega (arith, c.loop-round.invariant.events, c.in_ok-run_round.ensures.done.events);
  number = c.in_ok-run_round.ensures.done.number ∙ c.loop-round.invariant.number;
  passes = on_done tt (on_then c.loop-round.invariant.passes (on_number (length c.args.self.now.core.store) (length c.loop-round.self.core.store)
      c.loop-round.invariant.number c.in_ok-run_round.ensures.passes.on));
  rounds = rounds_next g.W.World.Tells (g.J.Judge.accepts c.args.judge.now) c.loop-round._round (g.K.Sink.contents c.args.sink.now)
      (g.K.Sink.contents c.loop-round.sink) (g.K.Sink.contents c.run_round.new.sink) (g.W.World.seen c.args.world.now) (g.W.World.seen c.loop-round.world)
      (g.W.World.seen c.run_round.new.world) c.args.self.now c.loop-round.self c.run_round.new.self c.loop-round.invariant.rounds
      (subst (λ (rest : Rest). GoesRound g.W.World.Tells (g.J.Judge.accepts c.args.judge.now) rest (g.K.Sink.contents c.loop-round.sink)
      (g.K.Sink.contents c.run_round.new.sink) (g.W.World.seen c.loop-round.world) (g.W.World.seen c.run_round.new.world) c.loop-round.self
      c.run_round.new.self) c.in-Idle.is c.in_ok-run_round.ensures.done.round);
}

pub returns-in-End : goal.returns-in-End
returns-in-End g c = record {
  passes = on_done tt (on_then c.loop-round.invariant.passes (on_number (length c.args.self.now.core.store) (length c.loop-round.self.core.store)
      c.loop-round.invariant.number c.in_ok-run_round.ensures.passes.on));
  done = record {
    to_end = rounds_last g.W.World.Tells (g.J.Judge.accepts c.args.judge.now) c.args.rounds c.loop-round._round (g.K.Sink.contents c.args.sink.now)
        (g.K.Sink.contents c.loop-round.sink) (g.K.Sink.contents c.run_round.new.sink) (g.W.World.seen c.args.world.now) (g.W.World.seen c.loop-round.world)
        (g.W.World.seen c.run_round.new.world) c.args.self.now c.loop-round.self c.run_round.new.self c.loop-round-test.true c.loop-round.invariant.rounds
        (subst (λ (rest : Rest). GoesRound g.W.World.Tells (g.J.Judge.accepts c.args.judge.now) rest (g.K.Sink.contents c.loop-round.sink)
        (g.K.Sink.contents c.run_round.new.sink) (g.W.World.seen c.loop-round.world) (g.W.World.seen c.run_round.new.world) c.loop-round.self
        c.run_round.new.self) c.in-End.is c.in_ok-run_round.ensures.done.round);
    going = c.in_ok-run_round.ensures.done.going;
    number = c.in_ok-run_round.ensures.done.number ∙ c.loop-round.invariant.number;
  };
  parted = λ can. tt;
}

pub returns : goal.returns
returns g c = record {
  passes = c.loop-round.invariant.passes;
  done = record {
    to_end = rounds_out g.W.World.Tells (g.J.Judge.accepts c.args.judge.now) c.args.rounds c.loop-round._round (g.K.Sink.contents c.args.sink.now)
        (g.K.Sink.contents c.loop-round.sink) (g.W.World.seen c.args.world.now) (g.W.World.seen c.loop-round.world) c.args.self.now c.loop-round.self
        (omega (arith, c.loop-round-test.false, c.loop-round.invariant.at_most)) c.loop-round.invariant.rounds;
    going = c.loop-round.invariant.going;
    number = c.loop-round.invariant.number;
  };
  parted = λ can. tt;
}

pub returns-in_err-run_round : goal.returns-in_err-run_round
returns-in_err-run_round g c =
    let fault = c.in_err-run_round.field-0.0 in
    let before = c.loop-round.invariant.passes in
    let fails = c.in_err-run_round.ensures.done in
    let later = c.run_round.ensures.passes.on.passes.continues in
    record {
      passes = on_fails _ _ (on_then c.loop-round.invariant.passes (on_number (length c.args.self.now.core.store) (length c.loop-round.self.core.store)
          c.loop-round.invariant.number c.run_round.ensures.passes.on)) c.from_residual.ensures.0;
      done = at_fault _ _ fault c.from_residual.result c.from_residual.ensures.1 (record {
        cut = record {
          number = c.loop-round._round;
          mid = (g.W.World.seen c.loop-round.world);
          mid_run = c.loop-round.self;
          held = (g.K.Sink.contents c.loop-round.sink);
          on = before.passes.continues;
          rounds = c.loop-round.invariant.rounds;
          reads = before.passes.reads;
          later = later;
          round = fails.cut;
        };
        why = why_behind (g.W.World.seen c.args.world.now) (g.W.World.seen c.loop-round.world) (g.W.World.seen c.run_round.new.world)
            (g.K.Sink.faults c.args.sink.now) (g.K.Sink.faults c.loop-round.sink) (g.K.Sink.faults c.run_round.new.sink)
            (served_by fault) before.passes.continues before.never_fell fails.why;
        plain = run_rounds (g.W.World.seen c.args.world.now) (g.W.World.seen c.loop-round.world) (g.W.World.seen c.run_round.new.world) c.args.self.now
            c.loop-round.self (served_by fault) before.passes.continues c.loop-round.invariant.rounds later fails.plain;
      });
      parted = λ can. if_err IsPlainEnd c.in_err-run_round.field-0.0 c.from_residual.result c.from_residual.ensures.1 (c.in_err-run_round.ensures.parted can);
    }

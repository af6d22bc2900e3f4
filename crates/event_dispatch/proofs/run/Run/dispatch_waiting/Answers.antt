use Rattle.std.proofs.Common.{◌+◌, ◌∙◌, Ok, length, rules, arith, refl}
use Rattle.event_dispatch.specs.EventParts.{WaitingStops}
use Rattle.event_dispatch.specs.Why.{served_by}
use Rattle.event_dispatch.specs.laws.PassesLaws.{same_next, at_fault, passes_then, passes_fails, passes_as, passes_number, so_far_none, so_far_then}
use Rattle.event_dispatch.specs.laws.PlainLaws.{run_settled}
use Rattle.event_dispatch.specs.laws.RoundLaws.{some_none, some_more, settles_early, settles_all}
use Rattle.event_dispatch.specs.laws.WhyLaws.{fell_then, same_fell, why_behind}
use Rattle.event_dispatch.specs.Plain.{IsPlainEnd}
use Rattle.event_dispatch.specs.laws.CutLaws.{if_err}
use Rattle.event_dispatch.proofs.run.Run.dispatch_waiting.Goals as goal

pub loop-event-init : goal.loop-event-init
loop-event-init g c = record {
  going = c.requires.going;
  events = omega arith;
  number = refl;
  passes = so_far_none g.W.World.Tells (g.W.World.seen c.args.world.now) c.args.self.now.core.net;
  dispatches = some_none g.W.World.Tells (g.J.Judge.accepts c.args.judge.now) (g.K.Sink.contents c.args.sink.now) (g.W.World.seen c.args.world.now) c.args.self.now c.requires.none_waits;
  never_fell = same_fell (g.K.Sink.faults c.args.sink.now);
}

pub dispatch_oldest-requires-clause-none_waits : goal.dispatch_oldest-requires-clause-none_waits
dispatch_oldest-requires-clause-none_waits g c = c.loop-event.invariant.dispatches.writes.none_waits

pub returns-in_err-dispatch_oldest : goal.returns-in_err-dispatch_oldest
returns-in_err-dispatch_oldest g c = record {
  passes = passes_fails _ c.from_residual.result
      (passes_then c.loop-event.invariant.passes
      (passes_number (length c.args.self.now.core.store) (length c.loop-event.self.core.store) c.loop-event.invariant.number
      c.in_err-dispatch_oldest.ensures.passes)) c.from_residual.ensures.0;
  never_fell = fell_then (g.K.Sink.faults c.args.sink.now) (g.K.Sink.faults c.loop-event.sink) (g.K.Sink.faults c.dispatch_oldest.new.sink)
      c.loop-event.invariant.never_fell c.dispatch_oldest.ensures.never_fell;
  done = at_fault _ (WaitingStops g.W.World.Tells (g.J.Judge.accepts c.args.judge.now) (g.K.Sink.contents c.args.sink.now)
      (g.K.Sink.contents c.dispatch_oldest.new.sink) (g.K.Sink.faults c.args.sink.now) (g.K.Sink.faults c.dispatch_oldest.new.sink)
      (g.W.World.seen c.args.world.now) (g.W.World.seen c.dispatch_oldest.new.world) c.args.self.now) c.in_err-dispatch_oldest.field-0.0 c.from_residual.result
      c.from_residual.ensures.1 (record {
        cut = record {
          number = c.loop-event._event;
          mid = (g.W.World.seen c.loop-event.world);
          mid_run = c.loop-event.self;
          held = (g.K.Sink.contents c.loop-event.sink);
          few = omega (arith, c.loop-event-test.true);
          on = c.loop-event.invariant.passes.continues;
          some = c.loop-event.invariant.dispatches;
          reads = c.loop-event.invariant.passes.reads;
          later = c.in_err-dispatch_oldest.ensures.passes.continues;
          one = c.in_err-dispatch_oldest.ensures.done.cut;
        };
        why = why_behind (g.W.World.seen c.args.world.now) (g.W.World.seen c.loop-event.world) (g.W.World.seen c.dispatch_oldest.new.world)
            (g.K.Sink.faults c.args.sink.now) (g.K.Sink.faults c.loop-event.sink) (g.K.Sink.faults c.dispatch_oldest.new.sink)
            (served_by c.in_err-dispatch_oldest.field-0.0) c.loop-event.invariant.passes.continues c.loop-event.invariant.never_fell
            c.in_err-dispatch_oldest.ensures.done.why;
        plain = run_settled (g.W.World.seen c.args.world.now) (g.W.World.seen c.loop-event.world) (g.W.World.seen c.dispatch_oldest.new.world) c.args.self.now
            c.loop-event.self (served_by c.in_err-dispatch_oldest.field-0.0) c.loop-event.invariant.passes.continues c.loop-event.invariant.dispatches
            c.in_err-dispatch_oldest.ensures.passes.continues c.in_err-dispatch_oldest.ensures.done.plain;
      });
  parted = λ can. if_err IsPlainEnd c.in_err-dispatch_oldest.field-0.0 c.from_residual.result c.from_residual.ensures.1 (c.in_err-dispatch_oldest.ensures.parted can);
}

pub returns-then-not-branch : goal.returns-then-not-branch
returns-then-not-branch g c = record {
  passes = passes_then c.loop-event.invariant.passes
      (passes_as c.dispatch_oldest.new.self.core.net (Ok tt)
      (passes_number (length c.args.self.now.core.store) (length c.loop-event.self.core.store) c.loop-event.invariant.number
      c.in_ok-dispatch_oldest.ensures.passes) (same_next _));
  never_fell = fell_then (g.K.Sink.faults c.args.sink.now) (g.K.Sink.faults c.loop-event.sink) (g.K.Sink.faults c.dispatch_oldest.new.sink)
      c.loop-event.invariant.never_fell c.dispatch_oldest.ensures.never_fell;
  done = record {
    going = c.in_ok-dispatch_oldest.ensures.done.going;
    events = omega (arith, c.loop-event.invariant.events, c.in_ok-dispatch_oldest.ensures.done.events, c.loop-event-test.true);
    number = c.in_ok-dispatch_oldest.ensures.done.number ∙ c.loop-event.invariant.number;
    dispatches = settles_early g.W.World.Tells (g.J.Judge.accepts c.args.judge.now) (c.loop-event._event + 1) (g.K.Sink.contents c.args.sink.now)
        (g.K.Sink.contents c.dispatch_oldest.new.sink) (g.W.World.seen c.args.world.now) (g.W.World.seen c.dispatch_oldest.new.world) c.args.self.now
        c.dispatch_oldest.new.self (omega (arith, c.loop-event-test.true)) (c.in_ok-dispatch_oldest.ensures.done.dispatches.none (search rules))
        (some_more g.W.World.Tells (g.J.Judge.accepts c.args.judge.now) c.loop-event._event _ (g.K.Sink.contents c.args.sink.now)
        (g.K.Sink.contents c.loop-event.sink) (g.K.Sink.contents c.dispatch_oldest.new.sink) (g.W.World.seen c.args.world.now)
        (g.W.World.seen c.loop-event.world) (g.W.World.seen c.dispatch_oldest.new.world) c.args.self.now c.loop-event.self c.dispatch_oldest.new.self
        c.in_ok-dispatch_oldest.ensures.passes.continues c.loop-event.invariant.dispatches c.in_ok-dispatch_oldest.ensures.done.dispatches);
  };
  parted = λ can. tt;
}

pub loop-event-preserved : goal.loop-event-preserved
loop-event-preserved g c = record {
  going = c.in_ok-dispatch_oldest.ensures.done.going;
  events = omega (arith, c.loop-event.invariant.events, c.in_ok-dispatch_oldest.ensures.done.events);
  number = c.in_ok-dispatch_oldest.ensures.done.number ∙ c.loop-event.invariant.number;
  passes = so_far_then c.loop-event.invariant.passes
      (passes_number (length c.args.self.now.core.store) (length c.loop-event.self.core.store) c.loop-event.invariant.number
      c.in_ok-dispatch_oldest.ensures.passes);
  dispatches = (some_more g.W.World.Tells (g.J.Judge.accepts c.args.judge.now) c.loop-event._event _ (g.K.Sink.contents c.args.sink.now)
      (g.K.Sink.contents c.loop-event.sink) (g.K.Sink.contents c.dispatch_oldest.new.sink) (g.W.World.seen c.args.world.now) (g.W.World.seen c.loop-event.world)
      (g.W.World.seen c.dispatch_oldest.new.world) c.args.self.now c.loop-event.self c.dispatch_oldest.new.self
      c.in_ok-dispatch_oldest.ensures.passes.continues c.loop-event.invariant.dispatches c.in_ok-dispatch_oldest.ensures.done.dispatches);
  never_fell = fell_then (g.K.Sink.faults c.args.sink.now) (g.K.Sink.faults c.loop-event.sink) (g.K.Sink.faults c.dispatch_oldest.new.sink)
      c.loop-event.invariant.never_fell c.in_ok-dispatch_oldest.ensures.never_fell;
}

pub returns : goal.returns
returns g c = record {
  passes = passes_as c.loop-event.self.core.net (Ok tt) c.loop-event.invariant.passes (same_next _);
  never_fell = c.loop-event.invariant.never_fell;
  done = record {
    going = c.loop-event.invariant.going;
    events = omega (arith, c.loop-event.invariant.events, c.loop-event-test.false, c.loop-event.auto._event-end);
    number = c.loop-event.invariant.number;
    dispatches = settles_all g.W.World.Tells (g.J.Judge.accepts c.args.judge.now) c.loop-event._event (g.K.Sink.contents c.args.sink.now)
        (g.K.Sink.contents c.loop-event.sink) (g.W.World.seen c.args.world.now) (g.W.World.seen c.loop-event.world) c.args.self.now c.loop-event.self
        (omega (arith, c.loop-event-test.false, c.loop-event.auto._event-end)) c.loop-event.invariant.dispatches;
  };
  parted = λ can. tt;
}

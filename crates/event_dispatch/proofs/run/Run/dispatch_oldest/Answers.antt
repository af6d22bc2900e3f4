use Rattle.std.proofs.Common.{rules, ap, ◌∙◌, List, Ok, true, false, length, refl, arith}
use Rattle.checkpoint_store.specs.Slots.{Slot}
use Rattle.net_txn.specs.Net.{NetState}
use Rattle.event_dispatch.specs.declared.fault.Fault.TheVariants as faults
use Rattle.event_dispatch.specs.EventParts.{OldestStops}
use Rattle.event_dispatch.specs.Shows.{engine_of}
use Rattle.event_dispatch.specs.Why.{served_by}
use Rattle.event_dispatch.specs.laws.CutLaws.{still_is, fails_next, one_still, one_unwritten, if_err}
use Rattle.event_dispatch.specs.laws.OfferLaws.{going_queued}
use Rattle.event_dispatch.specs.laws.PassesLaws.{same_next, at_fault, passes_none, passes_fails, passes_as}
use Rattle.event_dispatch.specs.laws.PlainLaws.{run_anyway, run_fails}
use Rattle.event_dispatch.specs.laws.RoundLaws.{one_settled, none_settled, going_stays}
use Rattle.event_dispatch.specs.laws.WhyLaws.{same_fell, IsWhy-sink}
use Rattle.event_dispatch.specs.Plain.{IsPlainEnd}
use Rattle.event_dispatch.proofs.run.Run.dispatch_oldest.Goals as goal

pub returns-in_default : goal.returns-in_default
returns-in_default g c = record {
  passes = passes_none g.W.World.Tells (g.W.World.seen c.args.world.now) c.args.self.now.core.net c.args.self.now.core.net (Ok false) (same_next _);
  never_fell = same_fell (g.K.Sink.faults c.args.sink.now);
  done = record {
    going = going_queued c.take_first.new.self c.args.self.now c.requires.going;
    events = omega arith;
    number = refl;
    dispatches = none_settled g.W.World.Tells (g.J.Judge.accepts c.args.judge.now) (g.K.Sink.contents c.args.sink.now) (g.W.World.seen c.args.world.now)
        c.args.self.now c.take_first.new.self c.take_first.ensures.rest (search rules) c.requires.none_waits;
  };
  parted = λ can. tt;
}

pub returns-in_err-dispatch : goal.returns-in_err-dispatch
returns-in_err-dispatch g c = record {
  passes = passes_fails _ c.from_residual.result c.in_err-dispatch.ensures.passes c.from_residual.ensures.0;
  never_fell = same_fell (g.K.Sink.faults c.args.sink.now);
  done = at_fault _ (OldestStops g.W.World.Tells (g.J.Judge.accepts c.args.judge.now) (g.K.Sink.contents c.args.sink.now) (g.K.Sink.contents c.args.sink.now)
      (g.K.Sink.faults c.args.sink.now) (g.K.Sink.faults c.args.sink.now) (g.W.World.seen c.args.world.now) (g.W.World.seen c.dispatch.new.world)
      c.args.self.now) c.in_err-dispatch.field-0.0 c.from_residual.result c.from_residual.ensures.1 (record {
        cut = one_still g.W.World.Tells (g.J.Judge.accepts c.args.judge.now) c.in_err-dispatch.field-0.0 (g.K.Sink.contents c.args.sink.now)
            (g.K.Sink.contents c.args.sink.now) (g.W.World.seen c.args.world.now) (g.W.World.seen c.dispatch.new.world) (engine_of c.args.self.now)
            (still_is g.W.World.Tells (g.W.World.seen c.args.world.now) (g.W.World.seen c.dispatch.new.world) c.in_err-dispatch.field-0.0
            (g.K.Sink.contents c.args.sink.now) (g.K.Sink.contents c.args.sink.now) c.in_err-dispatch.ensures.done.why refl)
            (fails_next g.W.World.Tells (g.J.Judge.accepts c.args.judge.now) c.in_err-dispatch.field-0.0 c.in-Some.event (g.W.World.seen c.args.world.now)
            (g.W.World.seen c.dispatch.new.world) c.args.self.now c.take_first.new.self c.requires.few c.in-Some.ensures.first c.in-Some.ensures.rest
            c.in_err-dispatch.ensures.done.fails);
        why = IsWhy-sink g.W.World.Tells (g.W.World.seen c.args.world.now) (g.W.World.seen c.dispatch.new.world) (g.K.Sink.faults c.args.sink.now)
            (g.K.Sink.faults c.args.sink.now) (served_by c.in_err-dispatch.field-0.0) (same_fell (g.K.Sink.faults c.args.sink.now))
            c.in_err-dispatch.ensures.done.why;
        plain = run_fails (g.W.World.seen c.args.world.now) (g.W.World.seen c.dispatch.new.world) c.args.self.now c.in_err-dispatch.field-0.0
            (fails_next g.W.World.Tells (g.J.Judge.accepts c.args.judge.now) c.in_err-dispatch.field-0.0 c.in-Some.event (g.W.World.seen c.args.world.now)
            (g.W.World.seen c.dispatch.new.world) c.args.self.now c.take_first.new.self c.requires.few c.in-Some.ensures.first c.in-Some.ensures.rest
            c.in_err-dispatch.ensures.done.fails);
      });
  parted = λ can. if_err IsPlainEnd c.in_err-dispatch.field-0.0 c.from_residual.result c.from_residual.ensures.1 (c.in_err-dispatch.ensures.parted can);
}

pub returns-in_err-write : goal.returns-in_err-write
returns-in_err-write g c = record {
  passes = passes_fails _ c.from_residual-in_err-write.result c.in_ok-dispatch.ensures.passes c.from_residual-in_err-write.ensures.0;
  never_fell = c.write.ensures.never_fell;
  done = at_fault _ (OldestStops g.W.World.Tells (g.J.Judge.accepts c.args.judge.now) (g.K.Sink.contents c.args.sink.now) (g.K.Sink.contents c.write.new.sink)
      (g.K.Sink.faults c.args.sink.now) (g.K.Sink.faults c.write.new.sink) (g.W.World.seen c.args.world.now) (g.W.World.seen c.dispatch.new.world)
      c.args.self.now) faults.Write c.from_residual-in_err-write.result c.from_residual-in_err-write.ensures.1 (record {
        cut = one_unwritten g.W.World.Tells (g.J.Judge.accepts c.args.judge.now) c.in-Some.event (g.K.Sink.contents c.args.sink.now)
            (g.K.Sink.contents c.write.new.sink) (g.W.World.seen c.args.world.now) (g.W.World.seen c.dispatch.new.world) c.args.self.now c.take_first.new.self
            c.dispatch.new.self
            c.in_ok-dispatch.ensures.passes.continues c.requires.few c.in-Some.ensures.first c.in-Some.ensures.rest c.requires.none_waits
            c.in_ok-dispatch.ensures.done.dispatched c.in_ok-dispatch.ensures.passes.reads c.in_err-write.ensures.part;
        why = c.in_err-write.ensures.rose;
        plain = run_anyway (g.W.World.seen c.args.world.now) (g.W.World.seen c.dispatch.new.world) (engine_of c.args.self.now) (served_by faults.Write) tt;
      });
  parted = λ can. if_err IsPlainEnd faults.Write c.from_residual-in_err-write.result c.from_residual-in_err-write.ensures.1 tt;
}

pub returns : goal.returns
returns g c = record {
  passes = passes_as c.write.new.self.net (Ok true) c.in_ok-dispatch.ensures.passes (record { views = ap (λ (n : NetState). n.views) c.write.ensures.stays.net; xid = ap (λ (n : NetState). n.xid) c.write.ensures.stays.net });
  never_fell = c.write.ensures.never_fell;
  done = record {
    going = going_stays c.dispatch.new.self c.write.new.self c.in_ok-dispatch.ensures.done.going c.in_ok-write.ensures.waits c.write.ensures.stays;
    events = omega (arith, c.write.ensures.stays.events, c.in_ok-dispatch.ensures.done.events);
    number = ap (λ (slots : List Slot). length slots) c.write.ensures.stays.store ∙ c.in_ok-dispatch.ensures.done.number;
    dispatches = one_settled g.W.World.Tells (g.J.Judge.accepts c.args.judge.now) c.in-Some.event (g.K.Sink.contents c.args.sink.now)
        (g.K.Sink.contents c.write.new.sink) (g.W.World.seen c.args.world.now) (g.W.World.seen c.dispatch.new.world) c.args.self.now c.take_first.new.self
        c.dispatch.new.self c.write.new.self
        c.in_ok-dispatch.ensures.passes.continues c.requires.few c.in-Some.ensures.first c.in-Some.ensures.rest c.requires.none_waits
        c.in_ok-dispatch.ensures.done.dispatched c.write.ensures.stays c.in_ok-write.ensures.writes;
  };
  parted = λ can. tt;
}

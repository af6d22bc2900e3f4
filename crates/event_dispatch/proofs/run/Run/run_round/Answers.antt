use Rattle.event_dispatch.specs.declared.fault.Fault.TheVariants as faults
use Rattle.std.proofs.Common.{List, length, refl, ap, ◌∙◌, inl, arith}
use Rattle.checkpoint_store.specs.Slots.{Slot}
use Rattle.event_dispatch.specs.declared.fault.Fault.{Fault}
use Rattle.event_dispatch.specs.Why.{served_by}
use Rattle.event_dispatch.specs.Shows.{engine_of}
use Rattle.event_dispatch.specs.laws.CutLaws.{still_is, round_behind, round_unwritten, if_err}
use Rattle.event_dispatch.specs.laws.PassesLaws.{at_fault}
use Rattle.event_dispatch.specs.laws.PartsLaws.{on_of, on_still, on_then, on_done, on_fails, on_written, on_number}
use Rattle.event_dispatch.specs.laws.PlainLaws.{run_anyway, run_calm, run_batch}
use Rattle.event_dispatch.specs.laws.RoundLaws.{round_is, going_written}
use Rattle.event_dispatch.specs.laws.WhyLaws.{IsWhy-sink, why_behind, same_fell}
use Rattle.event_dispatch.specs.Plain.{IsPlainEnd}
use Rattle.event_dispatch.proofs.run.Run.run_round.Goals as goal

pub returns-in_err-rest : goal.returns-in_err-rest
returns-in_err-rest g c =
    let fault = c.in_err-rest.field-0.0 in
    let fails = c.in_err-rest.ensures.done in
    record {
      passes = record {
        on = on_fails _ _ (on_still (g.K.Sink.faults c.args.sink.now) c.take_batch.ensures.passes) c.from_residual.ensures.0;
        buffer = c.take_batch.ensures.buffer;
      };
      done = at_fault _ _ fault c.from_residual.result c.from_residual.ensures.1 (record {
        cut = inl (
          still_is g.W.World.Tells (g.W.World.seen c.args.world.now) (g.W.World.seen c.take_batch.new.world) fault
              (g.K.Sink.contents c.args.sink.now) (g.K.Sink.contents c.args.sink.now) fails.why refl,
          c.take_batch.ensures.talks,
          record { here = fails.here; own = fails.own },
        );
        why = IsWhy-sink g.W.World.Tells (g.W.World.seen c.args.world.now) (g.W.World.seen c.take_batch.new.world) (g.K.Sink.faults c.args.sink.now)
            (g.K.Sink.faults c.args.sink.now) (served_by fault) (same_fell (g.K.Sink.faults c.args.sink.now)) fails.why;
        plain = run_calm (g.W.World.seen c.args.world.now) (g.W.World.seen c.take_batch.new.world) c.args.self.now (served_by fault) fails.plain;
      });
      parted = λ can. if_err IsPlainEnd c.in_err-rest.field-0.0 c.from_residual.result c.from_residual.ensures.1 (c.in_err-rest.ensures.parted can);
    }

pub returns-in_err-write_noted : goal.returns-in_err-write_noted
returns-in_err-write_noted g c =
    let batch = c.in_ok-rest.ensures in
    record {
      passes = record {
        on = on_fails _ _ (on_written Fault c.in_ok-rest.ensures.passes c.write_noted.ensures.lines)
            c.from_residual-in_err-write_noted.ensures.0;
        buffer = c.take_batch.ensures.buffer;
      };
      done = at_fault _ _ faults.Write c.from_residual-in_err-write_noted.result c.from_residual-in_err-write_noted.ensures.1 (record {
        cut = round_unwritten g.W.World.Tells (g.J.Judge.accepts c.args.judge.now) c.in_ok-rest.rest (g.K.Sink.contents c.args.sink.now)
            (g.K.Sink.contents c.write_noted.new.sink) (g.W.World.seen c.args.world.now) (g.W.World.seen c.take_batch.new.world) c.args.self.now
            c.take_batch.new.self batch.passes.continues c.requires.none_waits batch.done.waits batch.done.batch batch.done.first batch.passes.reads
            c.in_err-write_noted.ensures.some c.in_err-write_noted.ensures.lines.part;
        why = c.in_err-write_noted.ensures.lines.rose;
        plain = run_anyway (g.W.World.seen c.args.world.now) (g.W.World.seen c.take_batch.new.world) (engine_of c.args.self.now) (served_by faults.Write) tt;
      });
      parted = λ can. if_err IsPlainEnd faults.Write c.from_residual-in_err-write_noted.result c.from_residual-in_err-write_noted.ensures.1 tt;
    }

pub returns-in_err-dispatch_waiting : goal.returns-in_err-dispatch_waiting
returns-in_err-dispatch_waiting g c =
    let fault = c.in_err-dispatch_waiting.field-0.0 in
    let batch = c.in_ok-rest.ensures in
    let fails = c.in_err-dispatch_waiting.ensures.done in
    let later = c.dispatch_waiting.ensures.passes.continues in
    record {
      passes = record {
        on = on_fails _ _ (on_then (on_written Fault c.in_ok-rest.ensures.passes c.write_noted.ensures.lines)
            (on_number (length c.args.self.now.core.store) (length c.write_noted.new.self.store) (ap (λ (slots : List Slot). length slots)
            (c.in_ok-write_noted.ensures.lines.waits.store ∙ batch.done.waits.store)) (on_of (g.K.Sink.faults c.write_noted.new.sink)
            (g.K.Sink.faults c.dispatch_waiting.new.sink) c.dispatch_waiting.ensures.passes c.dispatch_waiting.ensures.never_fell)))
            c.from_residual-in_err-dispatch_waiting.ensures.0;
        buffer = c.take_batch.ensures.buffer;
      };
      done = at_fault _ _ fault c.from_residual-in_err-dispatch_waiting.result c.from_residual-in_err-dispatch_waiting.ensures.1 (record {
        cut = round_behind g.W.World.Tells (g.J.Judge.accepts c.args.judge.now) c.in_ok-rest.rest fault (g.K.Sink.contents c.args.sink.now)
            (g.K.Sink.contents c.write_noted.new.sink) (g.K.Sink.contents c.dispatch_waiting.new.sink) (g.W.World.seen c.args.world.now)
            (g.W.World.seen c.take_batch.new.world) (g.W.World.seen c.dispatch_waiting.new.world) c.args.self.now c.take_batch.new.self c.write_noted.new.self
            batch.passes.continues c.requires.none_waits batch.done.waits batch.done.batch batch.done.first batch.passes.reads c.write_noted.ensures.lines.stays
            c.in_ok-write_noted.ensures.lines.writes later fails.cut;
        why = why_behind (g.W.World.seen c.args.world.now) (g.W.World.seen c.take_batch.new.world) (g.W.World.seen c.dispatch_waiting.new.world)
            (g.K.Sink.faults c.args.sink.now) (g.K.Sink.faults c.write_noted.new.sink) (g.K.Sink.faults c.dispatch_waiting.new.sink)
            (served_by fault) batch.passes.continues c.write_noted.ensures.lines.never_fell fails.why;
        plain = run_batch c.in_ok-rest.rest (g.W.World.seen c.args.world.now) (g.W.World.seen c.take_batch.new.world)
            (g.W.World.seen c.dispatch_waiting.new.world) c.args.self.now c.take_batch.new.self c.write_noted.new.self
            (served_by fault) batch.passes.continues c.requires.none_waits batch.done.waits batch.done.batch
            c.write_noted.ensures.lines.stays later fails.plain;
      });
      parted = λ can. if_err IsPlainEnd c.in_err-dispatch_waiting.field-0.0 c.from_residual-in_err-dispatch_waiting.result c.from_residual-in_err-dispatch_waiting.ensures.1 (c.in_err-dispatch_waiting.ensures.parted can);
    }

pub returns : goal.returns
returns g c =
    let batch = c.in_ok-rest.ensures in
    let waiting = c.in_ok-dispatch_waiting.ensures in
    record {
      passes = record {
        on = on_done c.in_ok-rest.rest (on_then (on_written Fault c.in_ok-rest.ensures.passes c.write_noted.ensures.lines)
            (on_number (length c.args.self.now.core.store) (length c.write_noted.new.self.store) (ap (λ (slots : List Slot). length slots)
            (c.in_ok-write_noted.ensures.lines.waits.store ∙ batch.done.waits.store)) (on_of (g.K.Sink.faults c.write_noted.new.sink)
            (g.K.Sink.faults c.dispatch_waiting.new.sink) waiting.passes waiting.never_fell)));
        buffer = c.take_batch.ensures.buffer;
      };
      done = record {
        round = round_is batch.passes.continues c.requires.none_waits batch.done.waits batch.done.batch batch.done.first c.write_noted.ensures.lines.stays
            c.in_ok-write_noted.ensures.lines.writes waiting.passes.continues waiting.done.dispatches;
        going = waiting.done.going;
        number = waiting.done.number ∙ (ap (λ (slots : List Slot). length slots) (c.in_ok-write_noted.ensures.lines.waits.store ∙ batch.done.waits.store));
        events = omega (arith, waiting.done.events, c.in_ok-write_noted.ensures.lines.waits.events, batch.done.waits.events);
      };
      parted = λ can. tt;
    }

pub dispatch_waiting-requires-clause-going : goal.dispatch_waiting-requires-clause-going
dispatch_waiting-requires-clause-going g c =
    going_written c.args.self.now c.take_batch.new.self c.write_noted.new.self c.requires.going c.in_ok-rest.ensures.done.waits
    c.in_ok-rest.ensures.done.read c.in_ok-write_noted.ensures.lines.waits c.write_noted.ensures.lines.stays

pub dispatch_waiting-requires-clause-few : goal.dispatch_waiting-requires-clause-few
dispatch_waiting-requires-clause-few g c = omega (arith, c.requires.few, c.in_ok-rest.ensures.done.waits.events, c.in_ok-write_noted.ensures.lines.waits.events)

pub dispatch_waiting-requires-clause-none_waits : goal.dispatch_waiting-requires-clause-none_waits
dispatch_waiting-requires-clause-none_waits g c = c.in_ok-write_noted.ensures.lines.writes.none_waits

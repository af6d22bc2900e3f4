use Rattle.event_dispatch.specs.declared.fault.Fault.TheVariants as faults
use Rattle.std.proofs.Common.{List, length, ap, ◌∙◌}
use Rattle.checkpoint_store.specs.Slots.{Slot}
use Rattle.event_dispatch.specs.declared.fault.Fault.{Fault}
use Rattle.event_dispatch.specs.laws.CutLaws.{start_short, start_unwritten}
use Rattle.event_dispatch.specs.laws.PassesLaws.{at_fault}
use Rattle.event_dispatch.specs.laws.PartsLaws.{on_still, on_fails, on_written}
use Rattle.event_dispatch.specs.laws.RoundLaws.{going_stays, begins_is}
use Rattle.event_dispatch.proofs.run.Run.begin.Goals as goal

pub returns-in_err-start_all : goal.returns-in_err-start_all
returns-in_err-start_all g c = record {
  passes = on_fails _ _ (on_still (g.K.Sink.faults c.args.sink.now) c.start_all.ensures.passes.passes) c.from_residual.ensures.0;
  done = at_fault _ _ faults.NoMemory c.from_residual.result c.from_residual.ensures.1 (record {
    cut = start_short g.W.World.Tells (g.K.Sink.contents c.args.sink.now) (g.W.World.seen c.args.world.now) (g.W.World.seen c.start_all.new.world)
        c.args.self.now c.requires.going c.start_all.ensures.passes.talks c.start_all.ensures.passes.no_point;
    why = tt;
    plain = tt;
  });
}

pub returns-in_err-write : goal.returns-in_err-write
returns-in_err-write g c = record {
  passes = on_fails _ _ (on_written Fault c.in_ok-start_all.ensures.passes.passes c.write.ensures) c.from_residual-in_err-write.ensures.0;
  done = at_fault _ _ faults.Write c.from_residual-in_err-write.result c.from_residual-in_err-write.ensures.1 (record {
    cut = start_unwritten g.W.World.Tells (g.K.Sink.contents c.args.sink.now) (g.K.Sink.contents c.write.new.sink) (g.W.World.seen c.args.world.now)
        (g.W.World.seen c.start_all.new.world) c.args.self.now (record c.args.self.now { core = c.start_all.new.core; apps = c.start_all.new.apps })
        c.requires.none_waits c.in_ok-start_all.ensures.done.started c.in_ok-start_all.ensures.passes.passes.reads c.in_err-write.ensures.part;
    why = c.in_err-write.ensures.rose;
    plain = tt;
  });
}

pub returns : goal.returns
returns g c =
    let waits = c.in_ok-start_all.ensures.done.waits in
    record {
      passes = on_written Fault c.in_ok-start_all.ensures.passes.passes c.write.ensures;
      done = record {
        begins = begins_is g.W.World.Tells (g.K.Sink.contents c.args.sink.now) (g.K.Sink.contents c.write.new.sink) (g.W.World.seen c.args.world.now)
            (g.W.World.seen c.start_all.new.world) c.args.self.now (record c.args.self.now { core = c.start_all.new.core; apps = c.start_all.new.apps })
            c.write.new.self c.requires.none_waits c.in_ok-start_all.ensures.done.started c.write.ensures.stays c.in_ok-write.ensures.writes;
        going = going_stays (record c.args.self.now { core = c.start_all.new.core; apps = c.start_all.new.apps }) c.write.new.self
            c.in_ok-start_all.ensures.done.going c.in_ok-write.ensures.waits c.write.ensures.stays;
        none = c.in_ok-write.ensures.waits.events ∙ waits.events ∙ c.requires.none;
        number = ap (λ (slots : List Slot). length slots) (c.in_ok-write.ensures.waits.store ∙ waits.store);
      };
    }

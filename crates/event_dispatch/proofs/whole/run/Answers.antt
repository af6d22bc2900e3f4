use Rattle.std.proofs.Common.{length, map, ap}
use Rattle.crash_policy.specs.Policies.{app_value}
use Rattle.run_laws.specs.Engine.{Engine}
use Rattle.run_laws.specs.First.{net_at_first}
use Rattle.event_dispatch.specs.laws.PartsLaws.{ended_short, ended_fails, ended_done, ended_as, runs_wanting, runs_fail}
use Rattle.event_dispatch.specs.laws.WholeLaws.{first_places, first_few, runs_done}
use Rattle.event_dispatch.specs.Plain.{IsPlainServed}
use Rattle.event_dispatch.specs.declared.served.Served.TheVariants as ends
use Rattle.event_dispatch.specs.laws.CutLaws.{if_err}
use Rattle.event_dispatch.proofs.whole.run.Goals as goal

pub returns-in_err-run : goal.returns-in_err-run
returns-in_err-run g c = record {
  passes = ended_short g.W.World.Tells (g.W.World.seen c.args.world.now) net_at_first (g.K.Sink.faults c.args.sink.now) c.from_residual.result
      c.from_residual.ensures.1;
  done = runs_wanting (map app_value c.args.rules.now) g.W.World.Tells (g.W.World.seen c.args.world.now) c.from_residual.result c.from_residual.ensures.1;
  parted = λ can. if_err IsPlainServed ends.NoMemory c.from_residual.result c.from_residual.ensures.1 tt;
}

pub returns-in_err-buf : goal.returns-in_err-buf
returns-in_err-buf g c = record {
  passes = ended_short g.W.World.Tells (g.W.World.seen c.args.world.now) net_at_first (g.K.Sink.faults c.args.sink.now) c.from_residual-in_err-buf.result
      c.from_residual-in_err-buf.ensures.1;
  done = runs_wanting (map app_value c.args.rules.now) g.W.World.Tells (g.W.World.seen c.args.world.now) c.from_residual-in_err-buf.result
      c.from_residual-in_err-buf.ensures.1;
  parted = λ can. if_err IsPlainServed ends.NoMemory c.from_residual-in_err-buf.result c.from_residual-in_err-buf.ensures.1 tt;
}

pub returns-in_err-run_then_end : goal.returns-in_err-run_then_end
returns-in_err-run_then_end g c =
    let is = c.in_ok-run.ensures.done in
    record {
      passes = ended_fails c.from_residual-in_err-run_then_end.result (ended_as (length c.args.rules.now) (length c.in_ok-run.run'.core.store) net_at_first
          c.in_ok-run.run'.core.net (first_places c.args.rules.now c.in_ok-run.run' is.going is.first) (ap (λ (e : Engine). e.net) is.first)
          c.in_err-run_then_end.ensures.passes) c.from_residual-in_err-run_then_end.ensures.1;
      done = runs_fail (map app_value c.args.rules.now) c.in_ok-run.run' c.run_then_end.new.run c.in_err-run_then_end.field-0.0
          c.from_residual-in_err-run_then_end.result c.from_residual-in_err-run_then_end.ensures.1 is.first c.in_err-run_then_end.ensures.done;
      parted = λ can. if_err IsPlainServed c.in_err-run_then_end.field-0.0 c.from_residual-in_err-run_then_end.result c.from_residual-in_err-run_then_end.ensures.1 (c.in_err-run_then_end.ensures.parted can);
    }

pub returns : goal.returns
returns g c =
    let is = c.in_ok-run.ensures.done in
    record {
      passes = ended_done _ (ended_as (length c.args.rules.now) (length c.in_ok-run.run'.core.store) net_at_first c.in_ok-run.run'.core.net
          (first_places c.args.rules.now c.in_ok-run.run' is.going is.first) (ap (λ (e : Engine). e.net) is.first) c.in_ok-run_then_end.ensures.passes);
      done = record {
        runs = runs_done (map app_value c.args.rules.now) g.W.World.Tells (g.J.Judge.accepts c.args.judge.now) c.args.rounds
            (g.K.Sink.contents c.args.sink.now) (g.K.Sink.contents c.run_then_end.new.sink) (g.W.World.seen c.args.world.now)
            (g.W.World.seen c.run_then_end.new.world) c.in_ok-run.run' c.run_then_end.new.run is.first c.in_ok-run_then_end.ensures.done.goes;
        fails = tt;
      };
      parted = λ can. tt;
    }

pub run_then_end-requires-clause-number : goal.run_then_end-requires-clause-number
run_then_end-requires-clause-number g c = first_few c.args.rules.now c.in_ok-run.run' c.in_ok-run.ensures.done.first c.in_ok-run.ensures.done.number

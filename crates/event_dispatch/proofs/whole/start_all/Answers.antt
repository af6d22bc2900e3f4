use Rattle.std.proofs.Common.{arith}
use Rattle.event_dispatch.specs.laws.BeginLaws.{starts_first, start_split, start_place, start_rests, starts_next, all_started, starts_going}
use Rattle.event_dispatch.specs.laws.PassesLaws.{same_next, if_failed, quiet_fails, quiet_then, quiet_as, quiet_waits}
use Rattle.event_dispatch.proofs.whole.start_all.Goals as goal

pub loop-at-init : goal.loop-at-init
loop-at-init g c = starts_first g.W.World.Tells (g.W.World.seen c.args.world.now) c.args.core.now c.args.apps.now.items c.requires.going

pub start-requires-clause-place : goal.start-requires-clause-place
start-requires-clause-place g c = start_place c.loop-at.at c.index_mut.result.now c.loop-at.invariant
    (omega (arith, c.loop-at-test.true, c.len-at-end.ensures, c.loop-at.invariant.number_is, c.requires.going.number)) c.index_mut.ensures.value

pub start-requires-clause-store : goal.start-requires-clause-store
start-requires-clause-store g c = start_rests c.loop-at.invariant c.requires.going.core.store

pub loop-at-preserved : goal.loop-at-preserved
loop-at-preserved g c =
    starts_next c.loop-at.at (g.W.World.seen c.args.world.now) (g.W.World.seen c.loop-at.world) (g.W.World.seen c.start.new.world) c.args.core.now
    c.loop-at.core c.start.new.self c.args.apps.now.items c.loop-at.apps.items c.index_mut.result.now c.start.new.app c.loop-at.invariant
    (start_split c.loop-at.at c.index_mut.result.now c.loop-at.invariant (omega (
      arith,
      c.loop-at-test.true,
      c.len-at-end.ensures,
      c.loop-at.invariant.number_is,
      c.requires.going.number,
    )) c.index_mut.ensures.value)
    c.in_ok-start.ensures.passes c.start.ensures.keeps c.in_ok-start.ensures.done

pub returns : goal.returns
returns g c =
    let so_far = c.loop-at.invariant in
    record {
      passes = quiet_as _ _ so_far.passes (same_next _);
      done = record {
        going = starts_going c.loop-at.at (g.W.World.seen c.args.world.now) (g.W.World.seen c.loop-at.world) c.args.core.now c.loop-at.core
            c.args.apps.now.items c.loop-at.apps.items so_far (omega (
              arith,
              c.loop-at-test.false,
              c.len-at-end.ensures,
              so_far.number_is,
              c.requires.going.number,
            )) c.requires.going.core;
        waits = so_far.waits;
        started = all_started c.loop-at.at (g.W.World.seen c.args.world.now) (g.W.World.seen c.loop-at.world) c.args.core.now c.loop-at.core
            c.args.apps.now.items c.loop-at.apps.items so_far (omega (
              arith,
              c.loop-at-test.false,
              c.len-at-end.ensures,
              so_far.number_is,
              c.requires.going.number,
            ));
      };
    }

pub returns-in_err-start : goal.returns-in_err-start
returns-in_err-start g c = record {
  passes = quiet_fails _ _ (quiet_then c.loop-at.invariant.passes (quiet_waits c.loop-at.invariant.waits c.start.ensures.passes)) c.from_residual.ensures.0;
  done = if_failed _ c.from_residual.result c.from_residual.ensures.0;
}

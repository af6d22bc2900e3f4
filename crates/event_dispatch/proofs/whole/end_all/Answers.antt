use Rattle.outside.specs.laws.SeenLaws.{Continues-refl, Continues-trans}
use Rattle.event_dispatch.specs.laws.EndedLaws.{ended_none, ended_next, are_ended}
use Rattle.event_dispatch.proofs.whole.end_all.Goals as goal

pub loop-app-init : goal.loop-app-init
loop-app-init g c = record {
  continues = Continues-refl g.W.World.Tells (g.W.World.seen c.args.world.now);
  so_far = ended_none g.W.World.Tells
      (g.W.World.seen c.args.world.now);
}

pub loop-app-preserved : goal.loop-app-preserved
loop-app-preserved g c = record {
  continues = Continues-trans g.W.World.Tells (g.W.World.seen c.args.world.now) (g.W.World.seen c.loop-app.world) (g.W.World.seen c.end_one.new.world)
      c.loop-app.invariant.continues c.end_one.ensures.continues;
  so_far = ended_next c.loop-app.app (g.W.World.seen c.args.world.now) (g.W.World.seen c.loop-app.world) (g.W.World.seen c.end_one.new.world)
      c.loop-app-test.true c.loop-app.invariant.continues c.loop-app.invariant.so_far c.end_one.ensures.ends;
}

pub returns : goal.returns
returns g c = record {
  continues = c.loop-app.invariant.continues;
  ended = are_ended c.loop-app.app (g.W.World.seen c.args.world.now) (g.W.World.seen c.loop-app.world) c.loop-app-test.false c.loop-app.invariant.so_far;
  leaves = record { shown = λ told keeps. c.loop-app.invariant.so_far.leaves told };
  talks = c.loop-app.invariant.so_far.talks;
}

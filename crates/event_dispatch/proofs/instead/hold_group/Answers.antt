use Rattle.event_dispatch.specs.laws.GroupPartLaws.{group_others, group_rests, group_unkept, group_held}
use Rattle.event_dispatch.proofs.instead.hold_group.Goals as goal

pub returns : goal.returns
returns g c = record {
  passes = c.play_group-grouped.ensures.passes;
  keeps = record {
    index = c.play_group-grouped.ensures.keeps.index;
    alive = c.play_group-grouped.ensures.keeps.alive;
    rests = group_rests c.play_group-grouped.result c.args.app.now.index c.args.store.now c.play_group-grouped.new.store c.close_store.new.store c.requires.place
        c.requires.rests c.play_group-grouped.ensures.keeps.slots c.close_store.ensures;
    others = group_others c.play_group-grouped.result c.args.app.now.index c.args.store.now c.play_group-grouped.new.store c.close_store.new.store
        c.play_group-grouped.ensures.keeps.slots c.close_store.ensures;
    quiet = c.play_group-grouped.ensures.keeps.quiet;
  };
  kept = group_unkept c.play_group-grouped.result c.args.app.now.index c.args.store.now c.play_group-grouped.new.store c.close_store.new.store c.requires.place
      c.play_group-grouped.ensures.keeps.slots c.close_store.ensures;
  done = group_held g.W.World.Own g.W.World.Tells (g.J.Judge.accepts c.args.group.judge.now) c.args.app.now.index c.args.group.rule.now c.args.group.number c.args.group.events.now
      (g.W.World.seen c.args.world.now) (g.W.World.seen c.play_group-grouped.new.world) c.args.net.now c.play_group-grouped.new.net c.args.queue.now
      c.play_group-grouped.new.queue c.args.app.now.rest c.play_group-grouped.new.app.rest c.args.store.now c.play_group-grouped.new.store c.close_store.new.store c.requires.place
      c.requires.rests c.play_group-grouped.ensures.keeps.slots c.play_group-grouped.result c.close_store.ensures c.play_group-grouped.ensures.done;
  parted = c.play_group-grouped.ensures.parted;
}

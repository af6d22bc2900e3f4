use Rattle.event_dispatch.specs.laws.StoreLaws.{others_closed, rests_closed}
use Rattle.event_dispatch.specs.laws.TurnPartLaws.{hold_so}
use Rattle.event_dispatch.proofs.dispatch.hold_turn.Goals as goal

pub returns : goal.returns
returns g c = record {
  passes = c.play_turn-closing.ensures.passes;
  keeps = record {
    index = c.play_turn-closing.ensures.keeps.index;
    alive = c.play_turn-closing.ensures.keeps.alive;
    rests = rests_closed c.play_turn-closing.result c.args.app.now.index c.args.store.now c.play_turn-closing.new.store c.close_store.new.store c.requires.place
        c.requires.rests c.play_turn-closing.ensures.keeps.slots c.close_store.ensures;
    others = others_closed c.play_turn-closing.result c.args.app.now.index c.args.store.now c.play_turn-closing.new.store c.close_store.new.store
        c.play_turn-closing.ensures.keeps.slots c.close_store.ensures;
    later = c.play_turn-closing.ensures.keeps.later;
  };
  done = hold_so g.W.World.Own g.W.World.Tells (g.J.Judge.accepts c.args.occasion.judge.now) c.args.occasion.budget c.args.occasion.number
      c.args.occasion.event.now
      (g.W.World.seen c.args.world.now) (g.W.World.seen c.play_turn-closing.new.world) c.args.net.now c.play_turn-closing.new.net c.args.queue.now
      c.play_turn-closing.new.queue c.args.app.now.rest c.play_turn-closing.new.app.rest c.play_turn-closing.result c.args.app.now.index c.args.store.now
      c.play_turn-closing.new.store c.close_store.new.store c.requires.place
      c.requires.rests c.play_turn-closing.ensures.keeps.slots c.close_store.ensures c.play_turn-closing.ensures.done;
  parted = c.play_turn-closing.ensures.parted;
}

use Rattle.std.proofs.Common.{◌≡◌, length, vec_len, rules, ◌∙◌}
use Rattle.event_dispatch.specs.Shows.{engine_of}
use Rattle.event_dispatch.specs.laws.PartsLaws.{ended_then, then_fails}
use Rattle.event_dispatch.specs.laws.WholeLaws.{ended_leaves, ended_point, ended_number, goes_then}
use Rattle.event_dispatch.proofs.whole.run_then_end.Goals as goal

pub returns : goal.returns
returns g c =
    let apps : vec_len c.args.run.now.apps ≡ length c.args.run.now.apps.items = search rules in
    let first = c.run_opened-ended.ensures in
    let last = c.end_all.ensures in
    let point = ended_point g.W.World.Tells (g.W.World.seen c.run_opened-ended.new.world) (g.W.World.seen c.end_all.new.world) c.args.run.now
    (c.len-apps.ensures ∙ apps) last.ended in
    record {
      passes = ended_then first.passes last.continues (ended_number g.W.World.Tells (g.W.World.seen c.run_opened-ended.new.world)
          (g.W.World.seen c.end_all.new.world) c.args.run.now c.requires.going (c.len-apps.ensures ∙ apps) last.ended);
      done = record {
        goes = goes_then g.W.World.Tells (g.J.Judge.accepts c.args.judge.now) c.args.rounds c.run_opened-ended.result (g.K.Sink.contents c.args.sink.now)
            (g.K.Sink.contents c.run_opened-ended.new.sink) (g.W.World.seen c.args.world.now) (g.W.World.seen c.run_opened-ended.new.world)
            (g.W.World.seen c.end_all.new.world) c.args.run.now c.run_opened-ended.new.self last.continues
            (ended_leaves g.W.World.Tells (g.W.World.seen c.run_opened-ended.new.world) (g.W.World.seen c.end_all.new.world) c.args.run.now
            (c.len-apps.ensures ∙ apps) last.leaves) first.done.goes;
        fails = then_fails (g.J.Judge.accepts c.args.judge.now) c.args.rounds (g.K.Sink.contents c.args.sink.now)
            (g.K.Sink.contents c.run_opened-ended.new.sink) (g.K.Sink.faults c.args.sink.now) (g.K.Sink.faults c.run_opened-ended.new.sink)
            (g.W.World.seen c.args.world.now) (g.W.World.seen c.run_opened-ended.new.world) (g.W.World.seen c.end_all.new.world) (engine_of c.args.run.now)
            c.run_opened-ended.result first.passes.continues last.continues first.passes.never_fell last.talks point last.ended.none_moves first.done.fails;
      };
      parted = c.run_opened-ended.ensures.parted;
    }

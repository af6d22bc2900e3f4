use Rattle.std.proofs.Common.{[], Some, refl, sym, subst, ◌∙◌}
use Rattle.legosdn.specs.Input.{program_of, program_value, drawn}
use Rattle.sim_world.specs.World.{seen_of}
use Rattle.legosdn.specs.Headline.{streams, Loaded}
use Rattle.legosdn.proofs.Loads.{loaded_on}
use Rattle.legosdn.proofs.Runs.{untouched}
use Rattle.legosdn.proofs.CommandEnds.{replays_unread, replays_loaded}
use Rattle.legosdn.proofs.Promises.{new_always, loaded_always}
use Rattle.legosdn.proofs.drawn.replay_drawn.Goals as goal

pub returns-in_err-program-clause-replays : goal.returns-in_err-program-clause-replays
returns-in_err-program-clause-replays g c =
    replays_unread (drawn c.args.start c.args.count) (Some []) (Some []) 0 0 (g.K.Sink.faults c.args.sink.now) c.args.sim.now c.draw.new.sim (g.K.Sink.contents c.args.sink.now)
    _ c.in_err-program.field-0.0 c.from_residual.result c.from_residual.ensures.1 (untouched c.draw.new.sim c.draw.ensures.new) c.in_err-program.ensures.why (λ early. (c.in_err-program.ensures.early early ∙ c.world_mut.ensures.value, refl))

pub returns-clause-replays : goal.returns-clause-replays
returns-clause-replays g c =
    replays_loaded (drawn c.args.start c.args.count) (streams (Some []) (g.K.Sink.contents c.args.sink.now) 0 (g.K.Sink.faults c.args.sink.now))
    (streams (Some []) (g.K.Sink.contents c.simulate.new.sink) 0 (g.K.Sink.faults c.simulate.new.sink)) c.args.sim.now c.draw.new.sim c.simulate.new.sim _ c.simulate.result (program_of c.deref.result.now c.in_ok-program.program.judge)
    (subst (λ apps. Loaded (drawn c.args.start c.args.count) (program_of apps c.in_ok-program.program.judge) (Some []) (Some []) (seen_of c.simulate.new.sim)) (sym c.deref.ensures.value)
    (loaded_on (drawn c.args.start c.args.count) (seen_of c.draw.new.sim) (seen_of c.simulate.new.sim) c.simulate.ensures.continues c.in_ok-program.ensures.loaded))
    (c.simulate.ensures.runs (untouched c.draw.new.sim c.in_ok-program.ensures.new) c.in_ok-program.ensures.few) c.simulate.ensures.course c.simulate.ensures.lines c.requires.new c.in_ok-program.ensures.new c.simulate.ensures.why

pub returns-in_err-program-clause-always : goal.returns-in_err-program-clause-always
returns-in_err-program-clause-always g c = new_always (drawn c.args.start c.args.count) (Some []) (Some []) c.draw.new.sim c.draw.ensures.new

pub returns-clause-always : goal.returns-clause-always
returns-clause-always g c =
    let none = untouched c.draw.new.sim c.in_ok-program.ensures.new in
    loaded_always (drawn c.args.start c.args.count) (Some []) (Some []) (seen_of c.simulate.new.sim)
    (program_value c.in_ok-program.program, loaded_on (drawn c.args.start c.args.count) (seen_of c.draw.new.sim) (seen_of c.simulate.new.sim) c.simulate.ensures.continues c.in_ok-program.ensures.loaded)
    (c.simulate.ensures.strays none) (c.simulate.ensures.lost none) (c.simulate.ensures.ended none) (c.simulate.ensures.ids none)

use Rattle.legosdn.specs.Input.{program_of}
use Rattle.sim_world.specs.World.{seen_of}
use Rattle.legosdn.proofs.FaultLines.{loses_as_told}
use Rattle.legosdn.proofs.Losses.{none_is_lost}
use Rattle.legosdn.proofs.Places.{counted_few}
use Rattle.legosdn.proofs.Runs.{tells, still_few, runs_said}
use Rattle.legosdn.proofs.top.simulate.Goals as goal

pub returns-clause-runs : goal.returns-clause-runs
returns-clause-runs g c = λ none few.
    runs_said (program_of c.args.apps.now c.args.judge.now) c.run_world-ended.new.world (g.K.Sink.contents c.args.sink.now) (g.K.Sink.contents c.run_world-ended.new.sink) c.run_world-ended.result c.keeps_word.ensures.scripts
    (still_few (seen_of c.args.sim.now) (seen_of c.run_world-ended.new.world) c.run_world-ended.ensures.continues few)
    (c.run_world-ended.ensures.runs (tells (seen_of c.args.sim.now) (seen_of c.run_world-ended.new.world) none c.keeps_word.ensures.word))

pub returns-clause-strays : goal.returns-clause-strays
returns-clause-strays g c = λ none.
    counted_few c.run_world-ended.new.world c.keeps_word.ensures.strays
    (c.run_world-ended.ensures.strays (tells (seen_of c.args.sim.now) (seen_of c.run_world-ended.new.world) none c.keeps_word.ensures.word))

pub returns-clause-ended : goal.returns-clause-ended
returns-clause-ended g c = λ none. c.run_world-ended.ensures.ended tt none

pub returns-clause-lost : goal.returns-clause-lost
returns-clause-lost g c = λ none.
    let stray = c.run_world-ended.ensures.strays (tells (seen_of c.args.sim.now) (seen_of c.run_world-ended.new.world) none c.keeps_word.ensures.word) in
    (none_is_lost (seen_of c.run_world-ended.new.world) c.keeps_word.ensures.word stray, loses_as_told (seen_of c.run_world-ended.new.world) c.keeps_word.ensures.word stray)

pub returns-clause-ids : goal.returns-clause-ids
returns-clause-ids g c = λ none. c.run_world-ended.ensures.ids tt none c.keeps_word.ensures.word

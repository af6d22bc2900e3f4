use Rattle.std.proofs.Common.{◌≡◌, Some, None, map, string_bytes, rules, refl, sym, subst}
use Rattle.legosdn.specs.declared.stop.Stop.TheVariants.{NoMemory}
use Rattle.legosdn.proofs.CommandEnds.{replays_unread, serves_unread}
use Rattle.legosdn.proofs.Runs.{untouched}
use Rattle.legosdn.proofs.Promises.{new_always, idle_always}
use Rattle.std.proofs.lemmas.Result.{err_from_is_err_and}
use Rattle.command_words.specs.declared.command.Command.TheVariants.{Replay, Gen}
use Rattle.command_words.specs.Commands.{command_in}
use Rattle.sim_world.specs.World.{seen_of}
use Rattle.legosdn.specs.Input.{session_of, spelled_to, read_by}
use Rattle.legosdn.specs.Promise.{AtEveryStatus}
use Rattle.legosdn.proofs.Generated.{generates_none, gen_usage}
use Rattle.legosdn.proofs.Recordings.{records_none, record_usage}
use Rattle.legosdn.proofs.top.run.Goals as goal

pub returns-in_err-read_words-clause-replays : goal.returns-in_err-read_words-clause-replays
returns-in_err-read_words-clause-replays g c = λ is.
    replays_unread session_of (g.S.Source.remaining c.args.source.now) (g.S.Source.remaining c.args.source.now) (g.S.Source.faults c.args.source.now) (g.S.Source.faults c.args.source.now) (g.K.Sink.faults c.args.sink.now) c.args.sim.now c.args.sim.now (g.K.Sink.contents c.args.sink.now)
    _ NoMemory c.from_residual.result c.from_residual.ensures.1 (untouched c.args.sim.now c.requires.new) tt (λ early. (refl, refl))

pub returns-in_err-read_words-clause-serves : goal.returns-in_err-read_words-clause-serves
returns-in_err-read_words-clause-serves g c = λ port rounds is.
    serves_unread g.W.World.Tells rounds (g.S.Source.remaining c.args.source.now) (g.S.Source.remaining c.args.source.now) (g.S.Source.faults c.args.source.now) (g.S.Source.faults c.args.source.now) (g.K.Sink.faults c.args.sink.now) (g.W.World.seen c.args.live.now) (g.K.Sink.contents c.args.sink.now)
    _ NoMemory c.from_residual.result c.from_residual.ensures.1 tt (refl, refl)

pub returns-in-Some-Run-clause-serves : goal.returns-in-Some-Run-clause-serves
returns-in-Some-Run-clause-serves g c = λ port rounds is.
    let same : c.in-Some-Run.rounds ≡ rounds = search rules in
    rw (sym same) c.run_live.ensures.serves

pub returns-in_err-read_words-clause-always : goal.returns-in_err-read_words-clause-always
returns-in_err-read_words-clause-always g c = new_always _ _ _ c.args.sim.now c.requires.new

pub returns-in-Some-Run-clause-always : goal.returns-in-Some-Run-clause-always
returns-in-Some-Run-clause-always g c = new_always _ _ _ c.args.sim.now c.requires.new

pub returns-in-None-clause-always : goal.returns-in-None-clause-always
returns-in-None-clause-always g c = new_always _ _ _ c.args.sim.now c.requires.new

pub returns-in_err-read_words-clause-live_always : goal.returns-in_err-read_words-clause-live_always
returns-in_err-read_words-clause-live_always g c = idle_always g.W.World.Tells (g.W.World.seen c.args.live.now)

pub returns-in-Some-Replay-clause-live_always : goal.returns-in-Some-Replay-clause-live_always
returns-in-Some-Replay-clause-live_always g c = idle_always g.W.World.Tells (g.W.World.seen c.args.live.now)

pub returns-in-None-clause-live_always : goal.returns-in-None-clause-live_always
returns-in-None-clause-live_always g c = idle_always g.W.World.Tells (g.W.World.seen c.args.live.now)

pub returns-in_err-read_words-clause-no_switch : goal.returns-in_err-read_words-clause-no_switch
returns-in_err-read_words-clause-no_switch g c =
    let p = err_from_is_err_and c.from_residual.result c.from_residual.ensures.1 in
    λ port rounds is can. rw (p.1, p.2) tt

pub returns-in-Some-Run-clause-no_switch : goal.returns-in-Some-Run-clause-no_switch
returns-in-Some-Run-clause-no_switch g c = λ port rounds is can. c.run_live.ensures.no_switch can

pub returns-in_err-read_words-clause-generates : goal.returns-in_err-read_words-clause-generates
returns-in_err-read_words-clause-generates g c = λ start count is.
    generates_none start count (g.S.Source.remaining c.args.source.now) (g.K.Sink.contents c.args.sink.now) (g.S.Source.faults c.args.source.now) (g.K.Sink.faults c.args.sink.now) c.args.sim.now c.from_residual.result c.requires.new c.from_residual.ensures.1

pub returns-in-Some-Gen-clause-generates : goal.returns-in-Some-Gen-clause-generates
returns-in-Some-Gen-clause-generates g c = λ start count is.
    let same_start : c.in-Some-Gen.start ≡ start = search rules in
    let same_count : c.in-Some-Gen.count ≡ count = search rules in
    rw (sym same_start, sym same_count) (c.run_drawn.ensures.generates (g.S.Source.remaining c.args.source.now) (g.S.Source.faults c.args.source.now))

pub returns-in-Some-Replay-clause-always : goal.returns-in-Some-Replay-clause-always
returns-in-Some-Replay-clause-always g c =
    let is : command_in (map (λ s. string_bytes s) c.args.words.now) ≡ Some Replay = search rules in
    subst (λ command. AtEveryStatus (spelled_to command) (read_by command (g.S.Source.remaining c.args.source.now)) (read_by command (g.S.Source.remaining c.replay.new.source)) (seen_of c.replay.new.sim)) (sym is) c.replay.ensures.always

pub returns-in-Some-Gen-clause-always : goal.returns-in-Some-Gen-clause-always
returns-in-Some-Gen-clause-always g c =
    let is : command_in (map (λ s. string_bytes s) c.args.words.now) ≡ Some (Gen c.in-Some-Gen.start c.in-Some-Gen.count) = search rules in
    subst (λ command. AtEveryStatus (spelled_to command) (read_by command (g.S.Source.remaining c.args.source.now)) (read_by command (g.S.Source.remaining c.args.source.now)) (seen_of c.run_drawn.new.sim)) (sym is) c.run_drawn.ensures.always

pub returns-in-Some-Gen-clause-live_always : goal.returns-in-Some-Gen-clause-live_always
returns-in-Some-Gen-clause-live_always g c = idle_always g.W.World.Tells (g.W.World.seen c.args.live.now)

pub returns-in-Some-Gen-clause-usage : goal.returns-in-Some-Gen-clause-usage
returns-in-Some-Gen-clause-usage g c = gen_usage _ c.in-Some-Gen.start c.in-Some-Gen.count _ _ _ _ c.run_drawn.result (c.run_drawn.ensures.generates None 0)

pub returns-in_err-read_words-clause-records : goal.returns-in_err-read_words-clause-records
returns-in_err-read_words-clause-records g c = λ port rounds is.
    records_none g.W.World.Tells rounds (g.S.Source.remaining c.args.source.now) (g.K.Sink.contents c.args.sink.now) (g.S.Source.faults c.args.source.now) (g.K.Sink.faults c.args.sink.now) (g.W.World.seen c.args.live.now) (g.W.Recorded.kept c.args.live.now)
    _ c.from_residual.result refl c.from_residual.ensures.1

pub returns-in-Some-Record-clause-records : goal.returns-in-Some-Record-clause-records
returns-in-Some-Record-clause-records g c = λ port rounds is.
    let same : c.in-Some-Record.rounds ≡ rounds = search rules in
    rw (sym same) c.run_recorded.ensures.records

pub returns-in-Some-Record-clause-always : goal.returns-in-Some-Record-clause-always
returns-in-Some-Record-clause-always g c = new_always _ _ _ c.args.sim.now c.requires.new

pub returns-in_err-read_words-clause-no_switch_recorded : goal.returns-in_err-read_words-clause-no_switch_recorded
returns-in_err-read_words-clause-no_switch_recorded g c =
    let p = err_from_is_err_and c.from_residual.result c.from_residual.ensures.1 in
    λ port rounds is can. rw (p.1, p.2) tt

pub returns-in-Some-Record-clause-no_switch_recorded : goal.returns-in-Some-Record-clause-no_switch_recorded
returns-in-Some-Record-clause-no_switch_recorded g c = λ port rounds is can. c.run_recorded.ensures.no_switch can

pub returns-in-Some-Record-clause-usage : goal.returns-in-Some-Record-clause-usage
returns-in-Some-Record-clause-usage g c = record_usage _ g.W.World.Tells c.in-Some-Record.rounds _ _ _ _ _ _ c.run_recorded.result c.run_recorded.ensures.records

use Rattle.std.proofs.Common.{inl, inr, ◌≡◌, ℕ, [], ◌∷◌, Some, Contains, map, string_bytes, sym, subst, ap, ◌∙◌, arith}
use Rattle.lego_io.specs.Count.{Rose}
use Rattle.lego_io.specs.laws.CountLaws.{Rose-before}
use Rattle.sim_world.specs.World.{seen_of}
use Rattle.legosdn.specs.Headline.{IsNoSession, IsNoPolicy, IsCause, faults_of, streams, Wrote}
use Rattle.legosdn.specs.Stops.{stop_line}
use Rattle.legosdn.proofs.CommandEnds.{by_command}
use Rattle.legosdn.proofs.Statuses.{not_of_switch, is_early, is_usage, is_read_fault, is_write_fault, not_read, not_written}
use Rattle.legosdn.proofs.Promises.{replay_ok, replay_err, run_ok, run_err}
use Rattle.legosdn.proofs.Generated.{gen_ok, gen_err}
use Rattle.legosdn.proofs.Recordings.{record_ok, record_err}
use Rattle.legosdn.specs.Input.{session_of, drawn}
use Rattle.legosdn.proofs.top.legosdn.Goals as goal

pub returns-in-Ok-clause-replay : goal.returns-in-Ok-clause-replay
returns-in-Ok-clause-replay g c = (
  λ is. replay_ok session_of _ _ c.args.sim.now c.run-ended.new.sim _ (c.in-Ok.ensures.replays is),
  λ start count is. gen_ok start count _ _ c.args.sim.now c.run-ended.new.sim (c.in-Ok.ensures.generates start count is),
)

pub returns-in-Err-clause-replay : goal.returns-in-Err-clause-replay
returns-in-Err-clause-replay g c = (
  λ is.
      replay_err session_of (streams (g.S.Source.remaining c.args.source.now) (g.K.Sink.contents c.args.sink.now) (g.S.Source.faults c.args.source.now) (g.K.Sink.faults c.args.sink.now))
      (streams (g.S.Source.remaining c.run-ended.new.source) (g.K.Sink.contents c.run-ended.new.sink) (g.S.Source.faults c.run-ended.new.source) (g.K.Sink.faults c.run-ended.new.sink)) (g.K.Sink.contents c.halt.new.sink) (g.K.Sink.faults c.halt.new.sink) c.args.sim.now c.run-ended.new.sim _ c.in-Err.stop c.halt.result
      (record {
        status_is = c.halt.ensures.status;
        never_fell = c.run-ended.ensures.never_fell;
        never_fell_then = c.halt.ensures.never_fell;
        line = c.halt.ensures.line;
        still = λ early. let same = (c.in-Err.ensures.early early).2 in (ap g.K.Sink.contents same, ap g.K.Sink.faults same);
      }) (c.in-Err.ensures.replays is),
  λ start count is.
      gen_err start count (streams (g.S.Source.remaining c.args.source.now) (g.K.Sink.contents c.args.sink.now) (g.S.Source.faults c.args.source.now) (g.K.Sink.faults c.args.sink.now))
      (streams (g.S.Source.remaining c.run-ended.new.source) (g.K.Sink.contents c.run-ended.new.sink) (g.S.Source.faults c.run-ended.new.source) (g.K.Sink.faults c.run-ended.new.sink)) (g.K.Sink.contents c.halt.new.sink) (g.K.Sink.faults c.halt.new.sink) c.args.sim.now c.run-ended.new.sim c.in-Err.stop c.halt.result
      (record {
        status_is = c.halt.ensures.status;
        never_fell = c.run-ended.ensures.never_fell;
        never_fell_then = c.halt.ensures.never_fell;
        line = c.halt.ensures.line;
        still = λ early. let same = (c.in-Err.ensures.early early).2 in (ap g.K.Sink.contents same, ap g.K.Sink.faults same);
      }) (c.in-Err.ensures.generates start count is),
)

pub returns-in-Ok-clause-run : goal.returns-in-Ok-clause-run
returns-in-Ok-clause-run g c = λ port rounds is. run_ok g.W.World.Tells rounds _ _ (g.W.World.seen c.args.live.now) (g.W.World.seen c.run-ended.new.live) (c.run-ended.new.live ≡ c.args.live.now) (c.run-ended.new.sink ≡ c.args.sink.now) (c.in-Ok.ensures.serves port rounds is)

pub returns-in-Err-clause-run : goal.returns-in-Err-clause-run
returns-in-Err-clause-run g c = λ port rounds is.
    run_err g.W.World.Tells rounds (streams (g.S.Source.remaining c.args.source.now) (g.K.Sink.contents c.args.sink.now) (g.S.Source.faults c.args.source.now) (g.K.Sink.faults c.args.sink.now))
    (streams (g.S.Source.remaining c.run-ended.new.source) (g.K.Sink.contents c.run-ended.new.sink) (g.S.Source.faults c.run-ended.new.source) (g.K.Sink.faults c.run-ended.new.sink)) (g.K.Sink.contents c.halt.new.sink) (g.K.Sink.faults c.halt.new.sink) (g.W.World.seen c.args.live.now) (g.W.World.seen c.run-ended.new.live)
    (c.run-ended.new.live ≡ c.args.live.now) (c.run-ended.new.sink ≡ c.args.sink.now) c.in-Err.stop c.halt.result
    (record {
      status_is = c.halt.ensures.status;
      never_fell = c.run-ended.ensures.never_fell;
      never_fell_then = c.halt.ensures.never_fell;
      line = c.halt.ensures.line;
      still = λ early. let same = (c.in-Err.ensures.early early).2 in (ap g.K.Sink.contents same, ap g.K.Sink.faults same);
    })
    (λ same. ap g.W.World.seen same) (c.in-Err.ensures.serves port rounds is)

pub returns-in-Ok-clause-record : goal.returns-in-Ok-clause-record
returns-in-Ok-clause-record g c = λ port rounds is. record_ok g.W.World.Tells rounds _ _ (g.W.World.seen c.args.live.now) (g.W.World.seen c.run-ended.new.live) (g.W.Recorded.kept c.run-ended.new.live) (c.run-ended.new.live ≡ c.args.live.now) (c.in-Ok.ensures.records port rounds is)

pub returns-in-Err-clause-record : goal.returns-in-Err-clause-record
returns-in-Err-clause-record g c = λ port rounds is.
    record_err g.W.World.Tells rounds (streams (g.S.Source.remaining c.args.source.now) (g.K.Sink.contents c.args.sink.now) (g.S.Source.faults c.args.source.now) (g.K.Sink.faults c.args.sink.now))
    (streams (g.S.Source.remaining c.run-ended.new.source) (g.K.Sink.contents c.run-ended.new.sink) (g.S.Source.faults c.run-ended.new.source) (g.K.Sink.faults c.run-ended.new.sink)) (g.K.Sink.contents c.halt.new.sink) (g.K.Sink.faults c.halt.new.sink) (g.W.World.seen c.args.live.now) (g.W.World.seen c.run-ended.new.live)
    (g.W.Recorded.kept c.run-ended.new.live) (c.run-ended.new.live ≡ c.args.live.now) c.in-Err.stop c.halt.result
    (record {
      status_is = c.halt.ensures.status;
      never_fell = c.run-ended.ensures.never_fell;
      never_fell_then = c.halt.ensures.never_fell;
      line = c.halt.ensures.line;
      still = λ early. let same = (c.in-Err.ensures.early early).2 in (ap g.K.Sink.contents same, ap g.K.Sink.faults same);
    })
    (λ same. ap g.W.World.seen same) (c.in-Err.ensures.records port rounds is)

pub returns-in-Err-clause-usage : goal.returns-in-Err-clause-usage
returns-in-Err-clause-usage g c = λ two. c.in-Err.ensures.usage (is_usage c.in-Err.stop (sym c.halt.ensures.status ∙ two))

pub returns-in-Ok-clause-no_command : goal.returns-in-Ok-clause-no_command
returns-in-Ok-clause-no_command g c = λ none. absurd (c.in-Ok.ensures.no_command none)

pub returns-in-Err-clause-no_command : goal.returns-in-Err-clause-no_command
returns-in-Err-clause-no_command g c = λ none.
    let still = c.in-Err.ensures.no_command none in (
      subst (λ (status : ℕ). Contains (2 ∷ 12 ∷ []) status) (sym c.halt.ensures.status) still.0,
      still.1,
      still.2,
      (
        c.in-Err.stop,
        c.halt.ensures.status,
        subst (λ x. Wrote (g.K.Sink.contents x) (g.K.Sink.contents c.halt.new.sink) (g.K.Sink.faults x) (g.K.Sink.faults c.halt.new.sink) (stop_line c.in-Err.stop)) still.3 c.halt.ensures.line,
      ),
    )

pub returns-in-Err-clause-source_failed : goal.returns-in-Err-clause-source_failed
returns-in-Err-clause-source_failed g c = λ four.
    let fault = is_read_fault c.in-Err.stop (sym c.halt.ensures.status ∙ four) in
    by_command (Rose (g.S.Source.faults c.args.source.now) (g.S.Source.faults c.run-ended.new.source)) (map (λ s. string_bytes s) c.args.words.now)
    (λ is. subst (IsCause (Unit {0}) (IsNoSession session_of) (g.S.Source.remaining c.args.source.now) (faults_of (g.S.Source.faults c.args.source.now) (g.K.Sink.faults c.args.sink.now) (seen_of c.args.sim.now)) (faults_of (g.S.Source.faults c.run-ended.new.source) (g.K.Sink.faults c.run-ended.new.sink) (seen_of c.run-ended.new.sim))) fault (c.in-Err.ensures.replays is).why)
    (λ start count is. subst (IsCause (Unit {0}) (IsNoSession (drawn start count)) (Some []) (faults_of (g.S.Source.faults c.args.source.now) (g.K.Sink.faults c.args.sink.now) (seen_of c.args.sim.now)) (faults_of (g.S.Source.faults c.run-ended.new.source) (g.K.Sink.faults c.run-ended.new.sink) (seen_of c.run-ended.new.sim))) fault (c.in-Err.ensures.generates start count is).why)
    (λ port rounds is. subst (IsCause g.W.World.Tells IsNoPolicy (g.S.Source.remaining c.args.source.now) (faults_of (g.S.Source.faults c.args.source.now) (g.K.Sink.faults c.args.sink.now) (g.W.World.seen c.args.live.now)) (faults_of (g.S.Source.faults c.run-ended.new.source) (g.K.Sink.faults c.run-ended.new.sink) (g.W.World.seen c.run-ended.new.live))) fault (c.in-Err.ensures.serves port rounds is).why)
    (λ port rounds is. subst (IsCause g.W.World.Tells IsNoPolicy (g.S.Source.remaining c.args.source.now) (faults_of (g.S.Source.faults c.args.source.now) (g.K.Sink.faults c.args.sink.now) (g.W.World.seen c.args.live.now)) (faults_of (g.S.Source.faults c.run-ended.new.source) (g.K.Sink.faults c.run-ended.new.sink) (g.W.World.seen c.run-ended.new.live))) fault (c.in-Err.ensures.records port rounds is).why)
    (λ none. absurd (not_read c.in-Err.stop fault (c.in-Err.ensures.no_command none).0))

pub returns-in-Err-clause-sink_failed : goal.returns-in-Err-clause-sink_failed
returns-in-Err-clause-sink_failed g c = λ five.
    let fault = is_write_fault c.in-Err.stop (sym c.halt.ensures.status ∙ five) in
    Rose-before (g.K.Sink.faults c.args.sink.now) (g.K.Sink.faults c.run-ended.new.sink) (g.K.Sink.faults c.halt.new.sink) c.run-ended.ensures.never_fell
    (by_command (Rose (g.K.Sink.faults c.args.sink.now) (g.K.Sink.faults c.run-ended.new.sink)) (map (λ s. string_bytes s) c.args.words.now)
    (λ is. subst (IsCause (Unit {0}) (IsNoSession session_of) (g.S.Source.remaining c.args.source.now) (faults_of (g.S.Source.faults c.args.source.now) (g.K.Sink.faults c.args.sink.now) (seen_of c.args.sim.now)) (faults_of (g.S.Source.faults c.run-ended.new.source) (g.K.Sink.faults c.run-ended.new.sink) (seen_of c.run-ended.new.sim))) fault (c.in-Err.ensures.replays is).why)
    (λ start count is. subst (IsCause (Unit {0}) (IsNoSession (drawn start count)) (Some []) (faults_of (g.S.Source.faults c.args.source.now) (g.K.Sink.faults c.args.sink.now) (seen_of c.args.sim.now)) (faults_of (g.S.Source.faults c.run-ended.new.source) (g.K.Sink.faults c.run-ended.new.sink) (seen_of c.run-ended.new.sim))) fault (c.in-Err.ensures.generates start count is).why)
    (λ port rounds is. subst (IsCause g.W.World.Tells IsNoPolicy (g.S.Source.remaining c.args.source.now) (faults_of (g.S.Source.faults c.args.source.now) (g.K.Sink.faults c.args.sink.now) (g.W.World.seen c.args.live.now)) (faults_of (g.S.Source.faults c.run-ended.new.source) (g.K.Sink.faults c.run-ended.new.sink) (g.W.World.seen c.run-ended.new.live))) fault (c.in-Err.ensures.serves port rounds is).why)
    (λ port rounds is. subst (IsCause g.W.World.Tells IsNoPolicy (g.S.Source.remaining c.args.source.now) (faults_of (g.S.Source.faults c.args.source.now) (g.K.Sink.faults c.args.sink.now) (g.W.World.seen c.args.live.now)) (faults_of (g.S.Source.faults c.run-ended.new.source) (g.K.Sink.faults c.run-ended.new.sink) (g.W.World.seen c.run-ended.new.live))) fault (c.in-Err.ensures.records port rounds is).why)
    (λ none. absurd (not_written c.in-Err.stop fault (c.in-Err.ensures.no_command none).0)))
    c.halt.ensures.never_fell

pub returns-in-Err-clause-world_untouched : goal.returns-in-Err-clause-world_untouched
returns-in-Err-clause-world_untouched g c = λ within.
    let still = c.in-Err.ensures.early (is_early c.in-Err.stop (subst (λ (status : ℕ). Contains (2 ∷ 3 ∷ 4 ∷ []) status) c.halt.ensures.status within)) in (
      still.0,
      still.1,
      (
        c.in-Err.stop,
        c.halt.ensures.status,
        subst (λ x. Wrote (g.K.Sink.contents x) (g.K.Sink.contents c.halt.new.sink) (g.K.Sink.faults x) (g.K.Sink.faults c.halt.new.sink) (stop_line c.in-Err.stop)) still.2 c.halt.ensures.line,
      ),
    )

pub returns-in-Ok-clause-no_switch_ends_the_run : goal.returns-in-Ok-clause-no_switch_ends_the_run
returns-in-Ok-clause-no_switch_ends_the_run g c = λ port rounds is can within. absurd (grind arith)

pub returns-in-Err-clause-no_switch_ends_the_run : goal.returns-in-Err-clause-no_switch_ends_the_run
returns-in-Err-clause-no_switch_ends_the_run g c = λ port rounds is can within.
    not_of_switch c.in-Err.stop (elim is [ inl runs ↦ c.in-Err.ensures.no_switch port rounds runs can | inr records ↦ c.in-Err.ensures.no_switch_recorded port rounds records can ]) (subst (λ (status : ℕ). Contains (8 ∷ 9 ∷ []) status) c.halt.ensures.status within)

pub returns-in-Ok-clause-leaves_other_world : goal.returns-in-Ok-clause-leaves_other_world
returns-in-Ok-clause-leaves_other_world g c = (
  c.in-Ok.ensures.replay_leaves_live,
  c.in-Ok.ensures.gen_leaves_others,
  λ port rounds is. elim is [ inl runs ↦ c.in-Ok.ensures.run_leaves_sim port rounds runs | inr records ↦ c.in-Ok.ensures.record_leaves_sim port rounds records ],
)

pub returns-in-Err-clause-leaves_other_world : goal.returns-in-Err-clause-leaves_other_world
returns-in-Err-clause-leaves_other_world g c = (
  c.in-Err.ensures.replay_leaves_live,
  c.in-Err.ensures.gen_leaves_others,
  λ port rounds is. elim is [ inl runs ↦ c.in-Err.ensures.run_leaves_sim port rounds runs | inr records ↦ c.in-Err.ensures.record_leaves_sim port rounds records ],
)

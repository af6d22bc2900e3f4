use Rattle.std.proofs.Common.{arith}
use Rattle.session_gen.proofs.Progress.{turn_more, happening_more}
use Rattle.session_gen.proofs.session.draw_rounds.Goals as goal

pub loop-preserved : goal.loop-preserved
loop-preserved c = record {
  moment = omega (arith, c.loop.invariant.moment, c.draw_happening.ensures.soon);
  replies = turn_more _ _ _ _ c.args.count c.loop.counter _ _ _ c.loop-test.true c.in_ok-push.ensures.ok c.in_ok-turn.ensures.value c.in_ok-turn.ensures.state c.in_ok-happening.ensures.state c.loop.invariant.replies;
  stimuli = happening_more _ _ _ _ c.args.count c.loop.counter _ _ _ _ _ c.loop-test.true c.in_ok-push-2.ensures.ok c.in_ok-happening.ensures.value c.in_ok-happening.ensures.moment c.in_ok-turn.ensures.state c.in_ok-happening.ensures.state c.loop.invariant.stimuli;
}

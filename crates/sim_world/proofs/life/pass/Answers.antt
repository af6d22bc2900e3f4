use Rattle.std.proofs.Common.{sym, ◌∙◌}
use Rattle.sim_world.specs.laws.LifeLaws.{passed-next}
use Rattle.sim_world.proofs.life.pass.Goals as goal

pub loop-at-preserved : goal.loop-at-preserved
loop-at-preserved c = sym (passed-next c.args.steps.now c.loop-at.at (sym c.is_used_up.ensures.same ∙ c.loop-at-test.true)) ∙ c.loop-at.invariant

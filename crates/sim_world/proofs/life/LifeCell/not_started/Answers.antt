use Rattle.std.proofs.Common.{sym, ◌∙◌}
use Rattle.sim_world.specs.Lives.{life_of_cell}
use Rattle.sim_world.specs.laws.LifeLaws.{after_start-refused, after_start-missed}
use Rattle.sim_world.proofs.life.LifeCell.not_started.Goals as goal

pub returns-then-comes_to_refusal-clause-life : goal.returns-then-comes_to_refusal-clause-life
returns-then-comes_to_refusal-clause-life c =
    c.refused.ensures.life ∙ sym (after_start-refused c.args.lines.now c.args.told.now c.args.self.now.app _ (sym c.comes_to_refusal.ensures ∙ c.if-comes_to_refusal.true))

pub returns-else-comes_to_refusal-clause-life : goal.returns-else-comes_to_refusal-clause-life
unfolding life_of_cell
returns-else-comes_to_refusal-clause-life c =
    sym (after_start-missed c.args.lines.now c.args.told.now c.args.self.now.app (life_of_cell c.args.lines.now.replies c.args.self.now) (sym c.comes_to_refusal.ensures ∙ c.if-comes_to_refusal.false))

use Rattle.std.proofs.Common.{sym, ◌∙◌}
use Rattle.sim_world.specs.Lives.{life_of_cell}
use Rattle.sim_world.specs.laws.LifeLaws.{after_gave-other}
use Rattle.sim_world.proofs.life.LifeCell.gave.Goals as goal

pub returns-else-is_event-clause-life : goal.returns-else-is_event-clause-life
unfolding life_of_cell
returns-else-is_event-clause-life c =
    sym (after_gave-other c.args.lines.now c.args.self.now.app _ (life_of_cell c.args.lines.now.replies c.args.self.now) (sym c.is_event.ensures ∙ c.if-is_event.false))

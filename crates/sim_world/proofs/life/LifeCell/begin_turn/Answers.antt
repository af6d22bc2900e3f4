use Rattle.std.proofs.Common.{◌∙◌}
use Rattle.sim_world.specs.laws.LifeLaws.{next_turn-cell, life-turn, IsCellOf-turn}
use Rattle.sim_world.proofs.life.LifeCell.begin_turn.Goals as goal

pub returns-clause-life : goal.returns-clause-life
returns-clause-life c = life-turn c.args.lines.now c.args.self.now _ _ (c.next_turn-giving.ensures.steps ∙ next_turn-cell c.args.lines.now c.args.self.now c.requires.cell)

pub returns-clause-cell : goal.returns-clause-cell
returns-clause-cell c = IsCellOf-turn c.args.lines.now c.args.self.now _ _ _ c.requires.cell c.next_turn-giving.ensures.next c.next_turn-giving.ensures.within

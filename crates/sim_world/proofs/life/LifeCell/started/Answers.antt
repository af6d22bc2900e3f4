use Rattle.std.proofs.Common.{◌∙◌}
use Rattle.sim_world.specs.laws.LifeLaws.{next_start-cell, life-started, IsCellOf-start}
use Rattle.sim_world.proofs.life.LifeCell.started.Goals as goal

pub returns-clause-life : goal.returns-clause-life
returns-clause-life c = λ fails. life-started c.args.lines.now fails c.args.self.now _ _ (c.next_start-start.ensures.start ∙ next_start-cell c.args.lines.now c.args.self.now c.requires.cell)

pub returns-clause-cell : goal.returns-clause-cell
returns-clause-cell c = IsCellOf-start c.args.lines.now c.args.self.now _ _ _ _ c.requires.cell c.next_start-start.ensures.next tt

use Rattle.std.proofs.Common.{refl}
use Rattle.sim_world.specs.Lives.{life_of_cell}
use Rattle.sim_world.specs.laws.LifeLaws.{IsCellOf-start}
use Rattle.sim_world.proofs.life.LifeCell.refused.Goals as goal

pub returns-clause-life : goal.returns-clause-life
unfolding life_of_cell
returns-clause-life c = refl

pub returns-clause-cell : goal.returns-clause-cell
returns-clause-cell c = IsCellOf-start c.args.lines.now c.args.self.now _ _ _ _ c.requires.cell c.next_start-next.ensures.next c.requires.cell.giving

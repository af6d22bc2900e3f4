use Rattle.std.proofs.Common.{ap, ◌∙◌}
use Rattle.sim_world.specs.Scripts.{is_refused}
use Rattle.sim_world.specs.laws.LifeLaws.{next_start-cell}
use Rattle.sim_world.proofs.life.LifeCell.is_next_refused.Goals as goal

pub returns : goal.returns
returns c = c.is_refused.ensures ∙ ap is_refused (c.next_start.ensures.start ∙ next_start-cell c.args.lines.now c.args.self.now c.requires)

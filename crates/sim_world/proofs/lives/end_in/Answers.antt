use Rattle.std.proofs.Common.{◌∙◌}
use Rattle.sim_world.specs.Scripts.{after_end}
use Rattle.sim_world.specs.laws.CellLaws.{Moved-cell, Moved-unknown, has_life-cell}
use Rattle.sim_world.proofs.lives.end_in.Goals as goal

pub returns-in-Some-clause-moved : goal.returns-in-Some-clause-moved
returns-in-Some-clause-moved c = Moved-cell _ c.args.app c.in-Some.i c.args.cells.now _ _ (λ a. after_end) c.in-Some.ensures.some c.end.ensures.app (c.end.ensures.life c.args.lines.now.replies)

pub returns-in_default-clause-moved : goal.returns-in_default-clause-moved
returns-in_default-clause-moved c = Moved-unknown c.args.app _ (has_life-cell c.args.lines.now.replies c.args.app c.args.cells.now ∙ c.in_default.ensures.none)

use Rattle.std.proofs.Common.{sym, ap, ◌∙◌}
use Rattle.sim_world.specs.Scripts.{Life}
use Rattle.sim_world.specs.laws.CellLaws.{first_running, has_life-cell, unknown_is_fresh}
use Rattle.sim_world.specs.Scripts.{fresh}
use Rattle.sim_world.proofs.lives.is_running_in.Goals as goal

pub returns-in-Some : goal.returns-in-Some
returns-in-Some c = λ replies. sym (first_running replies c.args.app c.in-Some.i c.args.cells.now _ c.in-Some.ensures.some)

pub returns-in-None : goal.returns-in-None
unfolding fresh
returns-in-None c = λ replies. sym (ap (λ (l : Life). l.running) (unknown_is_fresh c.args.app _ (has_life-cell replies c.args.app c.args.cells.now ∙ c.in-None.ensures.none)))

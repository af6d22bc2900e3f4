use Rattle.std.proofs.Common.{ap, ◌∙◌}
use Rattle.sim_world.specs.Scripts.{Life}
use Rattle.sim_world.specs.laws.CellLaws.{seen_life}
use Rattle.sim_world.proofs.lives.Lives.is_running.Goals as goal

pub returns : goal.returns
returns c = c.is_running_in.ensures c.self.inside.lines.replies ∙ ap (λ (l : Life). l.running) (seen_life c.args.app c.args.self.now c.self.inside.lines c.self.inside.cells.items _ c.self.view_is c.deref.ensures.value)

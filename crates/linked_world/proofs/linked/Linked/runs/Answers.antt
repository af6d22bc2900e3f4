use Rattle.std.proofs.Common.{sym, ◌∙◌}
use Rattle.linked_world.specs.laws.AppCallLaws.{runs_by}
use Rattle.linked_world.proofs.linked.Linked.runs.Goals as goal

pub returns-clause-seen : goal.returns-clause-seen
returns-clause-seen g c = rw (← c.self.view_is) (λ told. runs_by g.W.World.seen c.args.app _ c.self.invariant told ∙ sym c.runs.ensures)

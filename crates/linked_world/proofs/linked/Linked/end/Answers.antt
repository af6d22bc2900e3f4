use Rattle.linked_world.specs.laws.AppCallLaws.{ends_by, ends_stands}
use Rattle.linked_world.proofs.linked.Linked.end.Goals as goal

pub invariant_of-self : goal.invariant_of-self
invariant_of-self g c = ends_stands g.W.World.seen _ _ _ c.self.invariant c.end.ensures

pub returns-clause-seen : goal.returns-clause-seen
returns-clause-seen g c = rw (← c.self.view_is) (ends_by g.W.World.seen _ _ _ c.self.invariant c.end.ensures)

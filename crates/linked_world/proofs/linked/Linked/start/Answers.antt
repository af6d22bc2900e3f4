use Rattle.linked_world.specs.laws.AppCallLaws.{starts_by, starts_stands}
use Rattle.linked_world.proofs.linked.Linked.start.Goals as goal

pub invariant_of-self : goal.invariant_of-self
invariant_of-self g c = starts_stands g.W.World.seen _ _ _ _ c.self.invariant c.start.ensures.notes

pub returns-clause-seen : goal.returns-clause-seen
returns-clause-seen g c = rw (← c.self.view_is) (starts_by g.W.World.seen _ _ _ _ c.self.invariant c.start.ensures.notes c.start.ensures.out)

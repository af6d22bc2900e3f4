use Rattle.linked_world.specs.laws.AppCallLaws.{takes_by, takes_stands}
use Rattle.linked_world.proofs.linked.Linked.take.Goals as goal

pub invariant_of-self : goal.invariant_of-self
invariant_of-self g c = takes_stands g.W.World.seen _ _ _ _ _ c.self.invariant c.take.ensures.notes

pub returns-clause-seen : goal.returns-clause-seen
returns-clause-seen g c = rw (← c.self.view_is) (takes_by g.W.World.seen _ _ _ _ _ c.self.invariant c.take.ensures.notes c.take.ensures.taken c.take.ensures.out)

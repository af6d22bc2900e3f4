use Rattle.linked_world.specs.laws.AppCallLaws.{gives_by, gives_stands}
use Rattle.linked_world.proofs.linked.Linked.give.Goals as goal

pub invariant_of-self : goal.invariant_of-self
invariant_of-self g c = gives_stands g.W.World.seen _ _ _ _ _ c.self.invariant c.give.ensures.notes

pub returns-clause-seen : goal.returns-clause-seen
returns-clause-seen g c = rw (← c.self.view_is) (gives_by g.W.World.seen _ _ _ _ _ c.self.invariant c.give.ensures.notes c.give.ensures.out)

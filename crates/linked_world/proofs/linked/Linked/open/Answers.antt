use Rattle.linked_world.specs.laws.LinkCallLaws.{opens_linked, opens_stands}
use Rattle.linked_world.proofs.linked.Linked.open.Goals as goal

pub invariant_of-self : goal.invariant_of-self
invariant_of-self g c = opens_stands g.W.World.seen _ _ _ c.self.invariant c.open.ensures.moved c.open.ensures.call

pub returns-clause-seen : goal.returns-clause-seen
returns-clause-seen g c = rw (← c.self.view_is) (opens_linked g.W.World.seen _ _ _ c.self.invariant c.open.ensures.moved c.open.ensures.call)

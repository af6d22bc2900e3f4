use Rattle.linked_world.specs.laws.LinkCallLaws.{receives_linked, receives_stands}
use Rattle.linked_world.proofs.linked.Linked.recv.Goals as goal

pub invariant_of-self : goal.invariant_of-self
invariant_of-self g c = receives_stands g.W.World.seen _ _ _ _ _ c.self.invariant c.recv.ensures.moved c.recv.ensures.call

pub returns-clause-seen : goal.returns-clause-seen
returns-clause-seen g c = rw (← c.self.view_is) (receives_linked g.W.World.seen _ _ _ _ _ c.self.invariant c.recv.ensures.moved c.recv.ensures.call)

use Rattle.linked_world.specs.laws.LinkCallLaws.{sends_linked, sends_stands}
use Rattle.linked_world.proofs.linked.Linked.send.Goals as goal

pub invariant_of-self : goal.invariant_of-self
invariant_of-self g c = sends_stands g.W.World.seen _ _ _ _ _ c.self.invariant c.send.ensures.moved c.send.ensures.call

pub returns-clause-seen : goal.returns-clause-seen
returns-clause-seen g c = rw (← c.self.view_is) (sends_linked g.W.World.seen _ _ _ _ _ c.self.invariant c.send.ensures.moved c.send.ensures.call)

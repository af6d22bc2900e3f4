use Rattle.linked_world.specs.laws.LinkCallLaws.{nexts_linked, nexts_stands}
use Rattle.linked_world.proofs.linked.Linked.next.Goals as goal

pub invariant_of-self : goal.invariant_of-self
invariant_of-self g c = nexts_stands g.W.World.seen _ _ _ _ c.self.invariant c.next.ensures.moved c.next.ensures.call

pub returns-clause-seen : goal.returns-clause-seen
returns-clause-seen g c = rw (← c.self.view_is) (nexts_linked g.W.World.seen _ _ _ _ c.self.invariant c.next.ensures.moved c.next.ensures.call)

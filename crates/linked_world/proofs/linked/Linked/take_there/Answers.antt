use Rattle.linked_world.specs.laws.ThereLaws.{takes_there, takes_stands_there}
use Rattle.linked_world.proofs.linked.Linked.take_there.Goals as goal

pub invariant_of-self : goal.invariant_of-self
invariant_of-self g c = takes_stands_there g.W.World.seen _ _ _ _ _ c.self.invariant c.take_there.ensures.moved c.take_there.ensures.call

pub returns-clause-seen : goal.returns-clause-seen
returns-clause-seen g c = rw (← c.self.view_is) (takes_there g.W.World.seen _ _ _ _ _ c.self.invariant (rw c.self.view_is c.requires.runs) c.take_there.ensures.moved c.take_there.ensures.call)

use Rattle.linked_world.specs.laws.ThereLaws.{gives_there, gives_stands_there}
use Rattle.linked_world.proofs.linked.Linked.give_there.Goals as goal

pub invariant_of-self : goal.invariant_of-self
invariant_of-self g c = gives_stands_there g.W.World.seen _ _ _ _ _ c.self.invariant c.give_there.ensures.moved c.give_there.ensures.call

pub returns-clause-seen : goal.returns-clause-seen
returns-clause-seen g c = rw (← c.self.view_is) (gives_there g.W.World.seen _ _ _ _ _ c.self.invariant (rw c.self.view_is c.requires) c.give_there.ensures.moved c.give_there.ensures.call)

use Rattle.linked_world.specs.laws.ThereLaws.{ends_there, ends_stands_there}
use Rattle.linked_world.proofs.linked.Linked.end_there.Goals as goal

pub invariant_of-self : goal.invariant_of-self
invariant_of-self g c = ends_stands_there g.W.World.seen _ _ _ c.self.invariant c.end_there.ensures.moved
    (record { here = c.end_there.ensures.here; others = c.end_there.ensures.others }) c.end_there.ensures.call

pub returns-clause-seen : goal.returns-clause-seen
returns-clause-seen g c = rw (← c.self.view_is) (ends_there g.W.World.seen _ _ _ c.self.invariant c.end_there.ensures.moved c.end_there.ensures.call)

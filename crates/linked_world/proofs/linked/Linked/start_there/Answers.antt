use Rattle.linked_world.specs.laws.ThereLaws.{restarts_there, restarts_stands_there}
use Rattle.linked_world.proofs.linked.Linked.start_there.Goals as goal

pub invariant_of-self : goal.invariant_of-self
invariant_of-self g c = restarts_stands_there g.W.World.seen _ _ _ _ c.self.invariant c.start_there.ensures.moved
    (record { here = c.start_there.ensures.here; others = c.start_there.ensures.others }) c.start_there.ensures.call

pub returns-clause-seen : goal.returns-clause-seen
returns-clause-seen g c = rw (← c.self.view_is) (restarts_there g.W.World.seen _ _ _ _ c.self.invariant c.start_there.ensures.moved c.start_there.ensures.call)

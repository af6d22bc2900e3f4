use Rattle.linked_world.specs.laws.ThereLaws.{shorted_by, shorted_stands}
use Rattle.linked_world.proofs.linked.Linked.want_memory.Goals as goal

pub invariant_of-self : goal.invariant_of-self
invariant_of-self g c = shorted_stands g.W.World.seen _ _ c.self.invariant c.want_memory.ensures

pub returns-clause-seen : goal.returns-clause-seen
returns-clause-seen g c = rw (← c.self.view_is) (shorted_by g.W.World.seen _ _ c.self.invariant c.want_memory.ensures)

use Rattle.std.specs.Prelude.{[]}
use Rattle.linked_world.specs.laws.AppCallLaws.{takes_short, short_stands}
use Rattle.linked_world.proofs.linked.Linked.take_short.Goals as goal

pub invariant_of-self : goal.invariant_of-self
invariant_of-self g c = short_stands g.W.World.seen _ _ _ _ c.self.invariant c.take_short.ensures.notes

pub returns-clause-seen : goal.returns-clause-seen
returns-clause-seen g c = rw (← c.self.view_is) (λ buf. takes_short g.W.World.seen _ _ _ _ buf c.self.invariant (c.take_short.ensures.notes buf))

pub returns-clause-links : goal.returns-clause-links
returns-clause-links g c = rw (← c.self.view_is) ((c.take_short.ensures.notes []).links)

use Rattle.linked_world.specs.laws.WordLaws.{linked_in_order, linked_keeps_word}
use Rattle.linked_world.proofs.linked.Linked.keeps_word.Goals as goal

pub returns-clause-order : goal.returns-clause-order
returns-clause-order g c = rw (← c.self.view_is) (linked_in_order g.W.World.seen _ c.self.invariant)

pub returns-clause-word : goal.returns-clause-word
returns-clause-word g c = rw (← c.self.view_is) (linked_keeps_word g.W.World.seen _ c.self.invariant)

use Rattle.event_dispatch.specs.laws.OfferLaws.{OffersSoFar}
use Rattle.event_dispatch.proofs.dispatch.offer_all.Given as goal

abbrev pub invariant-loop-at : goal.invariant-loop-at
invariant-loop-at g l = OffersSoFar g.W.World.Tells (g.J.Judge.accepts l.fn.judge) l.fn.event l.at (g.W.World.seen l.fn.world) (g.W.World.seen l.world) l.fn.core l.core l.fn.apps.items l.apps.items

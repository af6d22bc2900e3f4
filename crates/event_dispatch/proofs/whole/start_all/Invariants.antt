use Rattle.event_dispatch.specs.laws.BeginLaws.{StartsSoFar}
use Rattle.event_dispatch.proofs.whole.start_all.Given as goal

abbrev pub invariant-loop-at : goal.invariant-loop-at
invariant-loop-at g l = StartsSoFar g.W.World.Tells l.at (g.W.World.seen l.fn.world) (g.W.World.seen l.world) l.fn.core l.core l.fn.apps.items l.apps.items

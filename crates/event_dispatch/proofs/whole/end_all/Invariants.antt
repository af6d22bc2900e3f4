use Rattle.outside.specs.Seen.{Continues}
use Rattle.event_dispatch.specs.laws.EndedLaws.{EndedSoFar}
use Rattle.event_dispatch.proofs.whole.end_all.Given as goal

abbrev pub invariant-loop-app : goal.invariant-loop-app
invariant-loop-app g l = record {
  continues : Continues g.W.World.Tells (g.W.World.seen l.fn.world) (g.W.World.seen l.world);
  so_far : EndedSoFar g.W.World.Tells l.apps l.app (g.W.World.seen l.fn.world) (g.W.World.seen l.world);
}
